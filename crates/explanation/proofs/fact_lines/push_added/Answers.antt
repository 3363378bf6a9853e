use Rattle.std.proofs.Common.{◌++◌, codes, decimal}
use Rattle.line_text.proofs.Appending.{trailing}
use Rattle.explanation.proofs.fact_lines.push_added.Goals as goal

pub returns-clause-text : goal.returns-clause-text
returns-clause-text c =
    trailing c.args.text.now c.push_decimal.new.self c.push_str-2.new.self (codes ", " ++ decimal c.args.added) (codes " of them added by rounding. (rule 3)")
    (trailing c.args.text.now c.push_str.new.self c.push_decimal.new.self (codes ", ") (decimal c.args.added) c.push_str.ensures.text c.push_decimal.ensures.text) c.push_str-2.ensures.text
