use Rattle.std.proofs.Common.{◌++◌, codes, decimal}
use Rattle.line_text.proofs.Appending.{trailing}
use Rattle.explanation.proofs.fact_lines.push_between.Goals as goal

pub returns-clause-text : goal.returns-clause-text
returns-clause-text c = (trailing c.args.text.now c.push_decimal-2.new.self c.push_str-3.new.self (codes ", " ++ decimal c.args.least ++ codes " to " ++ decimal c.args.most) (codes " requested. (rule 20)") (trailing c.args.text.now c.push_str-2.new.self c.push_decimal-2.new.self (codes ", " ++ decimal c.args.least ++ codes " to ") (decimal c.args.most) (trailing c.args.text.now c.push_decimal.new.self c.push_str-2.new.self (codes ", " ++ decimal c.args.least) (codes " to ") (trailing c.args.text.now c.push_str.new.self c.push_decimal.new.self (codes ", ") (decimal c.args.least) c.push_str.ensures.text c.push_decimal.ensures.text) c.push_str-2.ensures.text) c.push_decimal-2.ensures.text) c.push_str-3.ensures.text)
