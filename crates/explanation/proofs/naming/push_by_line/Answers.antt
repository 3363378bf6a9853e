use Rattle.std.proofs.Common.{◌++◌, codes, decimal}
use Rattle.line_text.proofs.Appending.{trailing}
use Rattle.explanation.proofs.naming.push_by_line.Goals as goal

pub returns-clause-text : goal.returns-clause-text
returns-clause-text c = (trailing c.args.text.now c.push_decimal.new.self c.push_str-2.new.self (codes " obtained in line " ++ decimal c.args.number) (codes ". (rule 37)") (trailing c.args.text.now c.push_str.new.self c.push_decimal.new.self (codes " obtained in line ") (decimal c.args.number) c.push_str.ensures.text c.push_decimal.ensures.text) c.push_str-2.ensures.text)
