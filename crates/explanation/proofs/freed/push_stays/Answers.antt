use Rattle.std.proofs.Common.{◌++◌, codes, decimal}
use Rattle.mvs_model.specs.Name.{trimmed}
use Rattle.line_text.proofs.Appending.{trailing}
use Rattle.explanation.proofs.freed.push_stays.Goals as goal

pub returns-clause-text : goal.returns-clause-text
returns-clause-text c = (trailing c.args.text.now c.push_name-2.new.self c.push_str-4.new.self (codes "SP " ++ decimal c.args.number ++ codes " of " ++ trimmed c.args.owner.now ++ codes " remains: " ++ trimmed c.args.task.now) (codes " shared it. (rule 53)") (trailing c.args.text.now c.push_str-3.new.self c.push_name-2.new.self (codes "SP " ++ decimal c.args.number ++ codes " of " ++ trimmed c.args.owner.now ++ codes " remains: ") (trimmed c.args.task.now) (trailing c.args.text.now c.push_name.new.self c.push_str-3.new.self (codes "SP " ++ decimal c.args.number ++ codes " of " ++ trimmed c.args.owner.now) (codes " remains: ") (trailing c.args.text.now c.push_str-2.new.self c.push_name.new.self (codes "SP " ++ decimal c.args.number ++ codes " of ") (trimmed c.args.owner.now) (trailing c.args.text.now c.push_decimal.new.self c.push_str-2.new.self (codes "SP " ++ decimal c.args.number) (codes " of ") (trailing c.args.text.now c.push_str.new.self c.push_decimal.new.self (codes "SP ") (decimal c.args.number) c.push_str.ensures.text c.push_decimal.ensures.text) c.push_str-2.ensures.text) c.push_name.ensures.text) c.push_str-3.ensures.text) c.push_name-2.ensures.text) c.push_str-4.ensures.text)
