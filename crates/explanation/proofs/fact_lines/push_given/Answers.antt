use Rattle.std.proofs.Common.{◌++◌, codes, decimal}
use Rattle.mvs_model.specs.Name.{trimmed}
use Rattle.line_text.proofs.Appending.{trailing}
use Rattle.explanation.proofs.fact_lines.push_given.Goals as goal

pub returns-clause-text : goal.returns-clause-text
returns-clause-text c = (trailing c.args.text.now c.push_name-2.new.self c.push_str-3.new.self (trimmed c.args.subtask.now ++ codes " now owns SP " ++ decimal c.args.number ++ codes ", given by " ++ trimmed c.args.mother.now) (codes ". (rule 43)") (trailing c.args.text.now c.push_str-2.new.self c.push_name-2.new.self (trimmed c.args.subtask.now ++ codes " now owns SP " ++ decimal c.args.number ++ codes ", given by ") (trimmed c.args.mother.now) (trailing c.args.text.now c.push_number.new.text c.push_str-2.new.self (trimmed c.args.subtask.now ++ codes " now owns SP " ++ decimal c.args.number) (codes ", given by ") (trailing c.args.text.now c.push_str.new.self c.push_number.new.text (trimmed c.args.subtask.now ++ codes " now owns SP ") (decimal c.args.number) (trailing c.args.text.now c.push_name.new.self c.push_str.new.self (trimmed c.args.subtask.now) (codes " now owns SP ") c.push_name.ensures.text c.push_str.ensures.text) c.push_number.ensures.text) c.push_str-2.ensures.text) c.push_name-2.ensures.text) c.push_str-3.ensures.text)
