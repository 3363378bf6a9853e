use Rattle.std.proofs.Common.{◌++◌, codes}
use Rattle.mvs_model.specs.Name.{trimmed}
use Rattle.line_text.proofs.Appending.{trailing}
use Rattle.explanation.proofs.reasons.push_subtask.Goals as goal

pub returns-clause-text : goal.returns-clause-text
returns-clause-text c = (trailing c.args.text.now c.push_name-2.new.self c.push_str-2.new.self (trimmed c.args.subtask.now ++ codes ", a subtask of " ++ trimmed c.args.task.now) (codes ", is active. (rule 54)") (trailing c.args.text.now c.push_str.new.self c.push_name-2.new.self (trimmed c.args.subtask.now ++ codes ", a subtask of ") (trimmed c.args.task.now) (trailing c.args.text.now c.push_name.new.self c.push_str.new.self (trimmed c.args.subtask.now) (codes ", a subtask of ") c.push_name.ensures.text c.push_str.ensures.text) c.push_name-2.ensures.text) c.push_str-2.ensures.text)
