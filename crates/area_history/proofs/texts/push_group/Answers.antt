use Rattle.std.proofs.Common.{◌++◌, ◌∙◌, ap, codes, sym}
use Rattle.mvs_model.specs.Name.{trimmed}
use Rattle.area_history.specs.LeakTexts.{group_text}
use Rattle.line_text.proofs.Appending.{trailing}
use Rattle.area_history.proofs.texts.push_group.Goals as goal

pub returns-in-Task-clause-text : goal.returns-in-Task-clause-text
returns-in-Task-clause-text c = trailing c.args.text.now c.push_str-in-Task.new.self c.push_name.new.self (codes "Obtained by ") (trimmed c.in-Task.task) (c.push_str-in-Task.ensures.text) (c.push_name.ensures.text) ∙ ap (λ g. c.args.text.now ++ group_text g) (sym c.in-Task.is)
