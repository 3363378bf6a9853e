use Rattle.std.proofs.Common.{◌++◌, codes}
use Rattle.mvs_model.specs.Name.{trimmed}
use Rattle.explanation.specs.FactTexts.{subpool_words}
use Rattle.line_text.proofs.Appending.{trailing}
use Rattle.explanation.proofs.fact_lines.push_shared.Goals as goal

pub returns-clause-text : goal.returns-clause-text
returns-clause-text c = (trailing c.args.text.now c.push_subpool.new.text c.push_str-2.new.self (trimmed c.args.subtask.now ++ codes " shares " ++ subpool_words c.args.number c.args.owner.now) (codes ". (rule 44)") (trailing c.args.text.now c.push_str.new.self c.push_subpool.new.text (trimmed c.args.subtask.now ++ codes " shares ") (subpool_words c.args.number c.args.owner.now) (trailing c.args.text.now c.push_name.new.self c.push_str.new.self (trimmed c.args.subtask.now) (codes " shares ") c.push_name.ensures.text c.push_str.ensures.text) c.push_subpool.ensures.text) c.push_str-2.ensures.text)
