use Rattle.std.proofs.Common.{◌++◌, codes, decimal}
use Rattle.mvs_model.specs.Name.{trimmed}
use Rattle.mvs_model.specs.Reasons.{number_of}
use Rattle.line_text.proofs.Appending.{trailing}
use Rattle.explanation.proofs.reasons.push_no_subpool.Goals as goal

pub returns-clause-text : goal.returns-clause-text
returns-clause-text c = (trailing c.args.text.now c.push_decimal.new.self c.push_str-2.new.self (trimmed c.args.effective_task.now ++ codes " has no subpool " ++ decimal (number_of c.args.request.now)) (codes ". (rule 26)") (trailing c.args.text.now c.push_str.new.self c.push_decimal.new.self (trimmed c.args.effective_task.now ++ codes " has no subpool ") (decimal (number_of c.args.request.now)) (trailing c.args.text.now c.push_name.new.self c.push_str.new.self (trimmed c.args.effective_task.now) (codes " has no subpool ") c.push_name.ensures.text c.push_str.ensures.text) (rw (c.number.ensures) at c.push_decimal.ensures.text)) c.push_str-2.ensures.text)
