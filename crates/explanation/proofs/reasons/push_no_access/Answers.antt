use Rattle.std.proofs.Common.{◌++◌, codes}
use Rattle.mvs_model.specs.Texts.{hex}
use Rattle.explanation.specs.ReasonTexts.{holder_text}
use Rattle.line_text.proofs.Appending.{trailing}
use Rattle.explanation.proofs.reasons.push_no_access.Goals as goal

pub returns-clause-text : goal.returns-clause-text
returns-clause-text c =
    trailing c.args.text.now c.push_holder.new.text c.push_str.new.self (hex 8 c.args.addr ++ holder_text c.args.holder.now) (codes "; only obtained storage and allocated cells can be accessed. (rule 38)")
    (trailing c.args.text.now c.push_word.new.self c.push_holder.new.text (hex 8 c.args.addr) (holder_text c.args.holder.now) (rw (c.get.ensures.value) at c.push_word.ensures.text) c.push_holder.ensures.text) c.push_str.ensures.text
