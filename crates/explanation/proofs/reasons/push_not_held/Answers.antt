use Rattle.std.proofs.Common.{◌++◌, codes, decimal}
use Rattle.mvs_model.specs.Texts.{hex}
use Rattle.explanation.specs.ReasonTexts.{holder_text, owner_text}
use Rattle.line_text.proofs.Appending.{trailing}
use Rattle.explanation.proofs.reasons.push_not_held.Goals as goal

pub returns-clause-text : goal.returns-clause-text
returns-clause-text c = (trailing c.args.text.now c.push_owner.new.text c.push_str-3.new.self (hex 8 c.args.addr ++ holder_text c.args.holder.now ++ codes "; SP " ++ decimal c.args.number ++ codes " of " ++ owner_text c.args.task.now c.args.number c.args.owner) (codes " does not hold it outside cell pools. (rules 26, 66)") (trailing c.args.text.now c.push_str-2.new.self c.push_owner.new.text (hex 8 c.args.addr ++ holder_text c.args.holder.now ++ codes "; SP " ++ decimal c.args.number ++ codes " of ") (owner_text c.args.task.now c.args.number c.args.owner) (trailing c.args.text.now c.push_decimal.new.self c.push_str-2.new.self (hex 8 c.args.addr ++ holder_text c.args.holder.now ++ codes "; SP " ++ decimal c.args.number) (codes " of ") (trailing c.args.text.now c.push_str.new.self c.push_decimal.new.self (hex 8 c.args.addr ++ holder_text c.args.holder.now ++ codes "; SP ") (decimal c.args.number) (trailing c.args.text.now c.push_holder.new.text c.push_str.new.self (hex 8 c.args.addr ++ holder_text c.args.holder.now) (codes "; SP ") (trailing c.args.text.now c.push_word.new.self c.push_holder.new.text (hex 8 c.args.addr) (holder_text c.args.holder.now) (rw (c.get.ensures.value) at c.push_word.ensures.text) c.push_holder.ensures.text) c.push_str.ensures.text) c.push_decimal.ensures.text) c.push_str-2.ensures.text) c.push_owner.ensures.text) c.push_str-3.ensures.text)
