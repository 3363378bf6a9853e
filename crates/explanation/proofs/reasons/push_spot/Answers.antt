use Rattle.std.proofs.Common.{codes}
use Rattle.mvs_model.specs.Texts.{hex}
use Rattle.line_text.proofs.Appending.{trailing}
use Rattle.explanation.proofs.reasons.push_spot.Goals as goal

pub returns-in-Inside-clause-text : goal.returns-in-Inside-clause-text
returns-in-Inside-clause-text c = rw (c.in-Inside.is) (trailing c.args.text.now c.push_str-in-Inside.new.self c.push_word.new.self (codes "it is inside the cell at ") (hex 8 c.in-Inside.first) c.push_str-in-Inside.ensures.text (rw (c.get.ensures.value) at c.push_word.ensures.text))
