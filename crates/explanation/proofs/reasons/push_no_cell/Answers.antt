use Rattle.std.proofs.Common.{◌++◌, codes}
use Rattle.mvs_model.specs.Texts.{hex}
use Rattle.explanation.specs.ReasonTexts.{cell_of, named, spot_text}
use Rattle.line_text.proofs.Appending.{trailing}
use Rattle.explanation.proofs.reasons.push_no_cell.Goals as goal

pub returns-clause-text : goal.returns-clause-text
returns-clause-text c = (trailing c.args.text.now c.push_spot.new.text c.push_str-4.new.self (codes "No allocated cell of pool " ++ named c.args.request.now ++ codes " begins at " ++ hex 8 (cell_of c.args.request.now) ++ codes ": " ++ spot_text c.args.spot.now) (codes ". (rule 63)") (trailing c.args.text.now c.push_str-3.new.self c.push_spot.new.text (codes "No allocated cell of pool " ++ named c.args.request.now ++ codes " begins at " ++ hex 8 (cell_of c.args.request.now) ++ codes ": ") (spot_text c.args.spot.now) (trailing c.args.text.now c.push_word.new.self c.push_str-3.new.self (codes "No allocated cell of pool " ++ named c.args.request.now ++ codes " begins at " ++ hex 8 (cell_of c.args.request.now)) (codes ": ") (trailing c.args.text.now c.push_str-2.new.self c.push_word.new.self (codes "No allocated cell of pool " ++ named c.args.request.now ++ codes " begins at ") (hex 8 (cell_of c.args.request.now)) (trailing c.args.text.now c.push_named.new.text c.push_str-2.new.self (codes "No allocated cell of pool " ++ named c.args.request.now) (codes " begins at ") (trailing c.args.text.now c.push_str.new.self c.push_named.new.text (codes "No allocated cell of pool ") (named c.args.request.now) c.push_str.ensures.text c.push_named.ensures.text) c.push_str-2.ensures.text) (rw (c.cell.ensures) at c.push_word.ensures.text)) c.push_str-3.ensures.text) c.push_spot.ensures.text) c.push_str-4.ensures.text)
