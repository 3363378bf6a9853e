use Rattle.std.proofs.Common.{◌++◌, codes}
use Rattle.mvs_model.specs.Texts.{hex}
use Rattle.line_text.proofs.Appending.{trailing}
use Rattle.explanation.proofs.reasons.push_overlap.Goals as goal

pub returns-clause-text : goal.returns-clause-text
returns-clause-text c = (trailing c.args.text.now c.push_word-3.new.self c.push_str-4.new.self (codes "The members at " ++ hex 8 c.args.one ++ codes " and " ++ hex 8 c.args.other ++ codes " both contain the doubleword at " ++ hex 8 c.args.addr) (codes ". (rule 32)") (trailing c.args.text.now c.push_str-3.new.self c.push_word-3.new.self (codes "The members at " ++ hex 8 c.args.one ++ codes " and " ++ hex 8 c.args.other ++ codes " both contain the doubleword at ") (hex 8 c.args.addr) (trailing c.args.text.now c.push_word-2.new.self c.push_str-3.new.self (codes "The members at " ++ hex 8 c.args.one ++ codes " and " ++ hex 8 c.args.other) (codes " both contain the doubleword at ") (trailing c.args.text.now c.push_str-2.new.self c.push_word-2.new.self (codes "The members at " ++ hex 8 c.args.one ++ codes " and ") (hex 8 c.args.other) (trailing c.args.text.now c.push_word.new.self c.push_str-2.new.self (codes "The members at " ++ hex 8 c.args.one) (codes " and ") (trailing c.args.text.now c.push_str.new.self c.push_word.new.self (codes "The members at ") (hex 8 c.args.one) c.push_str.ensures.text (rw (c.get.ensures.value) at c.push_word.ensures.text)) c.push_str-2.ensures.text) (rw (c.get-2.ensures.value) at c.push_word-2.ensures.text)) c.push_str-3.ensures.text) (rw (c.get-3.ensures.value) at c.push_word-3.ensures.text)) c.push_str-4.ensures.text)
