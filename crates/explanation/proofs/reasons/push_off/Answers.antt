use Rattle.std.proofs.Common.{◌*◌, ◌/◌, ◌%◌, ◌++◌, codes, decimal}
use Rattle.mvs_model.specs.Texts.{hex}
use Rattle.line_text.proofs.Appending.{trailing}
use Rattle.explanation.proofs.reasons.push_off.Goals as goal

pub returns-clause-text : goal.returns-clause-text
returns-clause-text c = (trailing c.args.text.now c.push_word-2.new.self c.push_str-3.new.self (hex 8 c.args.addr ++ codes " is not on a doubleword: offset " ++ decimal (c.args.addr % 8) ++ codes " from " ++ hex 8 (8 * (c.args.addr / 8))) (codes ". (rule 29)") (trailing c.args.text.now c.push_str-2.new.self c.push_word-2.new.self (hex 8 c.args.addr ++ codes " is not on a doubleword: offset " ++ decimal (c.args.addr % 8) ++ codes " from ") (hex 8 (8 * (c.args.addr / 8))) (trailing c.args.text.now c.push_decimal.new.self c.push_str-2.new.self (hex 8 c.args.addr ++ codes " is not on a doubleword: offset " ++ decimal (c.args.addr % 8)) (codes " from ") (trailing c.args.text.now c.push_str.new.self c.push_decimal.new.self (hex 8 c.args.addr ++ codes " is not on a doubleword: offset ") (decimal (c.args.addr % 8)) (trailing c.args.text.now c.push_word.new.self c.push_str.new.self (hex 8 c.args.addr) (codes " is not on a doubleword: offset ") (rw (c.get-addr.ensures.value) at c.push_word.ensures.text) c.push_str.ensures.text) (rw (c.get-addr.ensures.value) at c.push_decimal.ensures.text)) c.push_str-2.ensures.text) (rw (c.get-addr.ensures.value) at c.push_word-2.ensures.text)) c.push_str-3.ensures.text)
