use Rattle.std.proofs.Common.{◌++◌, codes, decimal}
use Rattle.mvs_model.specs.Name.{trimmed}
use Rattle.mvs_model.specs.Texts.{hex}
use Rattle.explanation.specs.NamingTexts.{by_line_text}
use Rattle.line_text.proofs.Appending.{trailing}
use Rattle.explanation.proofs.naming.push_first.Goals as goal

pub returns-clause-text : goal.returns-clause-text
returns-clause-text c = (trailing c.args.text.now c.push_str-3.new.self c.push_by_line.new.text (hex 8 c.args.place.addr ++ codes " is " ++ trimmed c.args.name.now ++ codes ", " ++ decimal c.args.place.len ++ codes " bytes") (by_line_text c.args.number) (trailing c.args.text.now c.push_decimal.new.self c.push_str-3.new.self (hex 8 c.args.place.addr ++ codes " is " ++ trimmed c.args.name.now ++ codes ", " ++ decimal c.args.place.len) (codes " bytes") (trailing c.args.text.now c.push_str-2.new.self c.push_decimal.new.self (hex 8 c.args.place.addr ++ codes " is " ++ trimmed c.args.name.now ++ codes ", ") (decimal c.args.place.len) (trailing c.args.text.now c.push_name.new.self c.push_str-2.new.self (hex 8 c.args.place.addr ++ codes " is " ++ trimmed c.args.name.now) (codes ", ") (trailing c.args.text.now c.push_str.new.self c.push_name.new.self (hex 8 c.args.place.addr ++ codes " is ") (trimmed c.args.name.now) (trailing c.args.text.now c.push_word.new.self c.push_str.new.self (hex 8 c.args.place.addr) (codes " is ") (rw (c.get.ensures.value, c.addr.ensures) at c.push_word.ensures.text) c.push_str.ensures.text) c.push_name.ensures.text) c.push_str-2.ensures.text) (rw (c.len.ensures.len) at c.push_decimal.ensures.text)) c.push_str-3.ensures.text) c.push_by_line.ensures.text)
