use Rattle.std.proofs.Common.{◌-◌, ◌++◌, codes}
use Rattle.mvs_model.specs.Name.{trimmed}
use Rattle.mvs_model.specs.Texts.{hex}
use Rattle.explanation.specs.FactTexts.{place_text}
use Rattle.explanation.specs.NamingTexts.{by_line_text, into_text}
use Rattle.line_text.proofs.Appending.{trailing}
use Rattle.explanation.proofs.naming.push_inside.Goals as goal

pub returns-clause-text : goal.returns-clause-text
returns-clause-text c = (trailing c.args.text.now c.push_place.new.text c.push_by_line.new.text (hex 8 c.args.addr ++ codes " is " ++ into_text (c.args.addr - c.args.place.addr) ++ trimmed c.args.name.now ++ codes ", " ++ place_text c.args.place) (by_line_text c.args.number) (trailing c.args.text.now c.push_str-2.new.self c.push_place.new.text (hex 8 c.args.addr ++ codes " is " ++ into_text (c.args.addr - c.args.place.addr) ++ trimmed c.args.name.now ++ codes ", ") (place_text c.args.place) (trailing c.args.text.now c.push_name.new.self c.push_str-2.new.self (hex 8 c.args.addr ++ codes " is " ++ into_text (c.args.addr - c.args.place.addr) ++ trimmed c.args.name.now) (codes ", ") (trailing c.args.text.now c.push_into.new.text c.push_name.new.self (hex 8 c.args.addr ++ codes " is " ++ into_text (c.args.addr - c.args.place.addr)) (trimmed c.args.name.now) (trailing c.args.text.now c.push_str.new.self c.push_into.new.text (hex 8 c.args.addr ++ codes " is ") (into_text (c.args.addr - c.args.place.addr)) (trailing c.args.text.now c.push_word.new.self c.push_str.new.self (hex 8 c.args.addr) (codes " is ") (rw (c.get.ensures.value) at c.push_word.ensures.text) c.push_str.ensures.text) (rw (c.distance.ensures, c.addr.ensures) at c.push_into.ensures.text)) c.push_name.ensures.text) c.push_str-2.ensures.text) c.push_place.ensures.text) c.push_by_line.ensures.text)
