use Rattle.std.proofs.Common.{◌++◌, codes, decimal}
use Rattle.area_history.specs.LeakTexts.{areas_text, number_text}
use Rattle.line_text.proofs.Appending.{trailing}
use Rattle.area_history.proofs.texts.push_heading.Goals as goal

pub returns-clause-text : goal.returns-clause-text
returns-clause-text c = trailing c.args.text.now c.push_number.new.text c.push_str-3.new.self (codes "Never released: " ++ areas_text c.args.leaks.now.count ++ codes ", " ++ number_text c.args.leaks.now.bytes) (codes " bytes.") (trailing c.args.text.now c.push_str-2.new.self c.push_number.new.text (codes "Never released: " ++ areas_text c.args.leaks.now.count ++ codes ", ") (number_text c.args.leaks.now.bytes) (trailing c.args.text.now c.push_areas.new.text c.push_str-2.new.self (codes "Never released: " ++ areas_text c.args.leaks.now.count) (codes ", ") (trailing c.args.text.now c.push_str.new.self c.push_areas.new.text (codes "Never released: ") (areas_text c.args.leaks.now.count) (c.push_str.ensures.text) (c.push_areas.ensures.text)) (c.push_str-2.ensures.text)) (c.push_number.ensures.text)) (c.push_str-3.ensures.text)
