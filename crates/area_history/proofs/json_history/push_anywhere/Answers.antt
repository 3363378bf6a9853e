use Rattle.std.proofs.Common.{◌++◌, codes, decimal}
use Rattle.line_text.proofs.Appending.{trailing}
use Rattle.area_history.proofs.json_history.push_anywhere.Goals as goal

pub returns-clause-text : goal.returns-clause-text
returns-clause-text c = (trailing c.args.text.now c.push_decimal.new.self c.push_str-2.new.self (codes "{\"event\":\"with_loc_any\",\"longest\":" ++ decimal c.args.longest) (codes ",\"rules\":[14]}\n") (trailing c.args.text.now c.push_str.new.self c.push_decimal.new.self (codes "{\"event\":\"with_loc_any\",\"longest\":") (decimal c.args.longest) (c.push_str.ensures.text) (c.push_decimal.ensures.text)) (c.push_str-2.ensures.text))
