use Rattle.std.proofs.Common.{◌++◌, codes}
use Rattle.area_history.specs.JsonReports.{capped}
use Rattle.line_text.proofs.Appending.{trailing}
use Rattle.area_history.proofs.json_history.push_counts.Goals as goal

pub returns-clause-text : goal.returns-clause-text
returns-clause-text c = (trailing c.args.text.now c.push_capped-2.new.text c.push_str-3.new.self (codes ",\"areas\":" ++ capped c.args.leaks.now.count ++ codes ",\"bytes\":" ++ capped c.args.leaks.now.bytes) (codes "}\n") (trailing c.args.text.now c.push_str-2.new.self c.push_capped-2.new.text (codes ",\"areas\":" ++ capped c.args.leaks.now.count ++ codes ",\"bytes\":") (capped c.args.leaks.now.bytes) (trailing c.args.text.now c.push_capped.new.text c.push_str-2.new.self (codes ",\"areas\":" ++ capped c.args.leaks.now.count) (codes ",\"bytes\":") (trailing c.args.text.now c.push_str.new.self c.push_capped.new.text (codes ",\"areas\":") (capped c.args.leaks.now.count) (c.push_str.ensures.text) (c.push_capped.ensures.text)) (c.push_str-2.ensures.text)) (c.push_capped-2.ensures.text)) (c.push_str-3.ensures.text))
