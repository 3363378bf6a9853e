use Rattle.std.proofs.Common.{◌++◌, codes, decimal}
use Rattle.area_history.specs.JsonReports.{capped}
use Rattle.line_text.proofs.Appending.{trailing}
use Rattle.area_history.proofs.json.push_counts.Goals as goal

pub returns-clause-text : goal.returns-clause-text
returns-clause-text c =
    let count = codes "{\"event\":\"leaks\",\"areas\":" ++ capped c.args.leaks.now.count in
    let bytes = codes "{\"event\":\"leaks\",\"areas\":" ++ capped c.args.leaks.now.count ++ codes ",\"bytes\":" ++ capped c.args.leaks.now.bytes in
    let pools = codes "{\"event\":\"leaks\",\"areas\":" ++ capped c.args.leaks.now.count ++ codes ",\"bytes\":" ++ capped c.args.leaks.now.bytes ++ codes ",\"pools\":" ++ capped c.args.pools in
    trailing c.args.text.now c.push_capped-3.new.text c.push_str-4.new.self pools (codes "}\n")
    (trailing c.args.text.now c.push_str-3.new.self c.push_capped-3.new.text (bytes ++ codes ",\"pools\":") (capped c.args.pools)
    (trailing c.args.text.now c.push_capped-2.new.text c.push_str-3.new.self bytes (codes ",\"pools\":")
    (trailing c.args.text.now c.push_str-2.new.self c.push_capped-2.new.text (count ++ codes ",\"bytes\":") (capped c.args.leaks.now.bytes)
    (trailing c.args.text.now c.push_capped.new.text c.push_str-2.new.self count (codes ",\"bytes\":")
    (trailing c.args.text.now c.push_str.new.self c.push_capped.new.text (codes "{\"event\":\"leaks\",\"areas\":") (capped c.args.leaks.now.count) (c.push_str.ensures.text) (c.push_capped.ensures.text)) (c.push_str-2.ensures.text)) (c.push_capped-2.ensures.text)) (c.push_str-3.ensures.text)) (c.push_capped-3.ensures.text)) (c.push_str-4.ensures.text)
