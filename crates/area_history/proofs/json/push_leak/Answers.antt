use Rattle.std.proofs.Common.{◌++◌, codes, decimal}
use Rattle.mvs_model.specs.Name.{trimmed}
use Rattle.area_history.specs.JsonReports.{bytes_member, origin_members, place_members, subpool_members}
use Rattle.line_text.proofs.Appending.{trailing}
use Rattle.area_history.proofs.json.push_leak.Goals as goal

pub returns-clause-text : goal.returns-clause-text
returns-clause-text c = trailing c.args.text.now c.push_origin.new.text c.push_str-3.new.self (c.args.head.now ++ trimmed c.args.leak.now.grant.area ++ codes "\"" ++ place_members c.args.leak.now.grant.place ++ bytes_member c.args.leak.now.bytes ++ subpool_members c.args.leak.now.grant.subpool c.args.leak.now.grant.owner ++ origin_members c.args.leak.now.grant.task c.args.leak.now.grant.line) (codes "}\n") (trailing c.args.text.now c.push_subpool.new.text c.push_origin.new.text (c.args.head.now ++ trimmed c.args.leak.now.grant.area ++ codes "\"" ++ place_members c.args.leak.now.grant.place ++ bytes_member c.args.leak.now.bytes ++ subpool_members c.args.leak.now.grant.subpool c.args.leak.now.grant.owner) (origin_members c.args.leak.now.grant.task c.args.leak.now.grant.line) (trailing c.args.text.now c.push_bytes.new.text c.push_subpool.new.text (c.args.head.now ++ trimmed c.args.leak.now.grant.area ++ codes "\"" ++ place_members c.args.leak.now.grant.place ++ bytes_member c.args.leak.now.bytes) (subpool_members c.args.leak.now.grant.subpool c.args.leak.now.grant.owner) (trailing c.args.text.now c.push_place.new.text c.push_bytes.new.text (c.args.head.now ++ trimmed c.args.leak.now.grant.area ++ codes "\"" ++ place_members c.args.leak.now.grant.place) (bytes_member c.args.leak.now.bytes) (trailing c.args.text.now c.push_str-2.new.self c.push_place.new.text (c.args.head.now ++ trimmed c.args.leak.now.grant.area ++ codes "\"") (place_members c.args.leak.now.grant.place) (trailing c.args.text.now c.push_name.new.self c.push_str-2.new.self (c.args.head.now ++ trimmed c.args.leak.now.grant.area) (codes "\"") (trailing c.args.text.now c.push_str.new.self c.push_name.new.self (c.args.head.now) (trimmed c.args.leak.now.grant.area) (c.push_str.ensures.text) (c.push_name.ensures.text)) (c.push_str-2.ensures.text)) (c.push_place.ensures.text)) (c.push_bytes.ensures.text)) (c.push_subpool.ensures.text)) (c.push_origin.ensures.text)) (c.push_str-3.ensures.text)
