use Rattle.std.proofs.Common.{◌++◌, codes}
use Rattle.mvs_model.specs.Name.{trimmed}
use Rattle.area_history.specs.JsonReports.{origin_members, place_members, subpool_members}
use Rattle.line_text.proofs.Appending.{trailing}
use Rattle.area_history.proofs.json_history.push_area.Goals as goal

pub returns-clause-text : goal.returns-clause-text
returns-clause-text c = (trailing c.args.text.now c.push_origin.new.text c.push_str-3.new.self (codes ",\"area\":{\"name\":\"" ++ trimmed c.args.grant.now.area ++ codes "\"" ++ place_members c.args.grant.now.place ++ subpool_members c.args.grant.now.subpool c.args.grant.now.owner ++ origin_members c.args.grant.now.task c.args.grant.now.line) (codes "}") (trailing c.args.text.now c.push_subpool.new.text c.push_origin.new.text (codes ",\"area\":{\"name\":\"" ++ trimmed c.args.grant.now.area ++ codes "\"" ++ place_members c.args.grant.now.place ++ subpool_members c.args.grant.now.subpool c.args.grant.now.owner) (origin_members c.args.grant.now.task c.args.grant.now.line) (trailing c.args.text.now c.push_place.new.text c.push_subpool.new.text (codes ",\"area\":{\"name\":\"" ++ trimmed c.args.grant.now.area ++ codes "\"" ++ place_members c.args.grant.now.place) (subpool_members c.args.grant.now.subpool c.args.grant.now.owner) (trailing c.args.text.now c.push_str-2.new.self c.push_place.new.text (codes ",\"area\":{\"name\":\"" ++ trimmed c.args.grant.now.area ++ codes "\"") (place_members c.args.grant.now.place) (trailing c.args.text.now c.push_name.new.self c.push_str-2.new.self (codes ",\"area\":{\"name\":\"" ++ trimmed c.args.grant.now.area) (codes "\"") (trailing c.args.text.now c.push_str.new.self c.push_name.new.self (codes ",\"area\":{\"name\":\"") (trimmed c.args.grant.now.area) (c.push_str.ensures.text) (c.push_name.ensures.text)) (c.push_str-2.ensures.text)) (c.push_place.ensures.text)) (c.push_subpool.ensures.text)) (c.push_origin.ensures.text)) (c.push_str-3.ensures.text))
