use Rattle.std.proofs.Common.{◌≡◌, ◌++◌, ◌∙◌, ap, codes, decimal}
use Rattle.area_history.specs.JsonReports.{capped, group_members}
use Rattle.line_text.proofs.Appending.{trailing}
use Rattle.area_history.proofs.json.push_total.Goals as goal

pub returns-clause-text : goal.returns-clause-text
returns-clause-text c = (trailing c.args.text.now c.push_capped-2.new.text c.push_str-4.new.self (c.args.head.now ++ group_members c.args.total.now.group ++ codes ",\"areas\":" ++ capped c.args.total.now.count ++ codes ",\"bytes\":" ++ capped c.args.total.now.bytes) (codes "}\n") (trailing c.args.text.now c.push_str-3.new.self c.push_capped-2.new.text (c.args.head.now ++ group_members c.args.total.now.group ++ codes ",\"areas\":" ++ capped c.args.total.now.count ++ codes ",\"bytes\":") (capped c.args.total.now.bytes) (trailing c.args.text.now c.push_capped.new.text c.push_str-3.new.self (c.args.head.now ++ group_members c.args.total.now.group ++ codes ",\"areas\":" ++ capped c.args.total.now.count) (codes ",\"bytes\":") (trailing c.args.text.now c.push_str-2.new.self c.push_capped.new.text (c.args.head.now ++ group_members c.args.total.now.group ++ codes ",\"areas\":") (capped c.args.total.now.count) (trailing c.args.text.now c.push_group.new.text c.push_str-2.new.self (c.args.head.now ++ group_members c.args.total.now.group) (codes ",\"areas\":") (trailing c.args.text.now c.push_str.new.self c.push_group.new.text (c.args.head.now) (group_members c.args.total.now.group) (c.push_str.ensures.text) (c.push_group.ensures.text)) (c.push_str-2.ensures.text)) (c.push_capped.ensures.text)) (c.push_str-3.ensures.text)) (c.push_capped-2.ensures.text)) (c.push_str-4.ensures.text))
