use Rattle.std.proofs.Common.{◌++◌, codes}
use Rattle.area_history.specs.JsonHistories.{by_members}
use Rattle.area_history.specs.JsonReports.{subpool_members}
use Rattle.line_text.proofs.Appending.{trailing}
use Rattle.area_history.proofs.json_history.push_whole.Goals as goal

pub returns-clause-text : goal.returns-clause-text
returns-clause-text c = (trailing c.args.text.now c.push_subpool.new.text c.push_str-2.new.self (codes "\"by\":\"whole_release\"" ++ by_members c.args.event.now ++ subpool_members c.args.number c.args.owner.now) (codes "\"") (trailing c.args.text.now c.push_by.new.text c.push_subpool.new.text (codes "\"by\":\"whole_release\"" ++ by_members c.args.event.now) (subpool_members c.args.number c.args.owner.now) (trailing c.args.text.now c.push_str.new.self c.push_by.new.text (codes "\"by\":\"whole_release\"") (by_members c.args.event.now) (c.push_str.ensures.text) (c.push_by.ensures.text)) (c.push_subpool.ensures.text)) (c.push_str-2.ensures.text))
