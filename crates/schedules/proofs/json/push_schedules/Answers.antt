use Rattle.std.proofs.Common.{codes}
use Rattle.std.specs.Prelude.{decimal}
use Rattle.schedules.proofs.Joined.{four}
use Rattle.schedules.proofs.json.push_schedules.Goals as goal

pub returns : goal.returns
returns c =
    let step = c.args.step.now in
    four c.push_number-2.result c.args.report.now.items c.push.new.report.items c.push_number.new.report.items c.push-2.new.report.items c.push_number-2.new.report.items (codes "{\"event\":\"schedules\",\"line\":") (decimal step.line_number) (codes ",\"schedules\":") (decimal step.tally.schedules) c.in_ok-push.ensures c.in_ok-push_number.ensures c.in_ok-push-2.ensures c.push_number-2.ensures
