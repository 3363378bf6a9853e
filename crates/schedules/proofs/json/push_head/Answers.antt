use Rattle.std.proofs.Common.{codes}
use Rattle.std.specs.Prelude.{decimal}
use Rattle.mvs_model.specs.Name.{trimmed}
use Rattle.schedules.proofs.Joined.{four}
use Rattle.schedules.proofs.json.push_head.Goals as goal

pub returns : goal.returns
returns c =
    let line = c.args.line.now in
    four c.push_name.result c.args.report.now.items c.push.new.report.items c.push_number.new.report.items c.push-2.new.report.items c.push_name.new.report.items (codes "{\"event\":\"answers\",\"line\":") (decimal line.number) (codes ",\"task\":\"") (trimmed line.task) c.in_ok-push.ensures c.in_ok-push_number.ensures c.in_ok-push-2.ensures c.push_name.ensures
