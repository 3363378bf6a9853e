use Rattle.std.proofs.Common.{◌≡◌, ◌++◌, take}
use Rattle.schedules.specs.JsonReports.{order_json}
use Rattle.schedules.proofs.json.push_order.Given as goal

abbrev pub invariant-loop-number : goal.invariant-loop-number
invariant-loop-number l = l.report.items ≡ l.initial.report.items ++ order_json (take l.number-index l.order)
