use Rattle.std.proofs.Common.{◌≡◌, ◌++◌, take}
use Rattle.schedules.specs.Reports.{order_text}
use Rattle.schedules.proofs.report.push_order.Given as goal

abbrev pub invariant-loop-number : goal.invariant-loop-number
invariant-loop-number l = l.report.items ≡ l.initial.report.items ++ order_text (take l.number-index l.order)
