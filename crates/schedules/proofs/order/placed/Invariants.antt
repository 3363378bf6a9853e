use Rattle.std.proofs.Common.{◌≡◌, ◌-◌, drop, length}
use Rattle.schedules.specs.Orders.{placed}
use Rattle.schedules.proofs.order.placed.Given as goal

abbrev pub invariant-lines : goal.invariant-lines
invariant-lines l = placed (drop l.at l.lines) (drop l.at l.order) l.number ≡ placed l.lines l.order l.number

abbrev pub decreases-lines : goal.decreases-lines
decreases-lines l = length l.lines - l.at
