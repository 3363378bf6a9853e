use Rattle.std.proofs.Common.{◌≡◌, ◌-◌, false, length, take}
use Rattle.std.specs.List.{list_any}
use Rattle.schedules.specs.Refusals.{begins_at}
use Rattle.schedules.proofs.order.region_of.Given as goal

abbrev pub invariant-lines : goal.invariant-lines
invariant-lines l = list_any (begins_at l.number) (take l.at l.lines) ≡ false

abbrev pub decreases-lines : goal.decreases-lines
decreases-lines l = length l.lines - l.at
