use Rattle.std.proofs.Common.{◌≡◌, ◌-◌, false, length, take}
use Rattle.std.specs.List.{list_any}
use Rattle.schedules.specs.Next.{is_of}
use Rattle.schedules.proofs.order.first_of.Given as goal

abbrev pub invariant-positions : goal.invariant-positions
invariant-positions l = list_any (is_of l.lines l.task) (take l.at l.left) ≡ false

abbrev pub decreases-positions : goal.decreases-positions
decreases-positions l = length l.left - l.at
