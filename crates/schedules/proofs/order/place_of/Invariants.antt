use Rattle.std.proofs.Common.{◌≡◌, ◌-◌, false, length, take}
use Rattle.schedules.specs.Refusals.{is_left}
use Rattle.schedules.proofs.order.place_of.Given as goal

abbrev pub invariant-positions : goal.invariant-positions
invariant-positions l = is_left l.lines (take l.at l.left) l.number ≡ false

abbrev pub decreases-positions : goal.decreases-positions
decreases-positions l = length l.left - l.at
