use Rattle.std.proofs.Common.{◌≡◌, ◌-◌, ◌<◌, ℕ, false, length, slice_index, take}
use Rattle.schedules.specs.Refusals.{runs_as}
use Rattle.schedules.proofs.order.place_of_next.Given as goal

abbrev pub invariant-positions : goal.invariant-positions
invariant-positions l = (i : ℕ) → i < l.at → runs_as l.lines l.walk.step (take i l.left) (slice_index l.left i) l.number ≡ false

abbrev pub decreases-positions : goal.decreases-positions
decreases-positions l = length l.left - l.at
