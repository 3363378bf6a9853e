use Rattle.std.proofs.Common.{◌≡◌, ◌<◌, ◌-◌, ℕ, [], drop, false, length, slice_index, take}
use Rattle.schedules.specs.Next.{can_run, some_can_run}
use Rattle.schedules.proofs.next.first_next.Given as goal

abbrev pub invariant-positions : goal.invariant-positions
invariant-positions l = record {
  rest : some_can_run l.lines l.walk.step (take l.at l.left) (drop l.at l.left) ≡ some_can_run l.lines l.walk.step [] l.left;
  others : (i : ℕ) → i < l.at → can_run l.lines l.walk.step (take i l.left) (slice_index l.left i) ≡ false;
}

abbrev pub decreases-positions : goal.decreases-positions
decreases-positions l = length l.left - l.at
