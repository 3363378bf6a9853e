use Rattle.std.proofs.Common.{◌≡◌, ◌-◌, [], drop, length, take}
use Rattle.schedules.specs.Next.{some_can_run}
use Rattle.schedules.proofs.order.some_can_run.Given as goal

abbrev pub invariant-positions : goal.invariant-positions
invariant-positions l = some_can_run l.lines l.walk.step (take l.at l.left) (drop l.at l.left) ≡ some_can_run l.lines l.walk.step [] l.left

abbrev pub decreases-positions : goal.decreases-positions
decreases-positions l = length l.left - l.at
