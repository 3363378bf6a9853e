use Rattle.std.proofs.Common.{◌≡◌, ◌≤◌, ◌-◌, drop, length, take}
use Rattle.schedules.specs.Refusals.{numbers_of}
use Rattle.schedules.proofs.order.check_unreached.Given as goal

abbrev pub invariant-positions : goal.invariant-positions
invariant-positions l = record {
  within : l.at ≤ length l.left;
  same : take l.at (drop l.from l.order) ≡ numbers_of l.lines (take l.at l.left);
}

abbrev pub decreases-positions : goal.decreases-positions
decreases-positions l = length l.left - l.at
