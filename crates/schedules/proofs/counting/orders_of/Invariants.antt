use Rattle.std.proofs.Common.{◌≡◌, ◌*◌, ◌≤◌, ◌-◌, [], length, take}
use Rattle.schedules.specs.Counting.{factorial, places}
use Rattle.schedules.proofs.counting.orders_of.Given as goal

abbrev pub invariant-lines : goal.invariant-lines
invariant-lines l = record {
  so_far : l.orders * places [] (take l.at l.lines) ≡ factorial l.at;
  within : l.at ≤ length l.lines;
}

abbrev pub decreases-lines : goal.decreases-lines
decreases-lines l = length l.lines - l.at
