use Rattle.std.proofs.Common.{◌+◌, ◌≤◌, length, take}
use Rattle.schedules.specs.Refusals.{HaveRun}
use Rattle.schedules.proofs.Followed.{HasBegun}
use Rattle.schedules.proofs.order.follow.Given as goal

abbrev pub invariant-statements : goal.invariant-statements
invariant-statements l = record {
  begun : HasBegun l.lines l.initial.walk l.initial.left.items l.walk l.left.items l.order l.at;
  run : HaveRun l.lines l.initial.walk l.initial.left.items (take l.at l.order) l.walk l.left.items;
  number : l.walk.number + length l.left.items ≤ l.initial.walk.number + length l.initial.left.items;
}

abbrev pub decreases-statements : goal.decreases-statements
decreases-statements l = length l.left.items
