use Rattle.std.proofs.Common.{◌+◌, ◌-◌, ◌≤◌, ◌≡◌, [], length}
use Rattle.judge.specs.Deciding.{InBounds}
use Rattle.judge.proofs.Decided.{Follows}
use Rattle.judge.proofs.following.follow.Given as goal

abbrev pub invariant-lines : goal.invariant-lines
invariant-lines l = record {
  follows : Follows l.script l.output l.at l.done l.walk;
  within : l.at ≤ length l.script + 1;
  done : l.done ≤ length l.output;
  number : l.walk.number ≤ l.at + 1;
  bounds : InBounds l.walk.step;
  empty : l.empty.items ≡ [];
}

abbrev pub decreases-lines : goal.decreases-lines
decreases-lines l = length l.script - l.at
