use Rattle.std.proofs.Common.{◌≡◌, ◌+◌, ◌-◌, ◌≤◌, List, ℕ, [], drop, take, length}
use Rattle.judge.specs.Deciding.{HasReached}
use Rattle.judge.proofs.along.run_along.Given as goal

abbrev pub invariant-lines : goal.invariant-lines
invariant-lines l = record {
  stands : (whole : List ℕ) → HasReached whole (take l.front l.output) l.initial.walk l.script → HasReached whole (take l.done l.output) l.walk (drop l.at l.script);
  within : l.at ≤ length l.script + 1;
  done : l.done ≤ length l.output;
  number : l.walk.number ≤ l.initial.walk.number + l.at;
  empty : l.empty.items ≡ [];
}

abbrev pub decreases-lines : goal.decreases-lines
decreases-lines l = length l.script - l.at
