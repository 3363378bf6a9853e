use Rattle.std.proofs.Common.{◌≡◌, ◌++◌, ◌+◌, ◌-◌, ◌≤◌, List, ℕ, drop, length}
use Rattle.judge.specs.Deciding.{HasReached}
use Rattle.judge.proofs.resting.run_rest.Given as goal

abbrev pub invariant-lines : goal.invariant-lines
invariant-lines l = record {
  stands : (whole : List ℕ) → HasReached whole l.initial.writer.inner.items l.initial.walk l.script → HasReached whole l.writer.inner.items l.walk (drop l.at l.script);
  grown : (more : List ℕ) × (l.writer.inner.items ≡ l.initial.writer.inner.items ++ more);
  within : l.at ≤ length l.script + 1;
  number : l.walk.number ≤ l.initial.walk.number + l.at;
}

abbrev pub decreases-lines : goal.decreases-lines
decreases-lines l = length l.script - l.at
