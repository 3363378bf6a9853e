use Rattle.std.proofs.Common.{◌≡◌, ◌++◌, ◌-◌, ◌≤◌, List, ℕ, drop, length}
use Rattle.judge.specs.Shapes.{masked}
use Rattle.judge.proofs.shapes.differs_masked.Given as goal

abbrev pub invariant-bytes : goal.invariant-bytes
invariant-bytes l = record {
  same : (rest : List ℕ) → masked l.text ≡ masked l.front ++ rest → masked (drop l.at l.text) ≡ masked (drop l.at l.front) ++ rest;
  at : l.at ≤ length l.front;
}

abbrev pub decreases-bytes : goal.decreases-bytes
decreases-bytes l = length l.front - l.at
