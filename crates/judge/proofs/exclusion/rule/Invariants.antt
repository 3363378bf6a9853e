use Rattle.std.proofs.Common.{ℕ, ◌≡◌, ◌+◌, ◌-◌, ◌≤◌, drop, length}
use Rattle.judge.specs.Deciding.{InBounds}
use Rattle.judge.proofs.Ruling.{Follows}
use Rattle.judge.proofs.exclusion.rule.Given as goal

abbrev pub invariant-lines : goal.invariant-lines
invariant-lines l = record {
  follows : (done : ℕ) × (l.left ≡ drop done l.output) × Follows l.script l.output l.at done l.walk;
  within : l.at ≤ length l.script + 1;
  number : l.walk.number ≤ l.at + 1;
  bounds : InBounds l.walk.step;
}

abbrev pub decreases-lines : goal.decreases-lines
decreases-lines l = length l.script - l.at
