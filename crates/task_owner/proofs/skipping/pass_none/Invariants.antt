use Rattle.std.proofs.Common.{◌≡◌, ◌≤◌, ◌<◌, ◌-◌, ℕ, None, length, slice_index_or}
use Rattle.task_owner.proofs.skipping.pass_none.Given as goal

abbrev pub invariant-loop-at : goal.invariant-loop-at
invariant-loop-at g l = record {
  ordered : l.from ≤ l.at;
  within : l.at ≤ length l.entries;
  none : (n : ℕ) → l.from ≤ n → n < l.at → slice_index_or l.entries n None ≡ None;
}

abbrev pub decreases-loop-at : goal.decreases-loop-at
decreases-loop-at g l = length l.entries - l.at
