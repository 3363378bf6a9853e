use Rattle.std.proofs.Common.{◌≤◌, ◌<◌, ℕ, length}
use Rattle.std.specs.List.{slice_index_or}
use Rattle.mvs_job.proofs.name_order.count_up_to.Given as goal

abbrev pub invariant-names : goal.invariant-names
invariant-names l = (l.at ≤ length l.order) × ((k : ℕ) (d : _) → l.at ≤ k → k < length l.order → l.number < (slice_index_or l.order k d).1)

abbrev pub decreases-names : goal.decreases-names
decreases-names l = l.at
