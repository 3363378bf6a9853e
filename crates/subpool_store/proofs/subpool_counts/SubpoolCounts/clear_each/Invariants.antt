use Rattle.std.proofs.Common.{◌≡◌, ◌-◌, ℕ, ◌&&◌, cond, ltb, length}
use Rattle.mvs_model.specs.Storage.{is_one_of}
use Rattle.subpool_store.specs.SubpoolCounts.{count_of, no_count}
use Rattle.subpool_store.proofs.subpool_counts.SubpoolCounts.clear_each.Given as goal

abbrev pub invariant-subpools : goal.invariant-subpools
invariant-subpools l = (t : ℕ) → count_of l.self t ≡ cond (ltb t l.from && is_one_of l.subpools t) no_count (count_of l.fn.self t)

abbrev pub decreases-subpools : goal.decreases-subpools
decreases-subpools l = length l.self - l.from
