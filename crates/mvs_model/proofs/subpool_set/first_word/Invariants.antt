use Rattle.std.proofs.Common.{◌≡◌, ◌<◌, ◌≤◌, ℕ, slice_index}
use Rattle.mvs_model.proofs.subpool_set.first_word.Given as goal

abbrev pub invariant-loop-w : goal.invariant-loop-w
invariant-loop-w l = (w : ℕ) → l.from ≤ w → w < l.w → slice_index l.words w ≡ 0
