-- Sets of subpools, a bit for each.
use Rattle.std.specs.Prelude.{◌≡◌, ◌<◌, true, ℕ, ◌*◌, ◌/◌, ◌%◌, ◌==◌, Bool, List, length, slice_index}
use Rattle.std.specs.Int.{bit_at}
use Rattle.std.specs.List.{filter, range_with_len}
use Rattle.mvs_model.specs.Numbers.{most_subpools}

-- whether a bit of the words is set
abbrev pub has_member : List ℕ → ℕ → Bool
has_member words s = bit_at (slice_index words (s / 64)) (s % 64) == 1

-- the numbers of the bits that are set, in rising order
unfoldable pub members : List ℕ → List ℕ
members words = filter (has_member words) (range_with_len 0 (64 * length words))

-- each bit that is set is that of a subpool
abbrev pub AreSubpools : List ℕ → Type 0
AreSubpools words = (s : ℕ) → has_member words s ≡ true → s < most_subpools
