-- The next subpool that a task owns.
use Rattle.std.specs.Prelude.{◌≡◌, ℕ, ◌<◌, ◌≤◌, Option, Some, None, IsSome}
use Rattle.std.specs.FinMap.{get}
use Rattle.mvs_model.specs.Owners.{Owners}

-- The first subpool from a number on that a task owns; there is none where no task owns one from there on.
abbrev pub IsNextOwned : Owners → ℕ → Option ℕ → Type 0
IsNextOwned o from None = (s : ℕ) → from ≤ s → get o.owner s ≡ None
IsNextOwned o from (Some next) = (from ≤ next) × IsSome (get o.owner next) × ((s : ℕ) → from ≤ s → s < next → get o.owner s ≡ None)
