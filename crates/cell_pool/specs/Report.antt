-- What the parts of a subpool's pools take. No public clause cites this module.
use Rattle.std.specs.Prelude.{◌≡◌, ◌≢◌, ℕ, Bool, true, false, ◌&&◌, ◌==◌, Option, Some, None}
use Rattle.cell_pool.specs.Release.{in_first}
use Rattle.cell_pool.specs.declared.entry.PoolEntry.{PoolEntry}

-- whether the entry is of a pool of the subpool that has a part with the doubleword
abbrev pub is_in_entry : (ℕ → ℕ) → ℕ → Option PoolEntry → ℕ → Bool
is_in_entry m s None d = false
is_in_entry m s (Some x) d = (x.root.subpool == s) && in_first m x.root x.root.count d

-- No doubleword is of two entries.
abbrev pub AreApart : (ℕ → ℕ) → ℕ → (ℕ → Option PoolEntry) → Type 0
AreApart m s entry = (j k d : ℕ) → j ≢ k → is_in_entry m s (entry j) d ≡ true → is_in_entry m s (entry k) d ≡ true → ⊥
