-- The finite map of a function below a bound: how a vector is seen as a map.
use Rattle.std.specs.Prelude.{ℕ, zero, suc, List, [], ◌∷◌, Option, Some, None}
use Rattle.std.specs.Ordering.{nat_cmp}
use Rattle.std.specs.FinMap.{FinMap, from_entries}

-- the entry at k put in front, where there is a value
abbrev pub put_front : {X : Type 0} → ℕ → Option X → List (ℕ × X) → List (ℕ × X)
put_front k None es = es
put_front k (Some x) es = (k, x) ∷ es

-- the keys below n at which f has a value
unfoldable pub entries_below : {X : Type 0} → ℕ → (ℕ → Option X) → List (ℕ × X)
entries_below zero f = []
entries_below (suc n) f = put_front n (f n) (entries_below n f)

-- the finite map that has f's value at each key below n, and no other
unfoldable pub table : {X : Type 0} → ℕ → (ℕ → Option X) → FinMap nat_cmp X
table n f = from_entries (entries_below n f)
