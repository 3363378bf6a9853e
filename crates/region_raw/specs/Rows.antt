-- Rows of bytes, each blank or with a value.
use Rattle.std.specs.Prelude.{◌≡◌, ℕ, zero, suc, ◌+◌, ◌≤◌, ◌⊎◌, List, [], ◌∷◌, ◌++◌, map, length, take, drop, replicate, Option, Some, None}

-- the values of the bytes that have one
abbrev pub values : List (Option ℕ) → List ℕ
values [] = []
values (None ∷ cs) = values cs
values (Some x ∷ cs) = x ∷ values cs

-- the values of the n bytes from an index on
abbrev pub run : List (Option ℕ) → ℕ → ℕ → List ℕ
run cs at n = values (take n (drop at cs))

-- each of the n bytes from an index on has a value
abbrev pub IsRun : List (Option ℕ) → ℕ → ℕ → Type 0
IsRun cs at n = (at + n ≤ length cs) × (take n (drop at cs) ≡ map Some (run cs at n))

-- the n bytes from an index on are blank
abbrev pub IsBlankRun : List (Option ℕ) → ℕ → ℕ → Type 0
IsBlankRun cs at n = (at + n ≤ length cs) × (take n (drop at cs) ≡ replicate n None)

-- the n bytes from one index on and those from another have none in common
abbrev pub IsApart : ℕ → ℕ → ℕ → Type 0
IsApart i j n = (i + n ≤ j) ⊎ (j + n ≤ i)

-- the row with values in place of those from an index on, one after another: a blank byte stays blank, and values beyond the end
-- are lost
abbrev pub overlaid : List (Option ℕ) → ℕ → List ℕ → List (Option ℕ)
overlaid [] at ws = []
overlaid (c ∷ cs) (suc at) ws = c ∷ overlaid cs at ws
overlaid (c ∷ cs) zero [] = c ∷ cs
overlaid (None ∷ cs) zero (w ∷ ws) = None ∷ overlaid cs zero ws
overlaid (Some x ∷ cs) zero (w ∷ ws) = Some w ∷ overlaid cs zero ws

-- the row with values in place of the n bytes from an index on
abbrev pub written : List (Option ℕ) → ℕ → ℕ → List ℕ → List (Option ℕ)
written cs at n ws = take at cs ++ (map Some ws ++ drop (at + n) cs)

-- the row with the n bytes from an index on blank
abbrev pub emptied : List (Option ℕ) → ℕ → ℕ → List (Option ℕ)
emptied cs at n = take at cs ++ (replicate n None ++ drop (at + n) cs)
