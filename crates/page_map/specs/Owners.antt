-- Which subpool a page is assigned to.
use Rattle.std.specs.Prelude.{◌≡◌, ℕ, ◌<◌, ◌≤◌, Bool, true, false, Option, Some, None, List, length, ◌==◌, slice_index_or}

-- the subpool of a page, if it has one
abbrev pub owner_of : List (Option ℕ) → ℕ → Option ℕ
owner_of pages page = slice_index_or pages page None

-- whether a page of this owner is of s
abbrev pub is_of : ℕ → Option ℕ → Bool
is_of s None = false
is_of s (Some t) = t == s

-- Whether s may use a page of this owner. (Assembler Services Guide, subpools)
abbrev pub is_usable : ℕ → Option ℕ → Bool
is_usable s None = true
is_usable s (Some t) = t == s

-- The page is the first one from a page on whose owner passes the test, or the number of pages where none does.
pub record IsFirst (test : Option ℕ → Bool) (pages : List (Option ℕ)) (from page : ℕ) : Type 0 where
  pub after : from ≤ page
  pub within : page ≤ length pages
  pub passed : (p : ℕ) → from ≤ p → p < page → test (owner_of pages p) ≡ false
  pub found : page < length pages → test (owner_of pages page) ≡ true
