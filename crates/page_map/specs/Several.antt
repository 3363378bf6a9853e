-- Several pages, whose numbers are compared at once.
use Rattle.std.specs.Prelude.{◌≡◌, ◌==◌, ℕ, ◌<◌, ◌≤◌, ◌||◌, Bool, false, Option, List, length, nat_lt, nat_le}
use Rattle.page_map.specs.Owners.{owner_of, IsFirst}

-- a number that is above those of subpools
abbrev pub least_free : ℕ
least_free = 32768

-- whether a number is that of the subpool, or is not below the least one
abbrev pub is_marked : ℕ → ℕ → Bool
is_marked own code = (code == own) || nat_le least_free code

-- whether a number is below the least one
abbrev pub is_below_free : ℕ → Bool
is_below_free code = nat_lt code least_free

-- The owner of no page between two passes the test.
abbrev pub HasNone : (Option ℕ → Bool) → List (Option ℕ) → ℕ → ℕ → Type 0
HasNone test pages from end = (p : ℕ) → from ≤ p → p < end → test (owner_of pages p) ≡ false

-- There is such a page, and it is the first one whose owner passes the test.
abbrev pub IsAt : (Option ℕ → Bool) → List (Option ℕ) → ℕ → ℕ → Type 0
IsAt test pages from page = (page < length pages) × IsFirst test pages from page
