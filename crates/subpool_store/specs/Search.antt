-- What a search over the doublewords of a region looks for, and what it knows on its way.
use Rattle.std.specs.Prelude.{◌≡◌, ℕ, ◌+◌, ◌-◌, ◌*◌, ◌/◌, ◌<◌, ◌≤◌, ◌&&◌, ◌⊎◌, Bool, true, false, not, Option, Some, None, MatchOption, List, length, slice_index_or}
use Rattle.mvs_model.specs.Numbers.{most_pages_above, page_doublewords}
use Rattle.mvs_model.specs.Place.{PlaceValue}
use Rattle.mvs_model.specs.Storage.{Covers, InRun, IsLength, Meets}
use Rattle.mvs_model.specs.Want.{WantValue}
use Rattle.page_map.specs.Owners.{owner_of, is_usable}

-- whether s may take the doubleword at an index
abbrev pub may_take : List Bool → List (Option ℕ) → ℕ → ℕ → Bool
may_take bits pages s i = not (slice_index_or bits i true) && is_usable s (owner_of pages (i / page_doublewords))

-- The bits are those of the pages, and a page is assigned exactly while one of its bits is set.
pub record IsExact (bits : List Bool) (pages : List (Option ℕ)) : Type 0 where
  pub sizes : length bits ≡ page_doublewords * length pages
  pub most : length pages ≤ most_pages_above
  pub free : (i : ℕ) → owner_of pages (i / page_doublewords) ≡ None → slice_index_or bits i false ≡ false
  pub used : (p s : ℕ) → owner_of pages p ≡ Some s → (i : ℕ) × (i / page_doublewords ≡ p) × (slice_index_or bits i false ≡ true)

-- from no index between two places on do n indices pass, one after another
abbrev pub NoneFits : (ℕ → Bool) → ℕ → ℕ → ℕ → Type 0
NoneFits test n from to = (x : ℕ) → from ≤ x → x < to → ((i : ℕ) → x ≤ i → i < x + n → test i ≡ true) → ⊥

-- The indices of the run pass, and extend as far as they pass; before it and after it no n in a row pass, up to the next index.
pub record IsNextRun (test : ℕ → Bool) (n from start end next : ℕ) : Type 0 where
  pub some : start < end
  pub after : from ≤ start
  pub before : end ≤ next
  pub skipped : NoneFits test n from start
  pub passes : (i : ℕ) → start ≤ i → i < end → test i ≡ true
  pub stops : test end ≡ false
  pub rest : NoneFits test n end next

-- each doubleword of the place passes the test, at its index
abbrev pub AllPass : (ℕ → Bool) → ℕ → PlaceValue → Type 0
AllPass test first q = (d : ℕ) → Covers q d → (first ≤ d) × (test (d - first) ≡ true)

-- best is a place at least as long
abbrev pub Beats : Option PlaceValue → ℕ → Type 0
Beats None n = ⊥
Beats (Some p) n = n ≤ p.len

-- where there is a first place, there is another, which is longer
abbrev pub IsShorter : Option PlaceValue → Option PlaceValue → Type 0
IsShorter None other = Unit {0}
IsShorter (Some p) None = ⊥
IsShorter (Some p) (Some q) = p.len < q.len

-- A search looked at something if there is anything, at no more than there is, and at all of it where it found no place.
pub record IsCounted (most : ℕ) (place : Option PlaceValue) (steps : ℕ) : Type 0 where
  pub some : 1 ≤ most → 1 ≤ steps
  pub at_most : steps ≤ most
  pub all : place ≡ None → steps ≡ most

-- a place of a requested length that meets the request, and whose doublewords pass
pub record IsCandidate (test : ℕ → Bool) (first : ℕ) (want : WantValue) (q : PlaceValue) : Type 0 where
  pub length : IsLength want q.len
  pub meets : Meets want q
  pub pass : AllPass test first q

-- each candidate begins at this index or after it, or is no longer than best
abbrev pub CandidatesAfterBest : (ℕ → Bool) → ℕ → WantValue → Option PlaceValue → ℕ → Type 0
CandidatesAfterBest test first want best from = (q : PlaceValue) → IsCandidate test first want q → (8 * (first + from) ≤ q.addr) ⊎ Beats best q.len

-- A place of a requested length is in the run and meets the request; none of them is longer.
pub record IsLongestIn (run : PlaceValue) (want : WantValue) (p : PlaceValue) : Type 0 where
  pub length : IsLength want p.len
  pub inside : InRun run p
  pub meets : Meets want p
  pub longest : (q : PlaceValue) → IsLength want q.len → InRun run q → Meets want q → q.len ≤ p.len

-- the run has a longest place, or none
abbrev pub LongestIn : PlaceValue → WantValue → Option PlaceValue → Type 0
LongestIn run want r = MatchOption r ((q : PlaceValue) → IsLength want q.len → InRun run q → Meets want q → ⊥) (IsLongestIn run want)

-- no other length is requested
abbrev pub IsOnlyLength : WantValue → ℕ → Type 0
IsOnlyLength want n = (n ≡ want.least) × (want.least ≡ want.most)
