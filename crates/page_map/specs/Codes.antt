-- How a page's subpool is kept: its number, or a number that no subpool has.
use Rattle.std.specs.Prelude.{◌≡◌, ◌==◌, ℕ, ◌<◌, ◌≤◌, ◌⊎◌, Option, Some, None, List, length, map, nat_lt, if◌then◌else◌, slice_index_or}
use Rattle.std.specs.List.{count_by}
use Rattle.mvs_model.specs.Numbers.{most_pages_above, most_subpools}

-- the number of a page without a subpool
abbrev pub free_code : ℕ
free_code = 65535

-- the subpool of a number
abbrev pub decoded : ℕ → Option ℕ
decoded code = if nat_lt code most_subpools then Some code else None

-- the subpools of the pages
abbrev pub page_owners : List ℕ → List (Option ℕ)
page_owners codes = map decoded codes

-- how many pages have no subpool
abbrev pub free_codes : List ℕ → ℕ
free_codes codes = count_by (λ code. code == free_code) codes

-- Each number is that of a subpool, or the one of none.
pub record AreCodes (codes : List ℕ) : Type 0 where
  pub few : length codes ≤ most_pages_above
  pub each : (p : ℕ) → p < length codes → (slice_index_or codes p free_code < most_subpools) ⊎ (slice_index_or codes p free_code ≡ free_code)
