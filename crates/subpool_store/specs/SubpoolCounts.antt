-- How many pages are assigned to each subpool, and how many doublewords it holds.
use Rattle.std.specs.Prelude.{◌≡◌, ℕ, ◌+◌, ◌*◌, ◌==◌, Option, List, slice_index_or, refl}
use Rattle.std.specs.Coded.{Coded, code_by, coded×, coded_list, coded_ℕ}
use Rattle.mvs_model.specs.Finite.{count_below, has}
use Rattle.mvs_model.specs.Numbers.{first_page_above, first_page_below, page_doublewords}
use Rattle.mvs_model.specs.Reports.{first_from}
use Rattle.mvs_model.specs.Storage.{Regions, end_of}
use Rattle.subpool_store.specs.declared.subpool_counts.SubpoolCount.{SubpoolCount}

-- the number of pages, among n from a page on, that are assigned to s: that of their held doublewords
abbrev pub pages_among : (ℕ → Option ℕ) → ℕ → ℕ → ℕ → ℕ
pages_among holder s first count = count_below count (λ p. has (λ t. t == s) (first_from (page_doublewords * (first + p)) page_doublewords holder))

-- the number of pages of both regions that are
abbrev pub assigned_pages : Regions → (ℕ → Option ℕ) → ℕ → ℕ
assigned_pages r holder s = pages_among holder s first_page_below r.below + pages_among holder s first_page_above r.above

-- the number of doublewords that s holds
abbrev pub held_doublewords : Regions → (ℕ → Option ℕ) → ℕ → ℕ
held_doublewords r holder s = count_below (end_of r) (λ d. has (λ t. t == s) (holder d))

-- the count of a subpool without storage
abbrev pub no_count : SubpoolCount
no_count = record { pages = 0; held = 0 }

-- the count of s: there is none past the last entry of the list
abbrev pub count_of : List SubpoolCount → ℕ → SubpoolCount
count_of counts s = slice_index_or counts s no_count

-- a code, for a model's value
abbrev pub counts_code : Coded (List SubpoolCount)
counts_code = coded_list (code_by (ℕ × ℕ) (coded× coded_ℕ coded_ℕ) (λ c. (c.pages, c.held)) (λ p. record { pages = p.0; held = p.1 }) (λ _. refl))

-- The counts are those of the storage.
pub record AreCounts (r : Regions) (holder : ℕ → Option ℕ) (counts : List SubpoolCount) : Type 0 where
  pub pages : (s : ℕ) → (count_of counts s).pages ≡ assigned_pages r holder s
  pub held : (s : ℕ) → (count_of counts s).held ≡ held_doublewords r holder s
