-- One region: which of its doublewords are held, the owners of its pages, and its bytes.
use Rattle.std.specs.Prelude.{◌≡◌, ℕ, ◌+◌, ◌-◌, ◌*◌, ◌/◌, ◌%◌, ◌^◌, ◌<◌, ◌≤◌, not, Bool, false, Option, Some, None, List, length, is_some, nat_le, slice_index_or, MatchOption, IsSome, if◌then◌else◌, refl}
use Rattle.std.specs.Ordering.{nat_cmp}
use Rattle.std.specs.FinMap.{FinMap, get, code}
use Rattle.std.specs.Coded.{Coded, code_by, coded×, coded_ℕ}
use Rattle.mvs_model.specs.Finite.{Changes, Keeps, count_below, has}
use Rattle.mvs_model.specs.Numbers.{first_doubleword_above, page_bytes, page_doublewords}
use Rattle.mvs_model.specs.Place.{PlaceValue}
use Rattle.mvs_model.specs.Storage.{Covers, IsLength, IsBetween, MayTake, Meets, PageRule, covers, has_address}
use Rattle.mvs_model.specs.Table.{table}
use Rattle.mvs_model.specs.Want.{WantValue}
use Rattle.page_map.specs.Owners.{owner_of}
pub use Rattle.region_raw.specs.Pages.{value_at}
use Rattle.region_raw.specs.Pages.{Pages, is_open}
use Rattle.subpool_store.specs.Search.{IsExact}

-- f moved up, so that it begins at a number
abbrev pub shifted : {X : Type 0} → ℕ → (ℕ → Option X) → ℕ → Option X
shifted first f d = if nat_le first d then f (d - first) else None

-- the subpool that holds the doubleword at an index: its page's, if its bit is set
abbrev pub cell : List Bool → List (Option ℕ) → ℕ → Option ℕ
cell bits pages i = if slice_index_or bits i false then owner_of pages (i / page_doublewords) else None

-- What one region holds: its first doubleword, how many pages it has, who holds which doubleword, and the bytes of what is held.
pub record RegionState : Type 0 where
  pub first : ℕ
  pub pages : ℕ
  pub held : FinMap nat_cmp ℕ
  pub bytes : FinMap nat_cmp ℕ

-- a code, for a model's value
abbrev pub region_code : Coded RegionState
region_code =
    code_by (ℕ × (ℕ × (FinMap nat_cmp ℕ × FinMap nat_cmp ℕ))) (coded× coded_ℕ (coded× coded_ℕ (coded× (code coded_ℕ coded_ℕ) (code coded_ℕ coded_ℕ))))
    (λ h. (h.first, (h.pages, (h.held, h.bytes))))
    (λ p. record { first = p.0; pages = p.1.0; held = p.1.1.0; bytes = p.1.1.1 })
    (λ _. refl)

-- who holds each doubleword
abbrev pub held_of : ℕ → List Bool → List (Option ℕ) → FinMap nat_cmp ℕ
held_of first bits pages = table (first + length bits) (shifted first (cell bits pages))

-- the byte at an address, where its doubleword is held
abbrev pub byte_at : ℕ → List Bool → List (Option ℕ) → (ℕ → ℕ) → ℕ → Option ℕ
byte_at first bits pages bytes a = if is_some (shifted first (cell bits pages) (a / 8)) then Some (bytes (a - 8 * first)) else None

-- the bytes of what is held
abbrev pub bytes_of : ℕ → List Bool → List (Option ℕ) → (ℕ → ℕ) → FinMap nat_cmp ℕ
bytes_of first bits pages bytes = table (8 * (first + length bits)) (byte_at first bits pages bytes)

-- what these are as one region
abbrev pub region_of : ℕ → List Bool → List (Option ℕ) → (ℕ → ℕ) → RegionState
region_of first bits pages bytes = record { first = first; pages = length pages; held = held_of first bits pages; bytes = bytes_of first bits pages bytes }

-- A page is open exactly while it is assigned.
pub record IsOpened (pages : List (Option ℕ)) (bytes : Pages) : Type 0 where
  pub sizes : length bytes ≡ length pages
  pub each : (p : ℕ) → is_open bytes p ≡ is_some (owner_of pages p)

-- What is kept of the doublewords and the pages of one region.
pub record IsRegion (first : ℕ) (bits : List Bool) (pages : List (Option ℕ)) : Type 0 where
  pub exact : IsExact bits pages
  pub aligned : first % page_doublewords ≡ 0
  pub end : 8 * (first + length bits) ≤ 2 ^ 31
  pub one_side : first < first_doubleword_above → first + length bits ≤ first_doubleword_above

-- Everything held is in the region, each page belongs to one subpool, and there are bytes exactly where something is held.
pub record IsSound (h : RegionState) : Type 0 where
  pub bounded : (d t : ℕ) → get h.held d ≡ Some t → (h.first ≤ d) × (d < h.first + page_doublewords * h.pages)
  pub rule : PageRule (get h.held)
  pub bytes : (a : ℕ) → is_some (get h.bytes a) ≡ is_some (get h.held (a / 8))

-- All of the place is in the region, and s may take each of its doublewords.
pub record OpenIn (h : RegionState) (s : ℕ) (p : PlaceValue) : Type 0 where
  pub inside : IsBetween (8 * h.first) (8 * h.first + page_bytes * h.pages) p
  pub each : (d : ℕ) → Covers p d → MayTake (get h.held) s d

-- each doubleword of the place is held by s in the region
abbrev pub HeldIn : RegionState → ℕ → PlaceValue → Type 0
HeldIn h s p = (d : ℕ) → Covers p d → get h.held d ≡ Some s

-- each doubleword of the place is held in the region
abbrev pub AllHeldIn : RegionState → PlaceValue → Type 0
AllHeldIn h p = (d : ℕ) → Covers p d → IsSome (get h.held d)

-- the subpool is the one that holds a doubleword of the page; there is none where nothing of the page is held
abbrev pub OwnsPage : RegionState → ℕ → Option ℕ → Type 0
OwnsPage h p owner = MatchOption owner
    ((d : ℕ) → d / page_doublewords ≡ p → get h.held d ≡ None)
    (λ s. (d : ℕ) × (d / page_doublewords ≡ p) × (get h.held d ≡ Some s))

-- This number of pages of the region hold nothing.
abbrev pub AreFree : RegionState → ℕ → Type 0
AreFree h free =
    (owner : ℕ → Option ℕ) × ((p : ℕ) → p < h.pages → OwnsPage h (h.first / page_doublewords + p) (owner p)) × (free ≡ count_below h.pages (λ p. not (is_some (owner p))))

-- A place of a requested length is open in the region and meets the request; none of them is longer.
pub record IsBest (h : RegionState) (s : ℕ) (want : WantValue) (p : PlaceValue) : Type 0 where
  pub length : IsLength want p.len
  pub is_open : OpenIn h s p
  pub meets : Meets want p
  pub longest : (q : PlaceValue) → IsLength want q.len → OpenIn h s q → Meets want q → q.len ≤ p.len

-- the region has a best place, or none that serves
abbrev pub BestIn : RegionState → ℕ → WantValue → Option PlaceValue → Type 0
BestIn h s want r = MatchOption r ((q : PlaceValue) → IsLength want q.len → OpenIn h s q → Meets want q → ⊥) (IsBest h s want)

-- v is at the doublewords of the place and b at its addresses, and all else is as before.
pub record ChangedIn (old : RegionState) (p : PlaceValue) (v b : Option ℕ) (new : RegionState) : Type 0 where
  pub first : new.first ≡ old.first
  pub pages : new.pages ≡ old.pages
  pub held : Changes (get old.held) (covers p) v (get new.held)
  pub bytes : Changes (get old.bytes) (has_address p) b (get new.bytes)

-- What the subpools that pass the test held is free now and its bytes are gone, and all else is as before.
pub record DroppedIn (old : RegionState) (test : ℕ → Bool) (new : RegionState) : Type 0 where
  pub first : new.first ≡ old.first
  pub pages : new.pages ≡ old.pages
  pub held : Keeps (get old.held) (λ _ t. not (test t)) (get new.held)
  pub bytes : Changes (get old.bytes) (λ a. has test (get old.held (a / 8))) None (get new.bytes)
