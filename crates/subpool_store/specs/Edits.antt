-- The doublewords of a region that are held, the owners of its pages, and changes of both.
use Rattle.std.specs.Prelude.{◌≡◌, ℕ, ◌/◌, ◌<◌, ◌≤◌, ◌⊎◌, ◌&&◌, nat_lt, Bool, true, false, Option, Some, None, List, length, slice_index_or, if◌then◌else◌}
use Rattle.mvs_model.specs.Finite.{has}
use Rattle.mvs_model.specs.Numbers.{page_doublewords}
use Rattle.page_map.specs.Owners.{owner_of}
use Rattle.subpool_store.specs.Bits.{in_range}

-- There is this number of bits, and none of them is set.
pub record IsClear (n : ℕ) (bits : List Bool) : Type 0 where
  pub sizes : length bits ≡ n
  pub each : (i : ℕ) → slice_index_or bits i false ≡ false

-- The bits in the range have this value, and the others are as before.
pub record IsMarked (old : List Bool) (from to : ℕ) (value : Bool) (new : List Bool) : Type 0 where
  pub sizes : length new ≡ length old
  pub each : (i : ℕ) → slice_index_or new i false ≡ (if in_range from to i then value else slice_index_or old i false)

-- The run is the first one between two places whose bits are clear, and it extends as far as they are.
pub record IsFreeRun (bits : List Bool) (from to start end : ℕ) : Type 0 where
  pub some : start < end
  pub after : from ≤ start
  pub within : end ≤ to
  pub held : (i : ℕ) → from ≤ i → i < start → slice_index_or bits i false ≡ true
  pub free : (i : ℕ) → start ≤ i → i < end → slice_index_or bits i false ≡ false
  pub stops : end < to → slice_index_or bits end false ≡ true

-- no bit of the page is set
abbrev pub HasNoBit : List Bool → ℕ → Type 0
HasNoBit bits p = (i : ℕ) → i / page_doublewords ≡ p → slice_index_or bits i false ≡ false

-- some bit of the page is set
abbrev pub HasBit : List Bool → ℕ → Type 0
HasBit bits p = (i : ℕ) × (i / page_doublewords ≡ p) × (slice_index_or bits i false ≡ true)

-- The pages in the range are of s, and the others are as before.
pub record IsAssigned (old : List (Option ℕ)) (from to s : ℕ) (new : List (Option ℕ)) : Type 0 where
  pub sizes : length new ≡ length old
  pub each : (p : ℕ) → owner_of new p ≡ (if in_range from to p then Some s else owner_of old p)

-- A page in the range is given up if it has no bit, and all else is as before.
pub record IsGivenUp (bits : List Bool) (old : List (Option ℕ)) (from to : ℕ) (new : List (Option ℕ)) : Type 0 where
  pub sizes : length new ≡ length old
  pub outside : (p : ℕ) → in_range from to p ≡ false → owner_of new p ≡ owner_of old p
  pub inside : (p : ℕ) → in_range from to p ≡ true → ((owner_of new p ≡ None) × HasNoBit bits p) ⊎ ((owner_of new p ≡ owner_of old p) × HasBit bits p)

-- What the subpools that pass the test have of the first n pages is free now and these pages are given up, and all else is as before.
pub record IsDropped (test : ℕ → Bool) (bits : List Bool) (pages : List (Option ℕ)) (n : ℕ) (bits' : List Bool) (pages' : List (Option ℕ)) : Type 0 where
  pub bits_size : length bits' ≡ length bits
  pub pages_size : length pages' ≡ length pages
  pub owners : (p : ℕ) → owner_of pages' p ≡ (if nat_lt p n && has test (owner_of pages p) then None else owner_of pages p)
  pub each : (i : ℕ) → slice_index_or bits' i false ≡ (if nat_lt (i / page_doublewords) n && has test (owner_of pages (i / page_doublewords)) then false else slice_index_or bits i false)
