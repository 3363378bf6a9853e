-- The two regions together.
use Rattle.std.specs.Prelude.{◌≡◌, ℕ, ◌≤◌, ◌⊎◌, Option, None, nat_lt, if◌then◌else◌}
use Rattle.std.specs.Ordering.{nat_cmp}
use Rattle.std.specs.FinMap.{FinMap, get}
use Rattle.mvs_model.specs.Finite.{Changes}
use Rattle.mvs_model.specs.Numbers.{above_begins, first_doubleword_above, first_doubleword_below, most_pages_above, most_pages_below}
use Rattle.mvs_model.specs.Place.{PlaceValue}
use Rattle.mvs_model.specs.Storage.{Storage, Regions, covers, has_address}
use Rattle.mvs_model.specs.Table.{table}
use Rattle.mvs_model.specs.Want.{WantValue}
use Rattle.mvs_model.specs.declared.want.Side.TheVariants.{Below, Either}
use Rattle.subpool_store.specs.Bound.{most_steps}
use Rattle.subpool_store.specs.Region.{RegionState, IsSound, BestIn}
use Rattle.subpool_store.specs.Search.{IsCounted}
use Rattle.subpool_store.specs.Sizes.{all_addresses, all_doublewords}

-- one map up to a key, and another from there on
abbrev pub joined_at : ℕ → FinMap nat_cmp ℕ → FinMap nat_cmp ℕ → ℕ → Option ℕ
joined_at split m n k = if nat_lt k split then get m k else get n k

-- the two maps as one, below a bound
abbrev pub joined : ℕ → ℕ → FinMap nat_cmp ℕ → FinMap nat_cmp ℕ → FinMap nat_cmp ℕ
joined bound split m n = table bound (joined_at split m n)

-- the two regions, and the byte of a grant
abbrev pub regions_of : RegionState → RegionState → ℕ → Regions
regions_of b a fill = record { below = b.pages; above = a.pages; fill = fill }

-- who holds each doubleword of the two regions
abbrev pub all_held : RegionState → RegionState → FinMap nat_cmp ℕ
all_held b a = joined all_doublewords first_doubleword_above b.held a.held

-- the storage of the two regions
abbrev pub store_of : RegionState → RegionState → ℕ → Storage
store_of b a fill = record { regions = regions_of b a fill; held = all_held b a; bytes = joined all_addresses above_begins b.bytes a.bytes }

-- The region below and the region above.
pub record IsStore (b a : RegionState) : Type 0 where
  pub first_below : b.first ≡ first_doubleword_below
  pub first_above : a.first ≡ first_doubleword_above
  pub some_below : 1 ≤ b.pages
  pub few_below : b.pages ≤ most_pages_below
  pub few_above : a.pages ≤ most_pages_above
  pub sound_below : IsSound b
  pub sound_above : IsSound a

-- v is at the doublewords of the place and b at its addresses, and all else is as before.
pub record Taken (old : Storage) (p : PlaceValue) (v b : Option ℕ) (new : Storage) : Type 0 where
  pub regions : new.regions ≡ old.regions
  pub held : Changes (get old.held) (covers p) v (get new.held)
  pub bytes : Changes (get old.bytes) (has_address p) b (get new.bytes)

-- the best place above, if a place above is requested
abbrev pub BestAbove : RegionState → ℕ → WantValue → Option PlaceValue → Type 0
BestAbove a s want r = BestIn a s want r ⊎ ((want.side ≡ Below) × (r ≡ None))

-- what a search above has read, if a place above is requested
abbrev pub CountedAbove : RegionState → ℕ → WantValue → Option PlaceValue → ℕ → Type 0
CountedAbove a s want r steps = ((want.side ≡ Either) × IsCounted (most_steps a s) r steps) ⊎ ((want.side ≡ Below) × (r ≡ None) × (steps ≡ 0))
