-- What a map of bytes has once bytes were written over it.
use Rattle.std.specs.Prelude.{◌≡◌, ℕ, ◌+◌, ◌-◌, ◌&&◌, min, List, Option, Some, length, take, is_some, nat_lt, slice_index, if◌then◌else◌}
use Rattle.std.specs.Ordering.{nat_cmp}
use Rattle.std.specs.FinMap.{FinMap, get}
use Rattle.mvs_model.specs.Numbers.{above_begins}
use Rattle.mvs_model.specs.Place.{PlaceValue}
use Rattle.mvs_model.specs.Storage.{IsStorage, Storage, has_address}
use Rattle.mvs_model.specs.Table.{table}
use Rattle.subpool_store.specs.Bits.{in_range}
use Rattle.subpool_store.specs.Region.{RegionState}
use Rattle.subpool_store.specs.Sizes.{all_addresses}

-- what is at a key, with the bytes written over those from one key up to another
abbrev pub over : (ℕ → Option ℕ) → ℕ → ℕ → List ℕ → ℕ → Option ℕ
over m from to w k = if in_range from to k && is_some (m k) then Some (slice_index w (k - from)) else m k

-- the map with the bytes written over it: keys come and go nowhere
abbrev pub overwritten : FinMap nat_cmp ℕ → ℕ → ℕ → List ℕ → FinMap nat_cmp ℕ
overwritten m from to w = table all_addresses (over (get m) from to w)

-- where the addresses end on the side of 16 megabytes on which an address is
abbrev pub side_end : ℕ → ℕ
side_end a = if nat_lt a above_begins then above_begins else all_addresses

-- a region with the bytes written over those from an address on
abbrev pub region_written : RegionState → ℕ → List ℕ → RegionState
region_written h a w = record { first = h.first; pages = h.pages; held = h.held; bytes = overwritten h.bytes a (a + length w) w }

-- storage with the bytes written over those from an address on, on its side of 16 megabytes
abbrev pub written_from : Storage → ℕ → List ℕ → Storage
written_from st a w = record { regions = st.regions; held = st.held; bytes = overwritten st.bytes a (min (a + length w) (side_end a)) w }

-- storage with the bytes written over those of a place
abbrev pub written : Storage → PlaceValue → List ℕ → Storage
written st p w = written_from st p.addr (take p.len w)

-- The bytes are now at the place, one after another, and nothing else has changed.
pub record Puts (old : Storage) (p : PlaceValue) (w : List ℕ) (new : Storage) : Type 0 where
  pub regions : new.regions ≡ old.regions
  pub held : new.held ≡ old.held
  pub bytes : (k : ℕ) → get new.bytes k ≡ (if has_address p k then Some (slice_index w (k - p.addr)) else get old.bytes k)
  pub storage : IsStorage new
