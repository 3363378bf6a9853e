-- A pool as a walk along its parts sees it.
use Rattle.std.specs.Prelude.{◌≡◌, ℕ, ◌+◌, ◌*◌, ◌<◌, ◌≤◌, ◌==◌, Bool, true, false, Some, if◌then◌else◌}
use Rattle.mvs_model.specs.Finite.{any_below}
use Rattle.std.specs.FinMap.{get}
use Rattle.mvs_model.specs.Place.{PlaceValue}
use Rattle.mvs_model.specs.Storage.{Storage, IsStorage, IsWhole, HeldBy, Covers, has_address, end_of}
use Rattle.mvs_model.specs.Changes.{Misses}
use Rattle.mvs_model.specs.Pools.{first_cell}
use Rattle.cell_pool.specs.Layout.{byte_of, count_at, taken_at, flag, IsLaid}
use Rattle.cell_pool.specs.Roots.{Root, part_addr, AreFull, part_of}

-- Each part of the pool has cells, is laid out in whole doublewords inside the regions, and is held by the pool's subpool; and no
-- doubleword is of two parts.
pub record IsChain (st : Storage) (r : Root) : Type 0 where
  pub size : 4 ≤ r.cell_size
  pub small : r.cell_size ≤ 65536
  pub some : 1 ≤ r.count
  pub low : (j : ℕ) → j < r.count → (part_of (byte_of st) r j).place.addr + (part_of (byte_of st) r j).place.len ≤ 0x3000000
  pub inside : (j : ℕ) → j < r.count → (part_of (byte_of st) r j).place.addr + (part_of (byte_of st) r j).place.len ≤ 8 * end_of st.regions
  pub cells : (j : ℕ) → j < r.count → 1 ≤ count_at (byte_of st) (part_addr (byte_of st) r.first j)
  pub whole : (j : ℕ) → j < r.count → IsWhole (part_of (byte_of st) r j).place
  pub laid : (j : ℕ) → j < r.count → IsLaid (byte_of st) r.cell_size (part_addr (byte_of st) r.first j)
  pub held : (j : ℕ) → j < r.count → HeldBy st r.subpool (part_of (byte_of st) r j).place
  pub apart : (j k : ℕ) → j < k → k < r.count → Misses (part_of (byte_of st) r j).place (part_of (byte_of st) r k).place

-- whether the open part is one of the first n parts of the pool
abbrev pub is_past : (ℕ → ℕ) → Root → ℕ → Bool
is_past m r n = any_below (λ j. part_addr m r.first j == r.open_part) n

-- The part at the address is one of the pool, with this number of cells and of taken cells; and whether the open part is this one
-- or an earlier one.
pub record IsPartAt (st : Storage) (r : Root) (a count taken : ℕ) (past : Bool) : Type 0 where
  pub number : ℕ
  pub is_part : number < r.count
  pub addr : a ≡ part_addr (byte_of st) r.first number
  pub cells : count ≡ count_at (byte_of st) a
  pub of_taken : taken ≡ taken_at (byte_of st) a
  pub of_past : past ≡ is_past (byte_of st) r (number + 1)

-- The part at the address is one of the pool, with this number of taken cells. Its cell with this number begins at the other
-- address and is one of them. And whether the open part is this one or an earlier one.
pub record IsTakenAt (st : Storage) (r : Root) (a i taken : ℕ) (past : Bool) (c : ℕ) : Type 0 where
  pub number : ℕ
  pub is_part : number < r.count
  pub addr : a ≡ part_addr (byte_of st) r.first number
  pub is_cell : i < count_at (byte_of st) a
  pub at : c ≡ first_cell r.cell_size (part_of (byte_of st) r number) + i * r.cell_size
  pub set : flag (byte_of st) a i ≡ true
  pub of_taken : taken ≡ taken_at (byte_of st) a
  pub of_past : past ≡ is_past (byte_of st) r (number + 1)

-- The part at the address is one of the pool, with this number of taken cells. Its cell with this number is free. The part at the
-- other address is one of the pool too, and all parts before it are full.
pub record IsFreeAt (st : Storage) (r : Root) (a i taken open_part : ℕ) : Type 0 where
  pub number : ℕ
  pub is_part : number < r.count
  pub addr : a ≡ part_addr (byte_of st) r.first number
  pub is_cell : i < count_at (byte_of st) a
  pub clear : flag (byte_of st) a i ≡ false
  pub of_taken : taken ≡ taken_at (byte_of st) a
  pub open_number : ℕ
  pub is_open : open_number < r.count
  pub open_addr : open_part ≡ part_addr (byte_of st) r.first open_number
  pub full : AreFull (byte_of st) r.first open_number

-- Each cell of the pool is taken.
abbrev pub AllTaken : Storage → Root → Type 0
AllTaken st r = (j i : ℕ) → j < r.count → i < count_at (byte_of st) (part_addr (byte_of st) r.first j) → flag (byte_of st) (part_addr (byte_of st) r.first j) i ≡ true

-- The place has one byte everywhere now, and all else is as before.
pub record Fills (old : Storage) (p : PlaceValue) (b : ℕ) (new : Storage) : Type 0 where
  pub storage : IsStorage new
  pub regions : new.regions ≡ old.regions
  pub held : new.held ≡ old.held
  pub bytes : (x : ℕ) → get new.bytes x ≡ (if has_address p x then Some b else get old.bytes x)

-- A part of the pool has a doubleword of the place.
abbrev pub Meets : Storage → Root → PlaceValue → Type 0
Meets st r p = (j d : ℕ) × (j < r.count) × Covers (part_of (byte_of st) r j).place d × Covers p d
