-- Taken cells, by their places.
use Rattle.std.specs.Prelude.{◌≡◌, ◌≢◌, ℕ, true, Some}
use Rattle.std.specs.Bool.{MatchBool}
use Rattle.std.specs.FinMap.{FinMap, get}
use Rattle.std.specs.FinSet as set
use Rattle.mvs_model.specs.declared.name.Name.{Name}
use Rattle.mvs_model.specs.Name.{name_cmp}
use Rattle.mvs_model.specs.Place.{PlaceValue}
use Rattle.mvs_model.specs.Storage.{Storage, Covers}
use Rattle.mvs_model.specs.Pools.{Pool, IsFreeCell, cell_at, in_parts}
use Rattle.mvs_model.specs.State.{pooled}
use Rattle.mvs_model.specs.View.{holding, in_pools}
use Rattle.cell_pool.specs.declared.pools.Supply.{Supply}

-- The place is that of a taken cell of one of the pools.
pub record IsTakenCell (pools : FinMap name_cmp Pool) (p : PlaceValue) : Type 0 where
  pub name : Name
  pub pool : Pool
  pub is_pool : get pools name ≡ Some pool
  pub taken : set.contains pool.taken p.addr ≡ true
  pub place : p ≡ cell_at pool p.addr

-- A doubleword of the place is held by the subpool as a part of a pool.
abbrev pub Touches : Storage → FinMap name_cmp Pool → ℕ → PlaceValue → Type 0
Touches st pools s p = (d : ℕ) × Covers p d × (holding st pools d ≡ Some (pooled s))

-- No doubleword of the place is.
abbrev pub TouchesNone : Storage → FinMap name_cmp Pool → ℕ → PlaceValue → Type 0
TouchesNone st pools s p = (d : ℕ) → Covers p d → holding st pools d ≢ Some (pooled s)

-- A part of some pool has a doubleword of the place.
abbrev pub HasPartOf : FinMap name_cmp Pool → PlaceValue → Type 0
HasPartOf pools p = (d : ℕ) × Covers p d × (in_pools pools d ≡ true)

-- A part of the pool of this name has the doubleword.
abbrev pub HasPart : FinMap name_cmp Pool → Name → ℕ → Type 0
HasPart pools name d = (pool : Pool) × (get pools name ≡ Some pool) × (in_parts pool d ≡ true)

-- This is what the pool has for a request for a cell.
pub record IsSupply (pool : Pool) (supply : Supply) : Type 0 where
  pub free : MatchBool supply.has_free ((c : ℕ) × IsFreeCell pool c) ((c : ℕ) → IsFreeCell pool c → ⊥)
  pub subpool : supply.subpool ≡ pool.subpool
  pub cell_size : supply.cell_size ≡ pool.cell_size
  pub secondary : supply.secondary ≡ pool.secondary
  pub side : supply.side ≡ pool.side
