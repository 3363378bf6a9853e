-- A pool gets a further part.
use Rattle.std.specs.Prelude.{◌≡◌, ℕ, Some}
use Rattle.std.specs.FinMap.{FinMap, get}
use Rattle.mvs_model.specs.declared.name.Name.{Name}
use Rattle.mvs_model.specs.Name.{name_cmp}
use Rattle.mvs_model.specs.Place.{PlaceValue}
use Rattle.mvs_model.specs.Storage.{Chosen, Storage, NoPlace, holder}
use Rattle.mvs_model.specs.Owners.{Owners}
use Rattle.mvs_model.specs.Pools.{part_want}
use Rattle.mvs_model.specs.View.{state_of}
use Rattle.mvs_model.specs.Changes.{Extends}
use Rattle.cell_pool.specs.Layout.{byte_of}
use Rattle.cell_pool.specs.Roots.{Root, extended, part_of, pool_of, pools_of}
use Rattle.cell_pool.specs.Walk.{IsFreeAt}

-- The pool has one part more, at the address and after the others, with no cell taken. Nothing else has changed.
pub record Extended (roots : FinMap name_cmp Root) (old : Storage) (name : Name) (r : Root) (a : ℕ) (new_roots : FinMap name_cmp Root) (new : Storage) : Type 0 where
  pub place : PlaceValue
  pub root : get new_roots name ≡ Some (extended r a)
  pub part : part_of (byte_of new) (extended r a) r.count ≡ record { place = place; count = r.secondary }
  pub free : IsFreeAt new (extended r a) a 0 0 a
  pub is_last : free.number ≡ r.count
  pub extends : (o : Owners) → Extends (state_of old o (pools_of roots old)) name (pool_of (byte_of old) r) r.secondary place o (state_of new o (pools_of new_roots new))

-- There is no place for a further part of the pool.
abbrev pub NoRoom : Storage → Root → Type 0
NoRoom st r = NoPlace st.regions (holder st) r.subpool (part_want r.cell_size r.secondary r.side)

-- A further part of the pool may be at the place.
abbrev pub MayAdd : Storage → Root → PlaceValue → Type 0
MayAdd st r q = Chosen st.regions (holder st) r.subpool (part_want r.cell_size r.secondary r.side) q
