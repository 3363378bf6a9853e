-- Hints for the place of a cell, and the place that is used.
use Rattle.std.specs.Prelude.{◌≡◌, ◌⊎◌, ℕ, Option, Some}
use Rattle.std.specs.FinMap.{FinMap, get}
use Rattle.mvs_model.specs.declared.name.Name.{Name}
use Rattle.mvs_model.specs.Name.{name_cmp}
use Rattle.mvs_model.specs.Place.{PlaceValue}
use Rattle.mvs_model.specs.Storage.{Chosen, Storage, holder as held_by}
use Rattle.mvs_model.specs.Changes.{with_part}
use Rattle.mvs_model.specs.Pools.{Pool, IsCellOf, IsFreeCell, first_cell, part_want}
use Rattle.mvs_model.specs.State.{State, holder}

-- the address of the first cell of a part of the pool with a number of cells, by its place
abbrev pub first_in : Pool → ℕ → PlaceValue → ℕ
first_in pool count q = first_cell pool.cell_size (record { place = q; count = count })

-- A cell of the pool may be had at the address: a free one, or, where none is free, one of a further part whose first cell is at
-- the other address.
abbrev pub MayHave : State → Pool → ℕ → Option ℕ → Type 0
MayHave old pool a first =
    IsFreeCell pool a
    ⊎ (((c : ℕ) → IsFreeCell pool c → ⊥)
    × ((q : PlaceValue) × Chosen old.regions (holder old) pool.subpool (part_want pool.cell_size pool.secondary pool.side) q × (first ≡ Some (first_in pool pool.secondary q))
    × IsCellOf pool.cell_size (record { place = q; count = pool.secondary }) a))

-- A taken cell is at the hinted address, if there can be one.
abbrev pub CellFollowsHint : State → Name → ℕ → Option ℕ → PlaceValue → Type 0
CellFollowsHint old name hint first p = (pool : Pool) → get old.pools name ≡ Some pool → MayHave old pool hint first → p.addr ≡ hint

-- The pool now has a part with its first cell at the hinted address, if such a part can be added to it.
abbrev pub PartFollowsHint : Storage → Name → Pool → ℕ → ℕ → FinMap name_cmp Pool → Type 0
PartFollowsHint st name pool count hint pools =
    (q : PlaceValue) → Chosen st.regions (held_by st) pool.subpool (part_want pool.cell_size count pool.side) q → hint ≡ first_in pool count q → get pools name ≡ Some (with_part pool count q)
