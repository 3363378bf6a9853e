-- What CPOOL BUILD answers and leaves.
use Rattle.std.specs.Prelude.{◌≡◌, ℕ, List, false, nat_le}
use Rattle.std.specs.FinMap.{FinMap, len, contains_key}
use Rattle.mvs_model.specs.declared.name.Name.{Name}
use Rattle.mvs_model.specs.Causes.{Cause, pool_causes}
use Rattle.mvs_model.specs.Name.{name_cmp}
use Rattle.mvs_model.specs.Place.{PlaceValue}
use Rattle.mvs_model.specs.Storage.{Storage, NoPlace, holder}
use Rattle.mvs_model.specs.Owners.{Owners}
use Rattle.mvs_model.specs.Pools.{part_want}
use Rattle.mvs_model.specs.View.{state_of}
use Rattle.mvs_model.specs.Changes.{Extends}
use Rattle.mvs_model.specs.Requests.{Plan, new_pool}
use Rattle.cell_pool.specs.Roots.{Root, pools_of}

-- The name was new and there was room for a pool; it is there now with its first part, whatever becomes of the owners.
-- (Assembler Services Reference, CPOOL BUILD)
pub record Builds (roots : FinMap name_cmp Root) (old : Storage) (name : Name) (s : ℕ) (plan : Plan) (new_roots : FinMap name_cmp Root) (new : Storage) : Type 0 where
  pub fresh : contains_key (pools_of roots old) name ≡ false
  pub room : nat_le 64 (len (pools_of roots old)) ≡ false
  pub place : PlaceValue
  pub extends : (o after : Owners) → Extends (state_of old o (pools_of roots old)) name (new_pool s plan) plan.primary place after (state_of new after (pools_of new_roots new))

-- What a new pool is refused for, by what is kept of the pools and by storage.
abbrev pub causes_of_build : FinMap name_cmp Root → Storage → Name → ℕ → Plan → List Cause
causes_of_build roots old name s plan = pool_causes (pools_of roots old) name (NoPlace old.regions (holder old) s (part_want plan.cell_size plan.primary plan.side))
