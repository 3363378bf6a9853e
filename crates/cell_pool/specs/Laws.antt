-- What keeps the pools as they are.
use Rattle.std.specs.Prelude.{◌==◌, not, true, ◌≡◌, ◌≢◌, ℕ, ◌+◌, ◌<◌, ◌≤◌, false, Option, Some, if◌then◌else◌}
use Rattle.std.specs.FinMap.{FinMap, get, empty}
use Rattle.mvs_model.specs.declared.name.Name.{Name}
use Rattle.mvs_model.specs.Name.{name_cmp}
use Rattle.mvs_model.specs.Place.{PlaceValue}
use Rattle.mvs_model.specs.Want.{WantValue}
use Rattle.mvs_model.specs.Storage.{Storage, IsStorage, Covers, has_address, holder, Grant, Release, ReleaseAll}
use Rattle.mvs_model.specs.Owners.{Owners, SubpoolOf, Enters, effective_task}
use Rattle.mvs_model.specs.declared.refusal.Refusal.{Refusal}
use Rattle.mvs_model.specs.Requests.{Plan, Builds as MachineBuilds, is_invalid}
use Rattle.mvs_model.specs.Causes.{Passed, Refused, build_causes}
use Rattle.cell_pool.specs.Building.{Builds, causes_of_build}
use Rattle.mvs_model.specs.View.{IsBounded, in_pools, state_of}
use Rattle.mvs_model.specs.Finite.{Keeps}
use Rattle.mvs_model.specs.Pools.{Pool, part_want}
use Rattle.mvs_model.specs.Reports.{bytes_held}
use Rattle.mvs_model.specs.Storage.{held_bytes}
use Rattle.mvs_model.specs.Changes.{Granted}
use Rattle.cell_pool.specs.Layout.{byte_of, count_at, head_length}
use Rattle.cell_pool.specs.Roots.{Root, part_addr, part_of, pools_of}
use Rattle.cell_pool.specs.Agree.{Agree}

-- Storage keeps the parts: the regions, the holders of their doublewords, and the bytes before their cells are as before.
pub record KeepsParts (roots : FinMap name_cmp Root) (old new : Storage) : Type 0 where
  pub storage : IsStorage new
  pub regions : new.regions ≡ old.regions
  pub held : (name : Name) (r : Root) (j d : ℕ) → get roots name ≡ Some r → j < r.count → Covers (part_of (byte_of old) r j).place d → holder new d ≡ holder old d
  pub heads : (name : Name) (r : Root) (j x : ℕ) → get roots name ≡ Some r → j < r.count → part_addr (byte_of old) r.first j ≤ x
      → x < part_addr (byte_of old) r.first j + head_length (count_at (byte_of old) (part_addr (byte_of old) r.first j)) → byte_of new x ≡ byte_of old x

-- What keeps the parts keeps the pools, and their records still agree with storage.
abbrev pub PartsCarryPools : Type 0
PartsCarryPools = (roots : FinMap name_cmp Root) (old new : Storage) → Agree roots old → KeepsParts roots old new → Agree roots new × (pools_of roots new ≡ pools_of roots old)

-- No part of a pool has a doubleword of the place.
abbrev pub IsClear : FinMap name_cmp Pool → PlaceValue → Type 0
IsClear pools p = (d : ℕ) → Covers p d → in_pools pools d ≡ false

-- A grant keeps the parts.
abbrev pub GrantKeeps : Type 0
GrantKeeps = (roots : FinMap name_cmp Root) (old new : Storage) (s : ℕ) (want : WantValue) (p : PlaceValue) → Agree roots old → IsStorage new → Grant old s want p new → KeepsParts roots old new

-- A release of a place that has nothing of a part keeps them.
abbrev pub ReleaseKeeps : Type 0
ReleaseKeeps = (roots : FinMap name_cmp Root) (old new : Storage) (s : ℕ) (p : PlaceValue) → Agree roots old → IsStorage new → Release old s p new → IsClear (pools_of roots old) p → KeepsParts roots old new

-- The release of all of a subpool that has no pool keeps them.
abbrev pub ReleaseAllKeeps : Type 0
ReleaseAllKeeps = (roots : FinMap name_cmp Root) (old new : Storage) (s : ℕ) → Agree roots old → IsStorage new → ReleaseAll old s new → ((name : Name) (r : Root) → get roots name ≡ Some r → r.subpool ≢ s) → KeepsParts roots old new

-- A write of bytes that are in no part, or in a taken cell, keeps them.
abbrev pub WriteKeeps : Type 0
WriteKeeps = (roots : FinMap name_cmp Root) (old new : Storage) (p : PlaceValue) (value : ℕ → Option ℕ) (o : Owners) → Agree roots old → IsStorage new → new.regions ≡ old.regions → new.held ≡ old.held
    → ((a : ℕ) → get new.bytes a ≡ (if has_address p a then value a else get old.bytes a)) → Granted (state_of old o (pools_of roots old)) p → KeepsParts roots old new

-- Some of the pools agree with storage where all of them do.
abbrev pub FewerAgree : Type 0
FewerAgree = (roots fewer : FinMap name_cmp Root) (st : Storage) → Agree roots st → ((name : Name) (r : Root) → get fewer name ≡ Some r → get roots name ≡ Some r) → Agree fewer st

-- No pools agree with any storage of a step.
abbrev pub NoneAgree : Type 0
NoneAgree = (st : Storage) → IsStorage st → IsBounded st.regions → Agree empty st

-- A pool that is made is one by the machine for each task that means the subpool by the number, whose keeper has it or gets it now;
-- and what it is refused for, the machine refuses it for.
abbrev pub BuildIsStep : Type 0
BuildIsStep =
    (roots new_roots : FinMap name_cmp Root) (old new : Storage) (name : Name) (s : ℕ) (plan : Plan) (o after : Owners) (t : Name) (number : ℕ) → Agree roots old → is_invalid number ≡ false → SubpoolOf o (effective_task o t number) number s
    → (Builds roots old name s plan new_roots new → Enters o (effective_task o t number) number s after
    → Passed (build_causes (state_of old o (pools_of roots old)) t name number (part_want plan.cell_size plan.primary plan.side))
    × MachineBuilds (state_of old o (pools_of roots old)) (effective_task o t number) name number plan (state_of new after (pools_of new_roots new)))
    × ((refusal : Refusal) → Refused (causes_of_build roots old name s plan) refusal
    → Refused (build_causes (state_of old o (pools_of roots old)) t name number (part_want plan.cell_size plan.primary plan.side)) refusal)

-- Where the records of a subpool's pools go, the machine's pools of this subpool go, and what is left agrees with storage.
abbrev pub DropsSubpool : Type 0
DropsSubpool = (roots fewer : FinMap name_cmp Root) (st : Storage) (s : ℕ) → Agree roots st → Keeps (get roots) (λ _ r. not (r.subpool == s)) (get fewer)
    → Agree fewer st × Keeps (get (pools_of roots st)) (λ _ pool. not (pool.subpool == s)) (get (pools_of fewer st)) × ((name : Name) (r : Root) → get fewer name ≡ Some r → r.subpool ≢ s)

-- What a subpool holds in parts of pools and outside of them is all that it holds.
abbrev pub SplitsBytes : Type 0
SplitsBytes = (roots : FinMap name_cmp Root) (st : Storage) (s : ℕ) (o : Owners) → Agree roots st
    → bytes_held (state_of st o (pools_of roots st)) s false + bytes_held (state_of st o (pools_of roots st)) s true ≡ held_bytes st s
