-- What holds of a refused request, for each refusal whose reason says more.
use Rattle.std.specs.Prelude.{◌≡◌, ℕ, true, false, List, map, Option, Some, None}
use Rattle.std.specs.List.{AllByRecursion, list_all}
use Rattle.std.specs.FinMap.{get}
use Rattle.std.specs.FinSet as set
use Rattle.mvs_model.specs.declared.name.Name.{Name}
use Rattle.mvs_model.specs.declared.request.Request.{Request}
use Rattle.mvs_model.specs.declared.request.Request.TheVariants.{Obtain, Build, Get, Free, Attach}
use Rattle.mvs_model.specs.declared.refusal.Refusal.{Refusal}
use Rattle.mvs_model.specs.declared.refusal.Refusal.TheVariants.{NotActive, InvalidNumber, WholeOfZero, PoolInUse, TooManyPools, NoPool, NoFreeCell, TaskInUse, TooManyTasks, Shortage, Member, NoPart, OffDoubleword, NoSubpool, NotHeld, Overlap, NoTakenCell, NotOwned, ActiveSubtask, Asked, NoAccess}
use Rattle.mvs_model.specs.Place.{PlaceValue}
use Rattle.mvs_model.specs.Want.{WantValue, want_of, side_of}
use Rattle.mvs_model.specs.Storage.{NoPlace}
use Rattle.mvs_model.specs.Owners.{Owners, gives_shared, has_subtask, is_active, effective_task, subpool_meant}
use Rattle.mvs_model.specs.Pools.{Pool, part_want}
use Rattle.mvs_model.specs.State.{State, holder}
use Rattle.mvs_model.specs.Changes.{Disjoint, HeldPlain, ShortOf}
use Rattle.mvs_model.specs.Requests.{all_granted, is_invalid, on_doubleword, residence_of, side_for, whole}
use Rattle.mvs_model.specs.Determined.{is_list}
use Rattle.mvs_model.specs.Reasons.{accessed, requested_code, number_of, released}

-- The number is valid, and there is no place for the requested area.
abbrev pub ShortUnder : State → Name → ℕ → WantValue → Type 0
ShortUnder st t number want = (is_invalid number ≡ false) × ShortOf st (effective_task st.owners t number) number want

-- There is no place for an area.
abbrev pub AreaShort : State → Name → Request → Type 0
AreaShort st t (Obtain form number ask) = ShortUnder st t number (want_of ask (side_for st t form ask.loc))
AreaShort st t _ = ⊥

-- There is no place for a further part of the pool.
abbrev pub FurtherShort : State → Option Pool → Type 0
FurtherShort st None = ⊥
FurtherShort st (Some pool) = NoPlace st.regions (holder st) pool.subpool (part_want pool.cell_size pool.secondary pool.side)

-- The request may take a further part of a pool.
abbrev pub IsFurther : Request → Type 0
IsFurther (Build name number size primary secondary loc) = ⊥
IsFurther _ = Unit {0}

-- There is no place for a part of a pool.
abbrev pub PartShort : State → Name → Request → Type 0
PartShort st t (Build name number size primary secondary loc) = ShortUnder st t number (part_want size primary (side_of loc (residence_of st.owners t)))
PartShort st t (Get name conditional) = FurtherShort st (get st.pools name)
PartShort st t _ = ⊥

-- There is a subpool, and it does not hold all of the places outside of the pools.
abbrev pub SomeUnheld : State → Option ℕ → List PlaceValue → Type 0
SomeUnheld st meant ps = (s : ℕ) × (meant ≡ Some s) × (AllByRecursion (HeldPlain st s) ps → ⊥)

-- The pool is there, and no taken cell of it begins at the address.
abbrev pub Untaken : State → Request → Type 0
Untaken st (Free name c) = (pool : Pool) × (get st.pools name ≡ Some pool) × (set.contains pool.taken c ≡ false)
Untaken st _ = ⊥

-- A number is given whose subpool the attaching task only shares.
abbrev pub GivesShared : Owners → Name → Request → Type 0
GivesShared o t (Attach name gifts residence) = gives_shared o t gifts ≡ true
GivesShared o t _ = ⊥

-- what is so of a task's request that is refused
abbrev pub Concerns : State → Name → Request → Refusal → Type 0
Concerns st t request NotActive = is_active st.owners t ≡ false
Concerns st t request Shortage = (is_active st.owners t ≡ true) × AreaShort st t request
Concerns st t request (Member k) = is_list request ≡ true
Concerns st t request NoPart = (is_active st.owners t ≡ true) × PartShort st t request
Concerns st t request OffDoubleword = list_all on_doubleword (released request) ≡ false
Concerns st t request NoSubpool = (is_active st.owners t ≡ true) × (is_invalid (number_of request) ≡ false)
Concerns st t request NotHeld =
    (is_active st.owners t ≡ true) × (is_invalid (number_of request) ≡ false) × (list_all on_doubleword (released request) ≡ true)
    × SomeUnheld st (subpool_meant st.owners t (number_of request)) (map whole (released request))
Concerns st t request Overlap = Disjoint (map whole (released request)) → ⊥
Concerns st t request NoTakenCell = Untaken st request
Concerns st t request NotOwned = (is_active st.owners t ≡ true) × GivesShared st.owners t request
Concerns st t request ActiveSubtask = (is_active st.owners t ≡ true) × (has_subtask st.owners t ≡ true)
Concerns st t request (Asked code) = code ≡ requested_code request
Concerns st t request NoAccess = list_all (all_granted st) (accessed request) ≡ false
Concerns st t request InvalidNumber = Unit {0}
Concerns st t request WholeOfZero = Unit {0}
Concerns st t request PoolInUse = Unit {0}
Concerns st t request TooManyPools = Unit {0}
Concerns st t request NoPool = Unit {0}
Concerns st t request NoFreeCell = Unit {0}
Concerns st t request TaskInUse = Unit {0}
Concerns st t request TooManyTasks = Unit {0}
