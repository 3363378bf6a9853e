-- The steps case by case, in the order in which they are looked for: how proofs go through a step.
use Rattle.std.specs.Prelude.{◌≡◌, ◌⊎◌, ℕ, Bool, true, false, not, ◌&&◌, ◌==◌, nat_le, List, [], ◌∷◌, length, map, Option, Some, None}
use Rattle.std.specs.Bool.{MatchBool}
use Rattle.std.specs.List.{list_all}
use Rattle.std.specs.FinMap.{get, len, contains_key}
use Rattle.std.specs.FinSet as set
use Rattle.mvs_model.specs.declared.name.Name.{Name}
use Rattle.mvs_model.specs.declared.want.Side.TheVariants.{Below}
use Rattle.mvs_model.specs.declared.want.Residence.{Residence}
use Rattle.mvs_model.specs.declared.code.Form.{Form}
use Rattle.mvs_model.specs.declared.code.Family.TheVariants.{Located}
use Rattle.mvs_model.specs.declared.code.Code.{Code}
use Rattle.mvs_model.specs.declared.code.Code.TheVariants.{User}
use Rattle.mvs_model.specs.declared.request.Request.{Request}
use Rattle.mvs_model.specs.declared.request.Request.TheVariants.{Obtain, ObtainList, Release, ReleaseList, ReleaseWhole, Build, Get, Free, Delete, Attach, Return, Abend, Show, Put, Move}
use Rattle.mvs_model.specs.declared.request.Reply.{Reply}
use Rattle.mvs_model.specs.declared.request.Reply.TheVariants.{NotRun, Rc0, Rc4, Obtained, Listed, NoCell, Attached, Ended, Done}
use Rattle.mvs_model.specs.Place.{PlaceValue, place_at}
use Rattle.mvs_model.specs.Want.{WantValue, want_of, fixed_want, side_of}
use Rattle.mvs_model.specs.Gifts.{GiftsValue}
use Rattle.mvs_model.specs.Storage.{NoPlace}
use Rattle.mvs_model.specs.Owners.{Owners, is_active, effective_task, subpool_meant, has_subtask}
use Rattle.mvs_model.specs.Pools.{Pool, part_want, IsFreeCell}
use Rattle.mvs_model.specs.State.{State, holder}
use Rattle.mvs_model.specs.Codes.{family, is_conditional, short, bad_subpool, bad_address, not_held, whole_of_zero, pool_in_use, too_many_pools, no_such_pool, no_such_cell, active_subtask, no_access}
use Rattle.mvs_model.specs.Changes.{GrantTo, ShortOf, ListGrant, Releasable, Frees, End, GivesCell, DropsPool, Writes}
use Rattle.mvs_model.specs.Numbers.{most_pools}
use Rattle.mvs_model.specs.Consequences.{Abends, Refuses}
use Rattle.mvs_model.specs.Requests.{residence_of, side_for, is_invalid, whole, on_doubleword, EmptiesEntry, Plan, Builds, Gets, GetsMore, Attaches, all_granted, bytes_from, moved_from}
use Rattle.mvs_model.specs.Owners.{gives_shared}
use Rattle.mvs_model.specs.Numbers.{most_tasks}
use Rattle.mvs_model.specs.Codes.{not_owned, task_in_use, too_many_tasks}
use Rattle.std.specs.Prelude.{if◌then◌else◌}

-- After grants for some of the front there is no place for the next.
abbrev pub ListShort : State → Name → ℕ → List WantValue → Type 0
ListShort old t number [] = ⊥
ListShort old t number (want ∷ wants) =
    ShortOf old t number want
    ⊎ ((p : PlaceValue) × (mid : State) × GrantTo old t number want p mid × ListShort mid t number wants)

-- why an ATTACH is refused, if it is: the name is active, 32 tasks are active, or a number is given whose subpool the
-- mother does not own. (this project's choice)
abbrev pub attach_refusal : Owners → Name → Name → GiftsValue → Option Code
attach_refusal o mother name gifts =
    if is_active o name then Some task_in_use
    else (if nat_le most_tasks (len o.tasks) then Some too_many_tasks
    else (if gives_shared o mother gifts then Some not_owned
    else None))

-- A conditional request is answered 4, and an unconditional one abends. (Assembler Services Reference, GETMAIN)
abbrev pub Fails : Bool → State → Name → Code → Reply → State → Type 0
Fails true old t code reply new = Refuses old Rc4 reply new
Fails false old t code reply new = Abends old t code reply new

-- An invalid subpool number abends; want of a place is a failure; else the place is granted. (Assembler Services Reference,
-- GETMAIN; that the number is looked at first is this project's choice)
abbrev pub ObtainStep : State → Name → Form → ℕ → WantValue → Reply → State → Type 0
ObtainStep old t form number want reply new =
    MatchBool (is_invalid number)
    (Abends old t (bad_subpool (family form) true) reply new)
    ((ShortOf old (effective_task old.owners t number) number want × Fails (is_conditional form) old t (short (family form)) reply new)
    ⊎ ((p : PlaceValue) × (reply ≡ Obtained p) × GrantTo old (effective_task old.owners t number) number want p new))

-- An invalid subpool number abends; of a list all places are granted, or none. (Assembler Services Reference, GETMAIN)
abbrev pub ObtainListStep : State → Name → Form → ℕ → List WantValue → Reply → State → Type 0
ObtainListStep old t form number wants reply new =
    MatchBool (is_invalid number)
    (Abends old t (bad_subpool (family form) true) reply new)
    ((ListShort old (effective_task old.owners t number) number wants × Fails (is_conditional form) old t (short (family form)) reply new)
    ⊎ ((ps : List PlaceValue) × (reply ≡ Listed ps) × ListGrant old (effective_task old.owners t number) number wants ps new))

-- what the task has under the number may be released in these places
abbrev pub MayRelease : State → Option ℕ → List PlaceValue → Type 0
MayRelease st None ps = ⊥
MayRelease st (Some s) ps = Releasable st s ps

-- An invalid subpool number abends, then a place that does not begin on a doubleword; places that are not all held are a
-- failure; else all are freed. (Assembler Services Reference, FREEMAIN; the order of the causes, and that a failure frees
-- nothing, is this project's choice)
abbrev pub ReleaseStep : State → Name → Form → ℕ → List PlaceValue → Reply → State → Type 0
ReleaseStep old t form number ps reply new =
    MatchBool (is_invalid number)
    (Abends old t (bad_subpool (family form) false) reply new)
    (MatchBool (not (list_all on_doubleword ps))
    (Abends old t (bad_address (family form)) reply new)
    (((MayRelease old (subpool_meant old.owners t number) (map whole ps) → ⊥) × Fails (is_conditional form) old t (not_held (family form)) reply new)
    ⊎ (MayRelease old (subpool_meant old.owners t number) (map whole ps) × (reply ≡ Rc0) × Frees old (map whole ps) new)))

-- All of a subpool is released; subpool 0 may not be. (Assembler Services Reference, FREEMAIN; the code U4006 is this
-- project's choice)
abbrev pub ReleaseWholeStep : State → Name → Form → ℕ → Reply → State → Type 0
ReleaseWholeStep old t form number reply new =
    MatchBool (is_invalid number)
    (Abends old t (bad_subpool (family form) false) reply new)
    (MatchBool (number == 0)
    (Abends old t whole_of_zero reply new)
    ((reply ≡ Rc0) × EmptiesEntry old (subpool_meant old.owners t number) new))

-- CPOOL BUILD: the name must be new, at most 64 pools are there, and a first part must find a place. (Assembler Services
-- Reference, CPOOL; the codes B78, U4008, U4007 and 878, and their order, are this project's choice)
abbrev pub BuildStep : State → Name → Name → ℕ → Plan → Reply → State → Type 0
BuildStep old t name number plan reply new =
    MatchBool (is_invalid number)
    (Abends old t (bad_subpool Located true) reply new)
    (MatchBool (contains_key old.pools name)
    (Abends old t pool_in_use reply new)
    (MatchBool (nat_le most_pools (len old.pools))
    (Abends old t too_many_pools reply new)
    ((ShortOf old (effective_task old.owners t number) number (part_want plan.cell_size plan.primary plan.side) × Abends old t (short Located) reply new)
    ⊎ (Builds old (effective_task old.owners t number) name number plan new × (reply ≡ Rc0)))))

-- What becomes of CPOOL GET where no cell is free. (Assembler Services Reference, CPOOL; the code 878 is this project's choice)
abbrev pub GetsNone : State → Name → Name → Bool → Pool → Reply → State → Type 0
GetsNone old t name conditional pool reply new =
    MatchBool conditional
    (Refuses old NoCell reply new)
    ((NoPlace old.regions (holder old) pool.subpool (part_want pool.cell_size pool.secondary pool.side) × Abends old t (short Located) reply new)
    ⊎ GetsMore old name pool reply new)

-- CPOOL GET: a free cell, where the pool has one. (Assembler Services Reference, CPOOL; the code U4002 for want of the pool is
-- this project's choice)
abbrev pub GetStep : State → Name → Name → Bool → Option Pool → Reply → State → Type 0
GetStep old t name conditional None reply new = Abends old t no_such_pool reply new
GetStep old t name conditional (Some pool) reply new =
    ((c : ℕ) × IsFreeCell pool c × Gets old name pool c reply new)
    ⊎ (((c : ℕ) → IsFreeCell pool c → ⊥) × GetsNone old t name conditional pool reply new)

-- CPOOL FREE of a taken cell of the pool. (Assembler Services Reference, CPOOL; U4002 for want of the pool, and U4001 for an
-- address where no taken cell of it begins, are this project's choice)
abbrev pub FreeStep : State → Name → Name → ℕ → Option Pool → Reply → State → Type 0
FreeStep old t name c None reply new = Abends old t no_such_pool reply new
FreeStep old t name c (Some pool) reply new =
    MatchBool (not (set.contains pool.taken c))
    (Abends old t no_such_cell reply new)
    ((reply ≡ Rc0) × GivesCell old name pool c new)

-- CPOOL DELETE. (Assembler Services Reference, CPOOL; the code U4002 for want of the pool is this project's choice)
abbrev pub DeleteStep : State → Name → Name → Option Pool → Reply → State → Type 0
DeleteStep old t name None reply new = Abends old t no_such_pool reply new
DeleteStep old t name (Some pool) reply new = (reply ≡ Rc0) × DropsPool old name pool new

-- what becomes of ATTACH, by the code that refuses it
abbrev pub AttachCase : State → Name → Name → GiftsValue → Residence → Option Code → Reply → State → Type 0
AttachCase old t name gifts residence (Some code) reply new = Abends old t code reply new
AttachCase old t name gifts residence None reply new = (reply ≡ Attached) × Attaches old t name gifts residence new

-- ATTACH. (Assembler Services Reference, ATTACH; its codes are this project's choice)
abbrev pub AttachStep : State → Name → Name → GiftsValue → Residence → Reply → State → Type 0
AttachStep old t name gifts residence reply new = AttachCase old t name gifts residence (attach_refusal old.owners t name gifts) reply new

-- A return ends the task; with an active subtask it abends A03. (System Codes, A03)
abbrev pub ReturnStep : State → Name → Reply → State → Type 0
ReturnStep old t reply new =
    MatchBool (has_subtask old.owners t)
    (Abends old t active_subtask reply new)
    ((reply ≡ Ended) × End old t new)

-- A request that touches bytes abends 0C4 where one of them may not be read and written. (System Codes, 0C4; that it is looked
-- at byte by byte, and that no byte changes then, is this project's choice)
abbrev pub Accesses : State → Name → Bool → Type 0 → Reply → State → Type 0
Accesses old t allowed done reply new = MatchBool (not allowed) (Abends old t no_access reply new) ((reply ≡ Done) × done)

-- What an active task's request may be answered.
abbrev pub Acts : State → Name → Request → Reply → State → Type 0
Acts old t (Obtain form number ask) reply new = ObtainStep old t form number (want_of ask (side_for old t form ask.loc)) reply new
Acts old t (ObtainList form number lengths start) reply new = ObtainListStep old t form number (map (λ n. fixed_want n start Below) lengths) reply new
Acts old t (Release form number p) reply new = ReleaseStep old t form number (p ∷ []) reply new
Acts old t (ReleaseList form number ps) reply new = ReleaseStep old t form number ps reply new
Acts old t (ReleaseWhole form number) reply new = ReleaseWholeStep old t form number reply new
Acts old t (Build name number size primary secondary loc) reply new =
    BuildStep old t name number (record { cell_size = size; primary = primary; secondary = secondary; side = side_of loc (residence_of old.owners t) }) reply new
Acts old t (Get name conditional) reply new = GetStep old t name conditional (get old.pools name) reply new
Acts old t (Free name c) reply new = FreeStep old t name c (get old.pools name) reply new
Acts old t (Delete name) reply new = DeleteStep old t name (get old.pools name) reply new
Acts old t (Attach name gifts residence) reply new = AttachStep old t name gifts residence reply new
Acts old t Return reply new = ReturnStep old t reply new
Acts old t (Abend n) reply new = Abends old t (User n) reply new
Acts old t (Show a n) reply new = Accesses old t (all_granted old (place_at a n)) (new ≡ old) reply new
Acts old t (Put a bytes) reply new = Accesses old t (all_granted old (place_at a (length bytes))) (Writes old (place_at a (length bytes)) (bytes_from a bytes) new) reply new
Acts old t (Move to from n) reply new = Accesses old t (all_granted old (place_at to n) && all_granted old (place_at from n)) (Writes old (place_at to n) (moved_from old to from) new) reply new

-- what a task's request may be answered, and which state it leaves
abbrev pub StepCase : State → Name → Request → Reply → State → Type 0
StepCase old t request reply new = MatchBool (not (is_active old.owners t)) (Refuses old NotRun reply new) (Acts old t request reply new)
