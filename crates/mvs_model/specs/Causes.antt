-- What a request may be refused for, in the order in which it is looked for.
use Rattle.std.specs.Prelude.{◌≡◌, ◌⊎◌, ℕ, zero, suc, ◌+◌, Bool, true, not, ◌&&◌, ◌==◌, nat_le, List, [], ◌∷◌, length, map, Option, Some, None, is_some, IsTrue, IsFalse}
use Rattle.std.specs.List.{AllByRecursion, list_all}
use Rattle.std.specs.FinMap.{FinMap, get, len, contains_key}
use Rattle.std.specs.FinSet as set
use Rattle.mvs_model.specs.declared.name.Name.{Name}
use Rattle.mvs_model.specs.declared.want.Side.TheVariants.{Below}
use Rattle.mvs_model.specs.declared.request.Request.{Request}
use Rattle.mvs_model.specs.declared.request.Request.TheVariants.{Obtain, ObtainList, Release, ReleaseList, ReleaseWhole, Build, Get, Free, Delete, Attach, Return, Abend, Show, Put, Move}
use Rattle.mvs_model.specs.declared.refusal.Refusal.{Refusal}
use Rattle.mvs_model.specs.declared.refusal.Refusal.TheVariants.{NotActive, InvalidNumber, Shortage, Member, NoPart, OffDoubleword, NoSubpool, NotHeld, Overlap, WholeOfZero, PoolInUse, TooManyPools, NoPool, NoFreeCell, NoTakenCell, TaskInUse, TooManyTasks, NotOwned, ActiveSubtask, Asked, NoAccess}
use Rattle.mvs_model.specs.Name.{name_cmp}
use Rattle.mvs_model.specs.Place.{PlaceValue, place_at}
use Rattle.mvs_model.specs.Want.{WantValue, want_of, fixed_want, side_of}
use Rattle.mvs_model.specs.Storage.{NoPlace}
use Rattle.mvs_model.specs.Gifts.{GiftsValue}
use Rattle.mvs_model.specs.Owners.{Owners, is_active, effective_task, subpool_meant, has_subtask, gives_shared}
use Rattle.mvs_model.specs.Pools.{Pool, part_want, IsFreeCell}
use Rattle.mvs_model.specs.State.{State, holder}
use Rattle.mvs_model.specs.Changes.{GrantTo, ShortOf, HeldPlain, Disjoint}
use Rattle.mvs_model.specs.Requests.{is_invalid, on_doubleword, whole, residence_of, side_for, all_granted}
use Rattle.mvs_model.specs.Numbers.{most_tasks, most_pools}

-- ---- causes and their order

-- A cause: for what it refuses a request, and when it lets the request pass.
pub record Cause : Type 1 where
  pub refuses : Refusal → Type 0
  pub passes : Type 0

infix 90 ◌when◌
infix 90 ◌whenever◌
infix 90 ◌unless◌
infix 90 ◌may◌
-- a request is refused where a test says so, and else passes
abbrev pub ◌when◌ : Refusal → Bool → Cause
refusal when test = record { refuses = λ r. IsTrue test × (r ≡ refusal); passes = IsFalse test }

-- a request is refused where something holds, and else passes
abbrev pub ◌whenever◌ : Refusal → Type 0 → Cause
refusal whenever P = record { refuses = λ r. P × (r ≡ refusal); passes = P → ⊥ }

-- a request passes where something holds, and else is refused
abbrev pub ◌unless◌ : Refusal → Type 0 → Cause
refusal unless P = record { refuses = λ r. (P → ⊥) × (r ≡ refusal); passes = P }

-- a request may be refused for each number for which something holds, and may also pass
abbrev pub ◌may◌ : (ℕ → Refusal) → (ℕ → Type 0) → Cause
refusal may P = record { refuses = λ r. (k : ℕ) × P k × (r ≡ refusal k); passes = Unit {0} }

-- Some cause refuses the request so, and it passes those before.
abbrev pub Refused : List Cause → Refusal → Type 0
Refused [] r = ⊥
Refused (cause ∷ causes) r = cause.refuses r ⊎ (cause.passes × Refused causes r)

-- The request passes each cause.
abbrev pub Passed : List Cause → Type 0
Passed [] = Unit {0}
Passed (cause ∷ causes) = cause.passes × Passed causes

-- ---- what the causes speak of

-- After grants for the first members of a list, something holds for the next one.
abbrev pub AfterGrants : (State → WantValue → Type 0) → State → Name → ℕ → List WantValue → ℕ → Type 0
AfterGrants P st t number [] k = ⊥
AfterGrants P st t number (want ∷ wants) zero = P st want
AfterGrants P st t number (want ∷ wants) (suc k) = (p : PlaceValue) × (now : State) × GrantTo st t number want p now × AfterGrants P now t number wants k

-- There is no place for it then.
abbrev pub ShortAfter : State → Name → ℕ → List WantValue → ℕ → Type 0
ShortAfter st t number wants k = AfterGrants (λ now want. ShortOf now t number want) st t number wants k

-- There is a subpool, and it holds each of the places outside of the pools.
abbrev pub HoldsEach : State → Option ℕ → List PlaceValue → Type 0
HoldsEach st None ps = ⊥
HoldsEach st (Some s) ps = AllByRecursion (HeldPlain st s) ps

-- No cell of the pool is free.
abbrev pub NoneFree : Pool → Type 0
NoneFree pool = (c : ℕ) → IsFreeCell pool c → ⊥

-- ---- lists that depend only on numbers, tests and owners

-- Places in a subpool: whether the task has one, whether it holds them, and whether no two overlap. (Assembler Services Reference,
-- FREEMAIN; the order is this project's choice)
abbrev pub held_causes : Bool → Type 0 → Type 0 → List Cause
held_causes has_subpool held apart =
    NoSubpool when not has_subpool
    ∷ NotHeld unless held
    ∷ Overlap unless apart
    ∷ []

-- A release of places: its number; whether each begins on a doubleword; whether the task has a subpool, this holds them, and no two
-- overlap. (Assembler Services Reference, FREEMAIN; the order is this project's choice)
abbrev pub release_causes : ℕ → Bool → Bool → Type 0 → Type 0 → List Cause
release_causes number on_doublewords has_subpool held apart =
    InvalidNumber when is_invalid number
    ∷ OffDoubleword when not on_doublewords
    ∷ held_causes has_subpool held apart

-- A release of a whole subpool: its number, and that it is not subpool 0. (Assembler Services Reference, FREEMAIN)
abbrev pub whole_causes : ℕ → List Cause
whole_causes number =
    InvalidNumber when is_invalid number
    ∷ WholeOfZero when (number == 0)
    ∷ []

-- A subtask: its name, how many tasks are active, and what its mother gives. (this project's choice)
abbrev pub attach_causes : Owners → Name → Name → GiftsValue → List Cause
attach_causes o mother name gifts =
    TaskInUse when is_active o name
    ∷ TooManyTasks when nat_le most_tasks (len o.tasks)
    ∷ NotOwned when gives_shared o mother gifts
    ∷ []

-- A new pool: its name, how many pools there are, and whether its first part has no place. (this project's choice)
abbrev pub pool_causes : FinMap name_cmp Pool → Name → Type 0 → List Cause
pool_causes pools name short =
    PoolInUse when contains_key pools name
    ∷ TooManyPools when nat_le most_pools (len pools)
    ∷ NoPart whenever short
    ∷ []

-- An obtain of storage that is always there: its number.
abbrev pub number_causes : ℕ → List Cause
number_causes number = InvalidNumber when is_invalid number ∷ []

-- An abend that the task asks for.
abbrev pub abend_causes : ℕ → List Cause
abend_causes n = Asked n when true ∷ []

-- A return: whether a subtask is active. (System Codes, A03)
abbrev pub return_causes : Owners → Name → List Cause
return_causes o t = ActiveSubtask when has_subtask o t ∷ []

-- An access to bytes: whether all of them may be read and written. (System Codes, 0C4)
abbrev pub access_causes : Bool → List Cause
access_causes allowed = NoAccess when not allowed ∷ []

-- ---- each request

-- Places are released from what the task means by a number.
abbrev pub places_causes : State → Name → ℕ → List PlaceValue → List Cause
places_causes st t number ps =
    release_causes number (list_all on_doubleword ps) (is_some (subpool_meant st.owners t number)) (HoldsEach st (subpool_meant st.owners t number) (map whole ps)) (Disjoint (map whole ps))

-- A pool: its number, and what its name, its count and its first part may be refused for. (Assembler Services Reference, CPOOL)
abbrev pub build_causes : State → Name → Name → ℕ → WantValue → List Cause
build_causes st t name number want =
    InvalidNumber when is_invalid number
    ∷ pool_causes st.pools name (ShortOf st (effective_task st.owners t number) number want)

-- A cell of a pool that is there: where none is free, a conditional request is refused, and another one for want of a further part.
-- (Assembler Services Reference, CPOOL)
abbrev pub cell_causes : State → Bool → Option Pool → List Cause
cell_causes st conditional None = []
cell_causes st conditional (Some pool) =
    NoFreeCell whenever (IsTrue conditional × NoneFree pool)
    ∷ NoPart whenever (NoneFree pool × NoPlace st.regions (holder st) pool.subpool (part_want pool.cell_size pool.secondary pool.side))
    ∷ []

-- A cell that is given back to a pool that is there: whether it is taken. (this project's choice)
abbrev pub free_causes : ℕ → Option Pool → List Cause
free_causes c None = []
free_causes c (Some pool) = NoTakenCell when not (set.contains pool.taken c) ∷ []

-- what an active task's request may be refused for
abbrev pub causes_of : State → Name → Request → List Cause
causes_of st t (Obtain form number ask) =
    InvalidNumber when is_invalid number
    ∷ Shortage whenever ShortOf st (effective_task st.owners t number) number (want_of ask (side_for st t form ask.loc))
    ∷ []
causes_of st t (ObtainList form number lengths start) =
    InvalidNumber when is_invalid number
    ∷ (λ k. Member (k + 1)) may ShortAfter st (effective_task st.owners t number) number (map (λ n. fixed_want n start Below) lengths)
    ∷ []
causes_of st t (Release form number p) = places_causes st t number (p ∷ [])
causes_of st t (ReleaseList form number ps) = places_causes st t number ps
causes_of st t (ReleaseWhole form number) = whole_causes number
causes_of st t (Build name number size primary secondary loc) = build_causes st t name number (part_want size primary (side_of loc (residence_of st.owners t)))
causes_of st t (Get name conditional) =
    NoPool when not (is_some (get st.pools name))
    ∷ cell_causes st conditional (get st.pools name)
causes_of st t (Free name c) =
    NoPool when not (is_some (get st.pools name))
    ∷ free_causes c (get st.pools name)
causes_of st t (Delete name) =
    NoPool when not (is_some (get st.pools name))
    ∷ []
causes_of st t (Attach name gifts residence) = attach_causes st.owners t name gifts
causes_of st t Return = return_causes st.owners t
causes_of st t (Abend n) = abend_causes n
causes_of st t (Show a n) = access_causes (all_granted st (place_at a n))
causes_of st t (Put a bytes) = access_causes (all_granted st (place_at a (length bytes)))
causes_of st t (Move to from n) = access_causes (all_granted st (place_at to n) && all_granted st (place_at from n))

-- What a request may be refused for: first of all that its task is not active.
abbrev pub causes : State → Name → Request → List Cause
causes st t request = NotActive when not (is_active st.owners t) ∷ causes_of st t request

-- The request may be refused so.
abbrev pub IsRefused : State → Name → Request → Refusal → Type 0
IsRefused st t request refusal = Refused (causes st t request) refusal

-- The request passes all causes.
abbrev pub IsPassed : State → Name → Request → Type 0
IsPassed st t request = Passed (causes st t request)
