-- Why a request is refused: its refusal, and what that is about in the state before the request. No order of causes is here.
use Rattle.std.specs.Prelude.{◌≡◌, ◌≢◌, ◌⊎◌, ℕ, ◌+◌, ◌*◌, ◌/◌, ◌%◌, ◌<◌, ◌≤◌, true, false, not, List, [], ◌∷◌, length, map, Option, Some, None, is_some}
use Rattle.std.specs.List.{AllByRecursion}
use Rattle.std.specs.FinMap.{get}
use Rattle.mvs_model.specs.declared.name.Name.{Name}
use Rattle.mvs_model.specs.declared.request.Request.{Request}
use Rattle.mvs_model.specs.declared.request.Request.TheVariants.{Obtain, ObtainList, Release, ReleaseList, ReleaseWhole, Build, Get, Free, Attach, Abend, Show, Put, Move}
use Rattle.mvs_model.specs.declared.reason.Holder.{Holder}
use Rattle.mvs_model.specs.declared.reason.Holder.TheVariants.{Nobody, Outside, Subpool, Unowned, Part}
use Rattle.mvs_model.specs.declared.reason.CellPosition.{CellPosition}
use Rattle.mvs_model.specs.declared.reason.CellPosition.TheVariants.{Untaken, Inside, Elsewhere}
use Rattle.mvs_model.specs.declared.reason.FreeSpace.{FreeSpace}
use Rattle.mvs_model.specs.declared.reason.Shortfall.{Shortfall}
use Rattle.mvs_model.specs.declared.reason.Reason.{Reason}
use Rattle.mvs_model.specs.declared.reason.Reason.TheVariants.{NotActive, InvalidNumber, Shortage, NoMember, NoPart, OffDoubleword, NoSubpool, NotHeld, Overlap, WholeOfZero, PoolInUse, TooManyPools, NoPool, NoFreeCell, NoTakenCell, TaskInUse, TooManyTasks, NotOwned, ActiveSubtask, Asked, NoAccess}
use Rattle.mvs_model.specs.declared.refusal.Refusal.{Refusal}
use Rattle.mvs_model.specs.declared.refusal.Refusal.TheVariants as refusal
use Rattle.mvs_model.specs.Place.{PlaceValue, place_at}
use Rattle.mvs_model.specs.Gifts.{gives}
use Rattle.mvs_model.specs.declared.want.Side.TheVariants.{Below}
use Rattle.mvs_model.specs.Want.{WantValue, want_of, fixed_want, side_of}
use Rattle.mvs_model.specs.Storage.{Regions, Covers, InRegion, Places}
use Rattle.mvs_model.specs.Finite.{count_below}
use Rattle.mvs_model.specs.FreeRuns.{free_runs}
use Rattle.mvs_model.specs.Reports.{page_subpool}
use Rattle.mvs_model.specs.Owners.{Owners, entry, owns, IsMother, effective_task, subpool_meant, SubpoolOf}
use Rattle.mvs_model.specs.Pools.{Pool, in_parts, part_want, IsCell, IsFreeCell}
use Rattle.mvs_model.specs.State.{State, holder, plain, granted}
use Rattle.mvs_model.specs.Changes.{HeldPlain, Misses, Granted, ShortOf}
use Rattle.mvs_model.specs.Causes.{AfterGrants, IsPassed, IsRefused}
use Rattle.mvs_model.specs.Requests.{on_doubleword, whole, residence_of, side_for}
use Rattle.mvs_model.specs.Numbers.{first_page_below, first_page_above}

-- What holds a doubleword: nothing, since it is free or in no region; outside of the pools a subpool, which its owner has under a
-- number, or which nobody owns; or a part of a pool.
abbrev pub Holds : State → ℕ → Holder → Type 0
Holds st d Nobody = (get st.held d ≡ None) × InRegion st.regions (place_at (8 * d) 8)
Holds st d Outside = (get st.held d ≡ None) × (InRegion st.regions (place_at (8 * d) 8) → ⊥)
Holds st d (Subpool number owner) = (s : ℕ) × (get st.held d ≡ Some (plain s)) × (get st.owners.owner s ≡ Some owner) × (entry st.owners owner number ≡ Some s)
Holds st d Unowned = (s : ℕ) × (get st.held d ≡ Some (plain s)) × (get st.owners.owner s ≡ None)
Holds st d (Part name) = (pool : Pool) × (get st.pools name ≡ Some pool) × (in_parts pool d ≡ true)

-- ---- releases

-- The address is that of the first place that does not begin on a doubleword.
abbrev pub IsFirstOff : List PlaceValue → ℕ → Type 0
IsFirstOff [] a = ⊥
IsFirstOff (p ∷ ps) a = ((on_doubleword p ≡ false) × (a ≡ p.addr)) ⊎ ((on_doubleword p ≡ true) × IsFirstOff ps a)

-- The doubleword is the first one of the place that s does not hold outside of the pools.
pub record IsUnheldIn (st : State) (s : ℕ) (p : PlaceValue) (d : ℕ) : Type 0 where
  pub inside : Covers p d
  pub unheld : get st.held d ≢ Some (plain s)
  pub before : (e : ℕ) → Covers p e → e < d → get st.held e ≡ Some (plain s)

-- The doubleword is the first one of the first place that s does not hold outside the pools.
abbrev pub IsUnheld : State → ℕ → List PlaceValue → ℕ → Type 0
IsUnheld st s [] d = ⊥
IsUnheld st s (p ∷ ps) d = IsUnheldIn st s p d ⊎ (HeldPlain st s p × IsUnheld st s ps d)

-- The doubleword is the first one that two places have in common.
pub record IsCommon (p q : PlaceValue) (d : ℕ) : Type 0 where
  pub in_one : Covers p d
  pub in_other : Covers q d
  pub before : (e : ℕ) → Covers p e → Covers q e → d ≤ e

-- The first of the other places with which the place has a doubleword in common begins at the address, and the doubleword is
-- the first of these.
abbrev pub Meets : PlaceValue → List PlaceValue → ℕ → ℕ → Type 0
Meets p [] a d = ⊥
Meets p (q ∷ qs) a d = ((a ≡ q.addr) × IsCommon p q d) ⊎ (Misses p q × Meets p qs a d)

-- The first place that has a doubleword in common with a later one begins at the address, and so does the later one; this is the
-- first such doubleword.
abbrev pub IsOverlap : List PlaceValue → ℕ → ℕ → ℕ → Type 0
IsOverlap [] one other d = ⊥
IsOverlap (p ∷ ps) one other d = ((one ≡ p.addr) × Meets p ps other d) ⊎ (AllByRecursion (Misses p) ps × IsOverlap ps one other d)

-- ---- bytes

-- The byte is the first one of the place that may not be read and written.
pub record IsDeniedIn (st : State) (p : PlaceValue) (a : ℕ) : Type 0 where
  pub low : p.addr ≤ a
  pub inside : a < p.addr + p.len
  pub denied : granted st a ≡ false
  pub before : (b : ℕ) → p.addr ≤ b → b < a → granted st b ≡ true

-- ---- room

-- The length is the greatest multiple of 8 that fits for s with the requested boundaries and side, or 0 if none fits.
pub record IsLongest (r : Regions) (holder : ℕ → Option ℕ) (s : ℕ) (want : WantValue) (n : ℕ) : Type 0 where
  pub whole : n % 8 ≡ 0
  pub placed : (n ≡ 0) ⊎ ((a : ℕ) × Places r holder s want n a)
  pub greatest : (m a : ℕ) → m % 8 ≡ 0 → n < m → Places r holder s want m a → ⊥

-- how many pages of a region, from its first page on, hold nothing
abbrev pub free_pages : State → ℕ → ℕ → ℕ
free_pages st first count = count_below count (λ p. not (is_some (page_subpool st (first + p))))

-- The storage that s can obtain for a request.
pub record IsRoom (st : State) (s : ℕ) (want : WantValue) (room : FreeSpace) : Type 0 where
  pub longest : IsLongest st.regions (holder st) s want room.longest
  pub runs : room.runs ≡ free_runs st.regions (holder st) s want.side
  pub below : room.below ≡ free_pages st first_page_below st.regions.below
  pub above : room.above ≡ free_pages st first_page_above st.regions.above

-- ---- cells

-- Where the address is, if no taken cell of the pool begins there: a free one begins there, or it is inside a cell, or in none.
abbrev pub IsSpot : Pool → ℕ → CellPosition → Type 0
IsSpot pool c Untaken = IsFreeCell pool c
IsSpot pool c (Inside first) = IsCell pool first × (first < c) × (c < first + pool.cell_size)
IsSpot pool c Elsewhere = (first : ℕ) → IsCell pool first → first ≤ c → c < first + pool.cell_size → ⊥

-- ---- what a request names

-- the number of a subpool
abbrev pub number_of : Request → ℕ
number_of (Obtain form number ask) = number
number_of (ObtainList form number lengths start) = number
number_of (Release form number p) = number
number_of (ReleaseList form number ps) = number
number_of (ReleaseWhole form number) = number
number_of (Build name number size primary secondary loc) = number
number_of _ = 0

-- the places that are to be released
abbrev pub released : Request → List PlaceValue
released (Release form number p) = p ∷ []
released (ReleaseList form number ps) = ps
released _ = []

-- the places whose bytes are to be read or written, in the order in which they are looked at
abbrev pub accessed : Request → List PlaceValue
accessed (Show a n) = place_at a n ∷ []
accessed (Put a bytes) = place_at a (length bytes) ∷ []
accessed (Move to from n) = place_at to n ∷ place_at from n ∷ []
accessed _ = []

-- the user code of a task that asks for an abend
abbrev pub requested_code : Request → ℕ
requested_code (Abend n) = n
requested_code _ = 0

-- ---- what a refusal is about

-- The storage that the subpool can obtain which a task has under the number, or would have.
abbrev pub RoomUnder : State → Name → ℕ → WantValue → FreeSpace → Type 0
RoomUnder st t number want room = (s : ℕ) × SubpoolOf st.owners t number s × IsRoom st s want room

-- the room for an area
abbrev pub AreaRoom : State → Name → Request → FreeSpace → Type 0
AreaRoom st t (Obtain form number ask) room = RoomUnder st (effective_task st.owners t number) number (want_of ask (side_for st t form ask.loc)) room
AreaRoom st t _ room = ⊥

-- There is no place for something that is wanted under a number, and this is what it lacks.
abbrev pub Lacks : Name → ℕ → Shortfall → State → WantValue → Type 0
Lacks t number short st want = ShortOf st t number want × (short.bytes ≡ want.least) × RoomUnder st t number want short.room

-- After grants for the members of a list before the one of this number, from 1 on, that one has no place, and lacks this.
abbrev pub MemberLacks : State → Name → Request → ℕ → Shortfall → Type 0
MemberLacks st t (ObtainList form number lengths start) k short =
    (j : ℕ) × (k ≡ j + 1) × AfterGrants (Lacks (effective_task st.owners t number) number short) st (effective_task st.owners t number) number (map (λ n. fixed_want n start Below) lengths) j
MemberLacks st t _ k short = ⊥

-- the room for a further part of a pool, which has so many cells of so many bytes
abbrev pub FurtherRoom : State → Option Pool → ℕ → ℕ → FreeSpace → Type 0
FurtherRoom st None cells size room = ⊥
FurtherRoom st (Some pool) cells size room = (cells ≡ pool.secondary) × (size ≡ pool.cell_size) × IsRoom st pool.subpool (part_want pool.cell_size pool.secondary pool.side) room

-- the room for a part of a pool, the first one or a further one
abbrev pub PartRoom : State → Name → Request → ℕ → ℕ → FreeSpace → Type 0
PartRoom st t (Build name number size primary secondary loc) cells bytes room =
    (cells ≡ primary) × (bytes ≡ size) × RoomUnder st (effective_task st.owners t number) number (part_want size primary (side_of loc (residence_of st.owners t))) room
PartRoom st t (Get name conditional) cells bytes room = FurtherRoom st (get st.pools name) cells bytes room
PartRoom st t _ cells bytes room = ⊥

-- the first doubleword of the places that the subpool does not hold outside of the pools
abbrev pub FirstUnheld : State → Option ℕ → List PlaceValue → ℕ → Type 0
FirstUnheld st None ps d = ⊥
FirstUnheld st (Some s) ps d = IsUnheld st s ps d

-- the owner of a subpool, if it has one
abbrev pub owner_of : Owners → Option ℕ → Option Name
owner_of o None = None
owner_of o (Some s) = get o.owner s

-- where the address is at which no taken cell of the pool begins
abbrev pub SpotIn : Option Pool → ℕ → CellPosition → Type 0
SpotIn None c spot = ⊥
SpotIn (Some pool) c spot = IsSpot pool c spot

-- where the cell is that a request gives back
abbrev pub SpotOf : State → Request → CellPosition → Type 0
SpotOf st (Free name c) spot = SpotIn (get st.pools name) c spot
SpotOf st _ spot = ⊥

-- A number is given under which the attaching task has a subpool of this owner, which is another task.
abbrev pub GivesOf : Owners → Name → Request → ℕ → Name → Type 0
GivesOf o t (Attach name gifts residence) number owner =
    (s : ℕ) × (gives gifts number ≡ true) × (entry o t number ≡ Some s) × (owns o t s ≡ false) × (get o.owner s ≡ Some owner)
GivesOf o t _ number owner = ⊥

-- the first byte of the places that may not be read and written
abbrev pub FirstDenied : State → List PlaceValue → ℕ → Type 0
FirstDenied st [] a = ⊥
FirstDenied st (p ∷ ps) a = IsDeniedIn st p a ⊎ (Granted st p × FirstDenied st ps a)

-- ---- reasons

-- the refusal that a reason is of
abbrev pub refusal_of : Request → Reason → Refusal
refusal_of request NotActive = refusal.NotActive
refusal_of request InvalidNumber = refusal.InvalidNumber
refusal_of request (Shortage room) = refusal.Shortage
refusal_of request (NoMember k short) = refusal.Member k
refusal_of request (NoPart cells size room) = refusal.NoPart
refusal_of request (OffDoubleword a) = refusal.OffDoubleword
refusal_of request (NoSubpool task) = refusal.NoSubpool
refusal_of request (NotHeld a holder owner) = refusal.NotHeld
refusal_of request (Overlap one other a) = refusal.Overlap
refusal_of request WholeOfZero = refusal.WholeOfZero
refusal_of request PoolInUse = refusal.PoolInUse
refusal_of request TooManyPools = refusal.TooManyPools
refusal_of request NoPool = refusal.NoPool
refusal_of request NoFreeCell = refusal.NoFreeCell
refusal_of request (NoTakenCell spot) = refusal.NoTakenCell
refusal_of request TaskInUse = refusal.TaskInUse
refusal_of request TooManyTasks = refusal.TooManyTasks
refusal_of request (NotOwned number owner) = refusal.NotOwned
refusal_of request (ActiveSubtask task) = refusal.ActiveSubtask
refusal_of request Asked = refusal.Asked (requested_code request)
refusal_of request (NoAccess a holder) = refusal.NoAccess

-- What a reason says of the state is so.
abbrev pub About : State → Name → Request → Reason → Type 0
About st t request NotActive = Unit {0}
About st t request InvalidNumber = Unit {0}
About st t request (Shortage room) = AreaRoom st t request room
About st t request (NoMember k short) = MemberLacks st t request k short
About st t request (NoPart cells size room) = PartRoom st t request cells size room
About st t request (OffDoubleword a) = IsFirstOff (released request) a
About st t request (NoSubpool task) = task ≡ effective_task st.owners t (number_of request)
About st t request (NotHeld a holder owner) =
    ((d : ℕ) × (a ≡ 8 * d) × FirstUnheld st (subpool_meant st.owners t (number_of request)) (map whole (released request)) d × Holds st d holder)
    × (owner ≡ owner_of st.owners (subpool_meant st.owners t (number_of request)))
About st t request (Overlap one other a) = (d : ℕ) × (a ≡ 8 * d) × IsOverlap (map whole (released request)) one other d
About st t request WholeOfZero = Unit {0}
About st t request PoolInUse = Unit {0}
About st t request TooManyPools = Unit {0}
About st t request NoPool = Unit {0}
About st t request NoFreeCell = Unit {0}
About st t request (NoTakenCell spot) = SpotOf st request spot
About st t request TaskInUse = Unit {0}
About st t request TooManyTasks = Unit {0}
About st t request (NotOwned number owner) = GivesOf st.owners t request number owner
About st t request (ActiveSubtask task) = IsMother st.owners t task
About st t request Asked = Unit {0}
About st t request (NoAccess a holder) = FirstDenied st (accessed request) a × Holds st (a / 8) holder

-- What a reason says of its refusal and of the state is so.
abbrev pub Explains : State → Name → Request → Refusal → Reason → Type 0
Explains st t request refusal reason = (refusal_of request reason ≡ refusal) × About st t request reason

-- Why a request is refused, if it is.
abbrev pub IsReason : State → Name → Request → Option Reason → Type 0
IsReason st t request None = IsPassed st t request
IsReason st t request (Some reason) = IsRefused st t request (refusal_of request reason) × About st t request reason
