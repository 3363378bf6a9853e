-- What a request for an area or a cell pool that lacks storage would obtain with LOC=ANY.
use Rattle.std.specs.Prelude.{◌≡◌, ◌≤◌, ℕ, nat_le, Option, Some, None, if◌then◌else◌}
use Rattle.mvs_model.specs.declared.name.Name.{Name}
use Rattle.mvs_model.specs.declared.request.Request.{Request}
use Rattle.mvs_model.specs.declared.request.Request.TheVariants.{Obtain, ObtainList, Release, ReleaseList, ReleaseWhole, Build, Get, Free, Delete, Attach, Return, Abend, Show, Put, Move}
use Rattle.mvs_model.specs.declared.reason.FreeSpace.{FreeSpace}
use Rattle.mvs_model.specs.declared.reason.Reason.{Reason}
use Rattle.mvs_model.specs.declared.reason.Reason.TheVariants.{NotActive, InvalidNumber, Shortage, NoMember, NoPart, OffDoubleword, NoSubpool, NotHeld, Overlap, WholeOfZero, PoolInUse, TooManyPools, NoPool, NoFreeCell, NoTakenCell, TaskInUse, TooManyTasks, NotOwned, ActiveSubtask, Asked, NoAccess}
use Rattle.mvs_model.specs.declared.want.Loc.{Loc}
use Rattle.mvs_model.specs.declared.want.Loc.TheVariants as loc
use Rattle.mvs_model.specs.declared.code.Form.{Form}
use Rattle.mvs_model.specs.declared.refusal.Refusal.{Refusal}
use Rattle.mvs_model.specs.declared.refusal.Refusal.TheVariants as refusal
use Rattle.mvs_model.specs.Causes.{IsRefused}
use Rattle.mvs_model.specs.Place.{round8}
use Rattle.mvs_model.specs.Pools.{part_length}
use Rattle.mvs_model.specs.Reasons.{AreaRoom, PartRoom}
use Rattle.mvs_model.specs.State.{State}
use Rattle.mvs_model.specs.Want.{AskValue, WantValue}

-- what is requested, with LOC=ANY
abbrev pub with_any : AskValue → AskValue
with_any ask = record { least = ask.least; most = ask.most; start = ask.start; within = ask.within; loc = loc.Any }

-- a request for more than any region has, with LOC=ANY and with the boundaries of another one
abbrev pub too_long : WantValue → AskValue
too_long w = record { least = 2147483647; most = 2147483647; start = w.start; within = w.within; loc = loc.Any }

-- a length, if it is not less than another one
abbrev pub fitting : ℕ → ℕ → Option ℕ
fitting least n = if nat_le least n then Some n else None

-- The greatest length that fits with LOC=ANY for an area, or for the first part of a cell pool, if the requested length fits so.
abbrev pub FitsAnywhere : State → Name → Request → Option ℕ → Type 0
FitsAnywhere st t (Obtain form number ask) found = (room : FreeSpace) × AreaRoom st t (Obtain form number (with_any ask)) room × (found ≡ fitting (round8 ask.least) room.longest)
FitsAnywhere st t (ObtainList form number lengths start) found = found ≡ None
FitsAnywhere st t (Release form number p) found = found ≡ None
FitsAnywhere st t (ReleaseList form number ps) found = found ≡ None
FitsAnywhere st t (ReleaseWhole form number) found = found ≡ None
FitsAnywhere st t (Build pool number size primary secondary l) found =
    (room : FreeSpace) × PartRoom st t (Build pool number size primary secondary loc.Any) primary size room × (found ≡ fitting (part_length size primary) room.longest)
FitsAnywhere st t (Get pool conditional) found = found ≡ None
FitsAnywhere st t (Free pool cell) found = found ≡ None
FitsAnywhere st t (Delete pool) found = found ≡ None
FitsAnywhere st t (Attach name gifts residence) found = found ≡ None
FitsAnywhere st t Return found = found ≡ None
FitsAnywhere st t (Abend code) found = found ≡ None
FitsAnywhere st t (Show a n) found = found ≡ None
FitsAnywhere st t (Put a bytes) found = found ≡ None
FitsAnywhere st t (Move to from n) found = found ≡ None

-- This length, if a request is refused for this reason: only an area and the first part of a pool can lack storage that is on the other
-- side.
abbrev pub IsAnywhere : State → Name → Request → Reason → Option ℕ → Type 0
IsAnywhere st t request (Shortage room) found = FitsAnywhere st t request found
IsAnywhere st t request (NoMember k short) found = found ≡ None
IsAnywhere st t request (NoPart cells size room) found = FitsAnywhere st t request found
IsAnywhere st t request NotActive found = found ≡ None
IsAnywhere st t request InvalidNumber found = found ≡ None
IsAnywhere st t request (OffDoubleword a) found = found ≡ None
IsAnywhere st t request (NoSubpool task) found = found ≡ None
IsAnywhere st t request (NotHeld a holder owner) found = found ≡ None
IsAnywhere st t request (Overlap one other a) found = found ≡ None
IsAnywhere st t request WholeOfZero found = found ≡ None
IsAnywhere st t request PoolInUse found = found ≡ None
IsAnywhere st t request TooManyPools found = found ≡ None
IsAnywhere st t request NoPool found = found ≡ None
IsAnywhere st t request NoFreeCell found = found ≡ None
IsAnywhere st t request (NoTakenCell spot) found = found ≡ None
IsAnywhere st t request TaskInUse found = found ≡ None
IsAnywhere st t request TooManyTasks found = found ≡ None
IsAnywhere st t request (NotOwned number owner) found = found ≡ None
IsAnywhere st t request (ActiveSubtask task) found = found ≡ None
IsAnywhere st t request Asked found = found ≡ None
IsAnywhere st t request (NoAccess a holder) found = found ≡ None

-- ---- laws

-- A request for an area that lacks storage is not refused with LOC=ANY if a length is found for it, and is else refused for the same reason.
pub record AnywhereServes (st : State) (t : Name) (form : Form) (number : ℕ) (ask : AskValue) : Type 0 where
  pub serves : (n : ℕ) → FitsAnywhere st t (Obtain form number ask) (Some n) → (x : Refusal) → IsRefused st t (Obtain form number (with_any ask)) x → ⊥
  pub lacks : FitsAnywhere st t (Obtain form number ask) None → IsRefused st t (Obtain form number (with_any ask)) refusal.Shortage

abbrev pub LocAnyServes : Type 0
LocAnyServes = (st : State) (t : Name) (form : Form) (number : ℕ) (ask : AskValue) → 1 ≤ ask.least → IsRefused st t (Obtain form number ask) refusal.Shortage → AnywhereServes st t form number ask

-- A pool whose first part lacks storage is not refused with LOC=ANY if a length is found for it, and is else refused for the same reason.
pub record PoolAnywhereServes (st : State) (t pool : Name) (number size primary secondary : ℕ) (l : Loc) : Type 0 where
  pub serves : (n : ℕ) → FitsAnywhere st t (Build pool number size primary secondary l) (Some n) → (x : Refusal) → IsRefused st t (Build pool number size primary secondary loc.Any) x → ⊥
  pub lacks : FitsAnywhere st t (Build pool number size primary secondary l) None → IsRefused st t (Build pool number size primary secondary loc.Any) refusal.NoPart

abbrev pub LocAnyServesPools : Type 0
LocAnyServesPools =
    (st : State) (t pool : Name) (number size primary secondary : ℕ) (l : Loc) → IsRefused st t (Build pool number size primary secondary l) refusal.NoPart → PoolAnywhereServes st t pool number size primary secondary l
