-- What does not touch a byte of storage, and that the byte then does not change: requests, lines and runs that neither write nor
-- release it.
use Rattle.std.specs.Prelude.{◌≡◌, ◌≢◌, ℕ, ◌+◌, ◌/◌, true, false, List, [], ◌∷◌, map, length, Some}
use Rattle.std.specs.FinMap.{get}
use Rattle.mvs_model.specs.declared.code.Form.{Form}
use Rattle.mvs_model.specs.declared.name.Name.{Name}
use Rattle.mvs_model.specs.declared.line.Line.TheVariants as line
use Rattle.mvs_model.specs.declared.line.Statement.{Statement}
use Rattle.mvs_model.specs.declared.line.Statement.TheVariants as says
use Rattle.mvs_model.specs.declared.request.Request.{Request}
use Rattle.mvs_model.specs.declared.request.Request.TheVariants.{Obtain, Release, ReleaseList, ReleaseWhole, Free, Delete, Put, Move}
use Rattle.mvs_model.specs.declared.request.Reply.TheVariants.{Obtained}
use Rattle.mvs_model.specs.Place.{PlaceValue, place_at}
use Rattle.mvs_model.specs.Want.{AskValue}
use Rattle.mvs_model.specs.Storage.{has_address}
use Rattle.mvs_model.specs.Owners.{is_active, subpool_meant}
use Rattle.mvs_model.specs.Pools.{Pool, cell_at, in_taken}
use Rattle.mvs_model.specs.State.{State, holder}
use Rattle.mvs_model.specs.Changes.{any_has}
use Rattle.mvs_model.specs.Steps.{Step}
use Rattle.mvs_model.specs.Requests.{whole}
use Rattle.mvs_model.specs.Job.{JobValue}
use Rattle.mvs_model.specs.Reading.{LineOf}
use Rattle.mvs_model.specs.Resolving.{resolved}
use Rattle.mvs_model.specs.Answers.{Event}
use Rattle.mvs_model.specs.Walk.{ServesLine}
use Rattle.mvs_model.specs.Runs.{machine, IsRunning}

-- The request neither writes the byte nor releases it: PUT and MOVE write a place, FREEMAIN releases places or what a subpool holds, CPOOL
-- FREE a cell, and CPOOL DELETE the cells of a pool.
abbrev pub LeavesUntouched : State → Name → ℕ → Request → Type 0
LeavesUntouched st t a (Put to bytes) = has_address (place_at to (length bytes)) a ≡ false
LeavesUntouched st t a (Move to from n) = has_address (place_at to n) a ≡ false
LeavesUntouched st t a (Release form number p) = has_address (whole p) a ≡ false
LeavesUntouched st t a (ReleaseList form number ps) = any_has (map whole ps) a ≡ false
LeavesUntouched st t a (ReleaseWhole form number) = subpool_meant st.owners t number ≢ holder st (a / 8)
LeavesUntouched st t a (Free name c) = (pool : Pool) → get st.pools name ≡ Some pool → has_address (cell_at pool c) a ≡ false
LeavesUntouched st t a (Delete name) = (pool : Pool) → get st.pools name ≡ Some pool → in_taken pool a ≡ false
LeavesUntouched st t a _ = Unit {0}

-- The task that owns what holds the byte does not end.
abbrev pub OwnerStays : State → ℕ → State → Type 0
OwnerStays old a new = (s : ℕ) (t : Name) → holder old (a / 8) ≡ Some s → get old.owners.owner s ≡ Some t → is_active new.owners t ≡ true

-- A statement in a step does not touch the byte: it is not REGION, and its request, if its task is active, spares the byte.
abbrev pub StatementSpares : ℕ → JobValue → Name → Statement → JobValue → Type 0
StatementSpares a old t (says.Region below above fill residence) new = ⊥
StatementSpares a old t (says.Request written) new = is_active old.state.owners t ≡ true → (request : Request) → resolved old.names written ≡ Some request → LeavesUntouched old.state t a request × OwnerStays old.state a new.state
StatementSpares a old t (says.Where name) new = Unit {0}
StatementSpares a old t says.ReportSubpools new = Unit {0}
StatementSpares a old t says.ReportMap new = Unit {0}

-- a line does not touch the byte
abbrev pub LineSpares : ℕ → JobValue → List ℕ → JobValue → Type 0
LineSpares a old bytes new = (t : Name) (s : Statement) → LineOf false bytes (line.Statement t s) → StatementSpares a old t s new

-- The lines from this number on may lead from one job to another in the same step, and none touches the byte.
abbrev pub RunsSparing : ℕ → ℕ → JobValue → List (List ℕ) → JobValue → Type 0
RunsSparing a number old [] new = new ≡ old
RunsSparing a number old (l ∷ lines) new =
    (mid : JobValue) × (events : List Event) × ServesLine machine number (Some old) l events (Some mid)
    × LineSpares a old l mid × RunsSparing a (number + 1) mid lines new

-- A byte that may be read is the same after any further lines of the step that neither write nor release it, nor end the task that owns
-- what holds it.
abbrev pub BytesStay : Type 0
BytesStay = (a b number : ℕ) (lines : List (List ℕ)) (old new : JobValue) → IsRunning old → get old.state.bytes a ≡ Some b → RunsSparing a number old lines new → get new.state.bytes a ≡ Some b

-- A granted obtain touches no byte that can be read.
abbrev pub GrantsSpare : Type 0
GrantsSpare =
    (job : JobValue) → IsRunning job → (a : ℕ) (t : Name) (form : Form) (number : ℕ) (ask : AskValue) (p : PlaceValue) (new : State)
    → Step job.state t (Obtain form number ask) (Obtained p) new → LeavesUntouched job.state t a (Obtain form number ask) × OwnerStays job.state a new
