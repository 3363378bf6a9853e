-- The areas and the cell pools of a step, by the entries of a trace: which were obtained, and what is left of them.
use Rattle.std.specs.Prelude.{◌≡◌, ℕ, ◌&&◌, ◌||◌, nat_lt, List, [], ◌∷◌, ◌++◌, length, take, Option, Some, None, unwrap_or, Bool, true, false, not, if◌then◌else◌}
use Rattle.std.specs.List.{list_any}
use Rattle.std.specs.Option.{option_and_then, option_map}
use Rattle.std.specs.FinMap.{get}
use Rattle.mvs_model.specs.declared.line.Line.{Line}
use Rattle.mvs_model.specs.declared.line.Line.TheVariants as line
use Rattle.mvs_model.specs.declared.line.Statement.TheVariants as says
use Rattle.mvs_model.specs.declared.line.SourceRequest.{SourceRequest}
use Rattle.mvs_model.specs.declared.line.SourceRequest.TheVariants.{Obtain, ObtainList, Release, ReleaseArea, ReleaseList, ReleaseWhole, Build, Get, Free, Delete, Attach, Return, Abend, Show, Put, Move}
use Rattle.mvs_model.specs.declared.name.Name.{Name}
use Rattle.mvs_model.specs.Answers.{Answer, Event, AnswerTo, StepEnded, Faulted, Region}
use Rattle.mvs_model.specs.Finite.{has}
use Rattle.mvs_model.specs.Job.{JobValue}
use Rattle.mvs_model.specs.Name.{same_name}
use Rattle.mvs_model.specs.State.{is_plain}
use Rattle.request_forms.specs.Facts.{listed}
use Rattle.request_forms.specs.SubpoolLabels.{resolved_owner}
use Rattle.mvs_job.specs.Granting.{reports_grant}
use Rattle.mvs_job.specs.Observing.{is_end}
use Rattle.mvs_job.specs.Trace.{Entry, Executed, Faulty, Closed, Exhausted, Kind}
use Rattle.area_history.specs.declared.grant.AreaGrant.{AreaGrant}
use Rattle.area_history.specs.declared.grant.Leak.{Leak}
use Rattle.area_history.specs.declared.grant.Selection.TheVariants.{All}
use Rattle.area_history.specs.declared.pools.PoolBuild.{PoolBuild}
use Rattle.area_history.specs.declared.pools.PoolLeft.{PoolLeft}
use Rattle.area_history.specs.Leaking.{leaks, selects}
use Rattle.area_history.specs.Pools.{pools_left, with_pool}
use Rattle.mvs_model.specs.Pools.{part_length}

-- What is left in a step: areas, and cell pools.
pub record Left : Type 0 where
  pub areas : List Leak
  pub pools : List PoolLeft

-- The ledger of a step: its job step task, the areas that were granted, the cell pools that were built, and what was left when the job
-- step task ended, if it has. Before the first step there is no task.
pub record Ledger : Type 0 where
  pub root : Option Name
  pub grants : List AreaGrant
  pub pools : List PoolBuild
  pub left : Option Left

-- before the first step
abbrev pub no_step : Ledger
no_step = record { root = None; grants = []; pools = []; left = None }

-- at the start of a step
abbrev pub new_step : Name → Ledger
new_step t = record { root = Some t; grants = []; pools = []; left = None }

-- ---- the areas that were granted

-- an area that a task's line was granted, by the step after it
abbrev pub area_grant : ℕ → Name → JobValue → ℕ → Name → Option AreaGrant
area_grant number t job n area =
    option_and_then (λ p. option_map (λ l. record { area = area; place = p; line = number; task = t; subpool = l.0; owner = l.1 }) (resolved_owner job.state.owners t n)) (get job.names area)

-- the areas of some names
abbrev pub area_grants : ℕ → Name → JobValue → ℕ → List Name → List AreaGrant
area_grants number t job n [] = []
area_grants number t job n (area ∷ areas) = listed (area_grant number t job n area) ++ area_grants number t job n areas

-- the areas that a task's request was granted
abbrev pub obtained_by : ℕ → Name → JobValue → SourceRequest → List AreaGrant
obtained_by number t job (Obtain form n ask variable area) = area_grants number t job n (area ∷ [])
obtained_by number t job (ObtainList form n lengths start areas) = area_grants number t job n areas
obtained_by number t job (Release form n location len) = []
obtained_by number t job (ReleaseArea form n area) = []
obtained_by number t job (ReleaseList form n locations lengths) = []
obtained_by number t job (ReleaseWhole form n) = []
obtained_by number t job (Build pool n size primary secondary loc) = []
obtained_by number t job (Get pool conditional cell) = []
obtained_by number t job (Free pool location) = []
obtained_by number t job (Delete pool) = []
obtained_by number t job (Attach name gifts residence) = []
obtained_by number t job Return = []
obtained_by number t job (Abend code) = []
obtained_by number t job (Show from n) = []
obtained_by number t job (Put to bytes) = []
obtained_by number t job (Move to from n) = []

-- the areas that a line with this meaning and these events was granted, by the step after it
abbrev pub granted_by : ℕ → Line → List Event → Option JobValue → List AreaGrant
granted_by number (line.Statement t (says.Request a)) events (Some job) = if reports_grant events then obtained_by number t job a else []
granted_by number (line.Statement t (says.Request a)) events None = []
granted_by number (line.Statement t (says.Region below above fill residence)) events new = []
granted_by number (line.Statement t (says.Where name)) events new = []
granted_by number (line.Statement t says.ReportSubpools) events new = []
granted_by number (line.Statement t says.ReportMap) events new = []
granted_by number line.Nothing events new = []

-- the areas that an entry of this kind was granted, before which this step ran
abbrev pub granted_in : Entry → Option JobValue → Kind → List AreaGrant
granted_in e (Some job) (Executed said) = granted_by e.number said e.events e.after
granted_in e step kind = []

-- the areas that an entry was granted
abbrev pub granted_at : Entry → List AreaGrant
granted_at e = granted_in e e.before e.kind

-- ---- the cell pools that were built

-- the pool that a task's request built, by the step after it
abbrev pub built_with : ℕ → Name → JobValue → SourceRequest → Option PoolBuild
built_with number t job (Build pool n size primary secondary loc) =
    option_map (λ l. record { pool = pool; first = part_length size primary; further = part_length size secondary; line = number; task = t; subpool = l.0; owner = l.1 }) (resolved_owner job.state.owners t n)
built_with number t job (Obtain form n ask variable area) = None
built_with number t job (ObtainList form n lengths start areas) = None
built_with number t job (Release form n location len) = None
built_with number t job (ReleaseArea form n area) = None
built_with number t job (ReleaseList form n locations lengths) = None
built_with number t job (ReleaseWhole form n) = None
built_with number t job (Get pool conditional cell) = None
built_with number t job (Free pool location) = None
built_with number t job (Delete pool) = None
built_with number t job (Attach name gifts residence) = None
built_with number t job Return = None
built_with number t job (Abend code) = None
built_with number t job (Show from n) = None
built_with number t job (Put to bytes) = None
built_with number t job (Move to from n) = None

-- how many parts the pool of a name has in a step: 0, if there is none
abbrev pub parts_in : JobValue → Name → ℕ
parts_in job name = unwrap_or (option_map (λ pool. length pool.parts) (get job.state.pools name)) 0

-- the pools after a line with this meaning and these events, by the step after it
abbrev pub pools_by : ℕ → Line → List Event → Option JobValue → List PoolBuild → List PoolBuild
pools_by number (line.Statement t (says.Request a)) events (Some job) pools =
    if reports_grant events then unwrap_or (option_map (with_pool (parts_in job) pools) (built_with number t job a)) pools else pools
pools_by number l events new pools = pools

-- the pools after an entry of this kind, before which this step ran
abbrev pub pools_in : Entry → Option JobValue → Kind → List PoolBuild → List PoolBuild
pools_in e (Some job) (Executed said) pools = pools_by e.number said e.events e.after pools
pools_in e step kind pools = pools

-- the pools after an entry
abbrev pub pools_at : Entry → List PoolBuild → List PoolBuild
pools_at e pools = pools_in e e.before e.kind pools

-- ---- what is left of them

-- the doublewords that are held in a step, outside of cell pools
abbrev pub plain_in : JobValue → ℕ → Bool
plain_in job d = is_plain (get job.state.held d)

-- what is left of areas and pools in a step
abbrev pub left_of : Option JobValue → List AreaGrant → List PoolBuild → Left
left_of None grants pools = record { areas = []; pools = [] }
left_of (Some job) grants pools = record { areas = leaks (selects All) (plain_in job) grants; pools = take 64 (pools_left (parts_in job) pools) }

-- what is left in a step: all that was left when its job step task ended, or if that runs, what is left now
abbrev pub left_in : Ledger → Option JobValue → Left
left_in l step = unwrap_or l.left (left_of step l.grants l.pools)

-- ---- a ledger after an entry

-- the job step task of the step that some events begin
abbrev pub begun : List Event → Option Name
begun [] = None
begun (AnswerTo number t (Region card) ∷ events) = Some t
begun (_ ∷ events) = begun events

-- whether an event is the end of a step
abbrev pub is_step_end : Event → Bool
is_step_end (StepEnded abended) = true
is_step_end _ = false

-- whether an entry is of a line at which memory was exhausted
abbrev is_exhausted : Kind → Bool
is_exhausted (Exhausted said) = true
is_exhausted (Executed said) = false
is_exhausted (Faulty fault) = false
is_exhausted Closed = false

-- whether a step ends with an entry, unless memory was exhausted at it
abbrev pub ends_step : Entry → Bool
ends_step e = not (is_exhausted e.kind) && list_any is_step_end e.events

-- whether a task ends with some events
abbrev pub ends_task : Option Name → List Event → Bool
ends_task t (AnswerTo number other answer ∷ []) = is_end answer && has (same_name other) t
ends_task t _ = false

-- the ledger in the step that runs after an entry
abbrev pub in_step : Ledger → Entry → Ledger
in_step l e = record {
  root = l.root;
  grants = l.grants ++ granted_at e;
  pools = pools_at e l.pools;
  left = if ends_task l.root e.events then Some (left_in l e.before) else l.left;
}

-- the ledger after an entry
abbrev pub ledger_after : Ledger → Entry → Ledger
ledger_after l e = unwrap_or (option_map new_step (begun e.events)) (in_step l e)

-- the ledger after some entries
abbrev pub ledger_from : Ledger → List Entry → Ledger
ledger_from l [] = l
ledger_from l (e ∷ entries) = ledger_from (ledger_after l e) entries

-- ---- leaks

-- nothing is left
abbrev pub nothing_left : Left
nothing_left = record { areas = []; pools = [] }

-- the leaks of the step that ends with an entry, if one does
abbrev pub leaks_with : Ledger → Entry → Left
leaks_with l e = if ends_step e then left_in l e.before else nothing_left

-- the leaks of the step that ends with an entry which comes after these
abbrev pub leaks_at : List Entry → Entry → Left
leaks_at history e = leaks_with (ledger_from no_step history) e

-- whether there is a leak
abbrev pub some_leak : Left → Bool
some_leak left = nat_lt 0 (length left.areas) || nat_lt 0 (length left.pools)

-- whether a step of some entries ends with a leak
abbrev pub any_leak : Ledger → List Entry → Bool
any_leak l [] = false
any_leak l (e ∷ entries) = some_leak (leaks_with l e) || any_leak (ledger_after l e) entries
