-- The history of the storage of a step, by the entries of a trace: the areas that were obtained, and what freed their doublewords.
use Rattle.std.specs.Prelude.{◌≡◌, ◌≢◌, ◌⊎◌, ℕ, ◌+◌, ◌/◌, ◌==◌, ◌&&◌, nat_lt, Bool, true, false, not, List, [], ◌∷◌, ◌++◌, length, map, take, drop, Option, Some, None, unwrap_or, option_map, MatchOption, Result, Ok, if◌then◌else◌}
use Rattle.std.specs.Bool.{MatchBool}
use Rattle.std.specs.Option.{option_and_then, option_or}
use Rattle.mvs_model.specs.declared.line.Line.{Line}
use Rattle.mvs_model.specs.declared.line.Line.TheVariants as line
use Rattle.mvs_model.specs.declared.line.Statement.TheVariants as says
use Rattle.mvs_model.specs.declared.line.SourceRequest.{SourceRequest}
use Rattle.mvs_model.specs.declared.line.SourceRequest.TheVariants as written
use Rattle.mvs_model.specs.declared.name.Name.{Name}
use Rattle.mvs_model.specs.declared.reason.Reason.{Reason}
use Rattle.mvs_model.specs.declared.reason.Reason.TheVariants.{NotActive, InvalidNumber, Shortage, NoMember, NoPart, OffDoubleword, NoSubpool, NotHeld, Overlap, WholeOfZero, PoolInUse, TooManyPools, NoPool, NoFreeCell, NoTakenCell, TaskInUse, TooManyTasks, NotOwned, ActiveSubtask, Asked, NoAccess}
use Rattle.mvs_model.specs.declared.request.Request.{Request}
use Rattle.mvs_model.specs.declared.request.Request.TheVariants as request
use Rattle.mvs_model.specs.declared.want.Loc.{Loc}
use Rattle.mvs_model.specs.declared.want.Loc.TheVariants as loc
use Rattle.mvs_model.specs.Answers.{Answer, Event, AnswerTo, NotRun, NoName, At, Rc0, Granted, Rc4, Cell, NoCell, Attached, Ended, Done, Data, Abended, Subpools, Map, Region}
use Rattle.mvs_model.specs.Causes.{IsPassed}
use Rattle.mvs_model.specs.Gifts.{gives}
use Rattle.mvs_model.specs.Job.{JobValue}
use Rattle.mvs_model.specs.Name.{same_name}
use Rattle.mvs_model.specs.Owners.{is_active}
use Rattle.mvs_model.specs.Place.{PlaceValue}
use Rattle.mvs_model.specs.Reasons.{IsReason, released}
use Rattle.mvs_model.specs.Resolving.{resolved}
use Rattle.mvs_model.specs.Storage.{covers}
use Rattle.request_forms.specs.Facts.{listed}
use Rattle.request_forms.specs.SubpoolLabels.{resolved_owner}
use Rattle.mvs_job.specs.Granting.{reports_grant}
use Rattle.mvs_model.specs.declared.outcome.Outcome.{Outcome}
use Rattle.mvs_model.specs.Runs.{IsPrinting}
use Rattle.mvs_job.specs.Consuming.{Piece, WritesText}
use Rattle.mvs_job.specs.Explained.{explained}
use Rattle.mvs_job.specs.Explaining.{without_starred}
use Rattle.mvs_job.specs.Trace.{Entry, Executed, Faulty, Closed, Exhausted, Kind}
use Rattle.area_history.specs.declared.events.StorageChange.{StorageChange}
use Rattle.area_history.specs.declared.events.StorageChange.TheVariants as change
use Rattle.area_history.specs.declared.events.StorageEvent.{StorageEvent}
use Rattle.area_history.specs.declared.findings.AddressHistory.{AddressHistory}
use Rattle.area_history.specs.declared.findings.AreaFate.{AreaFate}
use Rattle.area_history.specs.declared.findings.Findings.{Findings}
use Rattle.area_history.specs.declared.findings.LastTwo.{LastTwo}
use Rattle.area_history.specs.declared.grant.AreaGrant.{AreaGrant}
use Rattle.area_history.specs.declared.grant.Leak.{Leak}
use Rattle.area_history.specs.declared.grant.Selection.{Selection}
use Rattle.area_history.specs.declared.grant.Selection.TheVariants.{All, EndedWith, Below}
use Rattle.area_history.specs.declared.grant.EndedTask.{EndedTask}
use Rattle.area_history.specs.declared.grant.TaskStart.{TaskStart}
use Rattle.area_history.specs.declared.largest.Leaks.{Leaks}
use Rattle.area_history.specs.Anywhere.{IsAnywhere}
use Rattle.area_history.specs.HistoryTexts.{findings_text}
use Rattle.area_history.specs.Leaking.{has_doubleword, leaks, selects, summary}
use Rattle.area_history.specs.Ledgers.{begun, granted_at, plain_in}

-- The history of a step: the areas that were obtained, and what lines did to storage that was obtained before.
pub record History : Type 0 where
  pub grants : List AreaGrant
  pub events : List StorageEvent

-- of a step at its start
abbrev pub no_history : History
no_history = record { grants = []; events = [] }

-- ---- what lines did

-- a change by a task's line
abbrev pub event_of : ℕ → Name → StorageChange → StorageEvent
event_of number t c = record { line = number; task = t; change = c }

-- the releases of places
abbrev pub all_released : ℕ → Name → List PlaceValue → List StorageEvent
all_released number t [] = []
all_released number t (p ∷ places) = event_of number t (change.Released p) ∷ all_released number t places

-- the ends of tasks
abbrev pub all_ended : ℕ → Name → List Name → List StorageEvent
all_ended number t [] = []
all_ended number t (name ∷ names) = event_of number t (change.Ended name) ∷ all_ended number t names

-- the places that a request releases, if its names are set
abbrev pub released_by : JobValue → SourceRequest → List PlaceValue
released_by job a = unwrap_or (option_map released (resolved job.names a)) []

-- the subpool that a task's request released as a whole
abbrev pub emptied_by : ℕ → Name → JobValue → ℕ → List StorageEvent
emptied_by number t job n = listed (option_map (λ l. event_of number t (change.Emptied l.0 l.1)) (resolved_owner job.state.owners t n))

-- what a task's request did that was granted, by the step after it and the number of areas before it
abbrev pub changed_by : ℕ → Name → JobValue → ℕ → SourceRequest → List StorageEvent
changed_by number t job areas (written.Release form n location len) = all_released number t (released_by job (written.Release form n location len))
changed_by number t job areas (written.ReleaseArea form n area) = all_released number t (released_by job (written.ReleaseArea form n area))
changed_by number t job areas (written.ReleaseList form n locations lengths) = all_released number t (released_by job (written.ReleaseList form n locations lengths))
changed_by number t job areas (written.ReleaseWhole form n) = emptied_by number t job n
changed_by number t job areas (written.Attach name gifts residence) = event_of number t (change.Attached name gifts areas) ∷ []
changed_by number t job areas (written.Obtain form n ask variable area) = []
changed_by number t job areas (written.ObtainList form n lengths start names) = []
changed_by number t job areas (written.Build pool n size primary secondary loc) = []
changed_by number t job areas (written.Get pool conditional cell) = []
changed_by number t job areas (written.Free pool location) = []
changed_by number t job areas (written.Delete pool) = []
changed_by number t job areas written.Return = []
changed_by number t job areas (written.Abend code) = []
changed_by number t job areas (written.Show from n) = []
changed_by number t job areas (written.Put to bytes) = []
changed_by number t job areas (written.Move to from n) = []

-- the tasks that ended with an answer to a task
abbrev pub ended_with : Name → Answer → List Name
ended_with t Ended = t ∷ []
ended_with t (Abended code fallen) = t ∷ fallen
ended_with t NotRun = []
ended_with t NoName = []
ended_with t (At addr) = []
ended_with t Rc0 = []
ended_with t (Granted n) = []
ended_with t Rc4 = []
ended_with t Cell = []
ended_with t NoCell = []
ended_with t Attached = []
ended_with t Done = []
ended_with t (Data bytes) = []
ended_with t (Subpools lines) = []
ended_with t (Map runs) = []
ended_with t (Region card) = []

-- the ends of tasks with some events
abbrev pub ends_by : ℕ → List Event → List StorageEvent
ends_by number (AnswerTo n t answer ∷ []) = all_ended number t (ended_with t answer)
ends_by number _ = []

-- what a task's request did, if these events say that it was granted
abbrev pub granted_changes : ℕ → Name → JobValue → ℕ → SourceRequest → List Event → List StorageEvent
granted_changes number t job areas a events = if reports_grant events then changed_by number t job areas a else []

-- what a line with this meaning and these events did
abbrev pub events_by : ℕ → Line → List Event → Option JobValue → ℕ → List StorageEvent
events_by number (line.Statement t (says.Request a)) events (Some job) areas = granted_changes number t job areas a events ++ ends_by number events
events_by number (line.Statement t (says.Request a)) events None areas = []
events_by number (line.Statement t (says.Region below above fill residence)) events new areas = []
events_by number (line.Statement t (says.Where name)) events new areas = []
events_by number (line.Statement t says.ReportSubpools) events new areas = []
events_by number (line.Statement t says.ReportMap) events new areas = []
events_by number line.Nothing events new areas = []

-- what an entry of this kind did, before which this step ran
abbrev pub events_in : Entry → ℕ → Option JobValue → Kind → List StorageEvent
events_in e areas (Some job) (Executed said) = events_by e.number said e.events e.after areas
events_in e areas step kind = []

-- what an entry did
abbrev pub events_at : Entry → ℕ → List StorageEvent
events_at e areas = events_in e areas e.before e.kind

-- ---- the history after an entry

-- in the step that runs after it
abbrev pub history_in : History → Entry → History
history_in h e = record { grants = h.grants ++ granted_at e; events = h.events ++ events_at e (length h.grants) }

-- after it
abbrev pub history_after : History → Entry → History
history_after h e = unwrap_or (option_map (λ t. no_history) (begun e.events)) (history_in h e)

-- after some entries
abbrev pub history_from : History → List Entry → History
history_from h [] = h
history_from h (e ∷ entries) = history_from (history_after h e) entries

-- ---- what freed a doubleword

-- whether a change frees a doubleword of an area in a subpool: its place is released, or the whole subpool, or the owner ends
abbrev pub frees_by : ℕ → ℕ → Name → StorageChange → Bool
frees_by d number owner (change.Released p) = covers p d
frees_by d number owner (change.Emptied emptied other) = (emptied == number) && same_name other owner
frees_by d number owner (change.Ended task) = same_name task owner
frees_by d number owner (change.Attached name gifts areas) = false

abbrev pub frees : ℕ → ℕ → Name → StorageEvent → Bool
frees d number owner e = frees_by d number owner e.change

-- the owner of a subpool after a change by a task: a subtask that it was given to
abbrev pub owner_by : Name → ℕ → Name → StorageChange → Name
owner_by t number owner (change.Attached name gifts areas) = if same_name t owner && gives gifts number then name else owner
owner_by t number owner (change.Released p) = owner
owner_by t number owner (change.Emptied emptied other) = owner
owner_by t number owner (change.Ended task) = owner

abbrev pub owner_after : ℕ → Name → StorageEvent → Name
owner_after number owner e = owner_by e.task number owner e.change

-- whether a change after the line of an area frees a doubleword of it, if its subpool has this owner
abbrev pub frees_area : ℕ → AreaGrant → Name → StorageEvent → Bool
frees_area d g owner e = nat_lt g.line e.line && frees d g.subpool owner e

-- the owner of its subpool after the change
abbrev pub owner_since : AreaGrant → Name → StorageEvent → Name
owner_since g owner e = if nat_lt g.line e.line then owner_after g.subpool owner e else owner

-- what freed a doubleword of an area, if its subpool had this owner: the first such change
abbrev pub fate : ℕ → AreaGrant → Name → List StorageEvent → Option StorageEvent
fate d g owner [] = None
fate d g owner (e ∷ events) = if frees_area d g owner e then Some e else fate d g (owner_since g owner e) events

-- ---- the areas that had a doubleword

-- the last two areas that have a doubleword, after one more
abbrev pub later_two : ℕ → LastTwo → AreaGrant → LastTwo
later_two d two g = if has_doubleword g.place d then record { previous = two.latest; latest = Some g } else two

-- after more areas
abbrev pub two_after : ℕ → LastTwo → List AreaGrant → LastTwo
two_after d two [] = two
two_after d two (g ∷ grants) = two_after d (later_two d two g) grants

-- no area has it
abbrev pub no_two : LastTwo
no_two = record { previous = None; latest = None }

-- an area and what freed a doubleword of it
abbrev pub area_fate : ℕ → List StorageEvent → AreaGrant → AreaFate
area_fate d events g = record { grant = g; freed = fate d g g.owner events }

-- the history of an address: the last area that had it, and the one before
abbrev pub address_history : History → ℕ → AddressHistory
address_history h a =
    let two = two_after (a / 8) no_two h.grants in
    record { addr = a; latest = option_map (area_fate (a / 8) h.events) two.latest; previous = option_map (area_fate (a / 8) h.events) two.previous }

-- ---- what a task leaves

-- when a task was attached by a change in a line
abbrev pub attach_by : ℕ → Name → StorageChange → Option TaskStart
attach_by number t (change.Attached name gifts areas) = if same_name name t then Some (record { line = number; areas = areas }) else None
attach_by number t (change.Released p) = None
attach_by number t (change.Emptied emptied other) = None
attach_by number t (change.Ended task) = None

abbrev pub attach_of : Name → StorageEvent → Option TaskStart
attach_of t e = attach_by e.line t e.change

-- when it was attached last
abbrev pub last_attach : Name → List StorageEvent → Option TaskStart
last_attach t [] = None
last_attach t (e ∷ events) = option_or (last_attach t events) (attach_of t e)

-- the start of a step, if it was not attached
abbrev pub start_of : Name → List StorageEvent → TaskStart
start_of t events = unwrap_or (last_attach t events) (record { line = 0; areas = 0 })

-- a task that ended, and when it was attached
abbrev pub ended_at : List StorageEvent → Name → EndedTask
ended_at events t = record { task = t; start = start_of t events }

-- the tasks that end with some events: the one that the answer is for, and then those that end with it
abbrev pub ended_tasks : List Event → List Name
ended_tasks (AnswerTo n t answer ∷ []) = ended_with t answer
ended_tasks _ = []

-- tasks that ended, each with when it was attached; at most 32 tasks are active
abbrev pub ended_since : List StorageEvent → List Name → List EndedTask
ended_since events tasks = take 32 (map (ended_at events) tasks)

-- what stays of the areas that tasks obtained since they were attached; the first task was attached before the others
abbrev pub stays_in : JobValue → List AreaGrant → List EndedTask → Leaks
stays_in job grants [] = summary []
stays_in job grants (e ∷ ended) = summary (leaks (selects (EndedWith (e ∷ ended))) (plain_in job) (drop e.start.areas grants))

-- what stays of them in a step, after the tasks ended
abbrev pub stays_of : History → Option JobValue → List Name → Leaks
stays_of h None tasks = summary []
stays_of h (Some job) tasks = stays_in job h.grants (ended_since h.events tasks)

-- what stays after an entry of what the tasks that ended with it obtained
abbrev pub stays_at : History → Entry → Leaks
stays_at h e = stays_of h e.after (ended_tasks e.events)

-- ---- what a refusal is about

-- the address of a reason that is not held, or not as it should be
abbrev pub address_of : Reason → Option ℕ
address_of (NotHeld a holder owner) = Some a
address_of (NoAccess a holder) = Some a
address_of NotActive = None
address_of InvalidNumber = None
address_of (Shortage room) = None
address_of (NoMember k short) = None
address_of (NoPart cells size room) = None
address_of (OffDoubleword a) = None
address_of (NoSubpool task) = None
address_of (Overlap one other a) = None
address_of WholeOfZero = None
address_of PoolInUse = None
address_of TooManyPools = None
address_of NoPool = None
address_of NoFreeCell = None
address_of (NoTakenCell spot) = None
address_of TaskInUse = None
address_of TooManyTasks = None
address_of (NotOwned number owner) = None
address_of (ActiveSubtask task) = None
address_of Asked = None

-- whether storage is short
abbrev pub is_short : Reason → Bool
is_short (Shortage room) = true
is_short (NoMember k short) = true
is_short (NoPart cells size room) = true
is_short NotActive = false
is_short InvalidNumber = false
is_short (OffDoubleword a) = false
is_short (NoSubpool task) = false
is_short (NotHeld a holder owner) = false
is_short (Overlap one other a) = false
is_short WholeOfZero = false
is_short PoolInUse = false
is_short TooManyPools = false
is_short NoPool = false
is_short NoFreeCell = false
is_short (NoTakenCell spot) = false
is_short TaskInUse = false
is_short TooManyTasks = false
is_short (NotOwned number owner) = false
is_short (ActiveSubtask task) = false
is_short Asked = false
is_short (NoAccess a holder) = false

-- the areas on the side where a location finds storage: those below 16 megabytes if it is only there, else all
abbrev pub side_of : Loc → Selection
side_of loc.Below = Below
side_of loc.Any = All
side_of loc.Res = All

-- of a request
abbrev pub sought : Request → Selection
sought (request.Obtain form number ask) = side_of ask.loc
sought (request.ObtainList form number lengths start) = Below
sought (request.Build pool number size primary secondary loc) = side_of loc
sought (request.Get pool conditional) = All
sought (request.Release form number p) = All
sought (request.ReleaseList form number ps) = All
sought (request.ReleaseWhole form number) = All
sought (request.Free pool cell) = All
sought (request.Delete pool) = All
sought (request.Attach name gifts residence) = All
sought request.Return = All
sought (request.Abend code) = All
sought (request.Show a n) = All
sought (request.Put a bytes) = All
sought (request.Move to from n) = All

-- who has the storage that a request lacks
abbrev pub held_for : History → JobValue → Request → Reason → Leaks
held_for h job r reason = summary (if is_short reason then leaks (selects (sought r)) (plain_in job) h.grants else [])

-- what is found of a refusal: the history of the address of its reason, the length that fits with LOC=ANY, and who has the storage that is
-- short, on which side
pub record Found : Type 0 where
  pub address : Option AddressHistory
  pub anywhere : Option ℕ
  pub side : Selection
  pub held : Leaks

-- if nothing is refused
abbrev pub nothing_found : Found
nothing_found = record { address = None; anywhere = None; side = All; held = summary [] }

-- if a request is refused for this reason, and this length fits with LOC=ANY
abbrev pub found_for : History → JobValue → Request → Reason → Option ℕ → Found
found_for h job r reason any = record { address = option_map (address_history h) (address_of reason); anywhere = any; side = sought r; held = held_for h job r reason }

-- What is found of a request: it passes, or is refused for a reason.
abbrev pub FoundOf : History → JobValue → Name → Request → Found → Type 0
FoundOf h job t r found =
    (IsPassed job.state t r × (found ≡ nothing_found))
    ⊎ ((reason : Reason) × (any : Option ℕ) × IsReason job.state t r (Some reason) × IsAnywhere job.state t r reason any × (found ≡ found_for h job r reason any))

-- What is found of a line of a step: only the request of an active task, with its names set, is made.
abbrev pub FoundIn : History → Option JobValue → Line → Found → Type 0
FoundIn h None l found = found ≡ nothing_found
FoundIn h (Some job) (line.Statement t (says.Request a)) found = MatchBool (is_active job.state.owners t) (MatchOption (resolved job.names a) (found ≡ nothing_found) (λ r. FoundOf h job t r found)) (found ≡ nothing_found)
FoundIn h (Some job) (line.Statement t (says.Region below above fill residence)) found = found ≡ nothing_found
FoundIn h (Some job) (line.Statement t (says.Where name)) found = found ≡ nothing_found
FoundIn h (Some job) (line.Statement t says.ReportSubpools) found = found ≡ nothing_found
FoundIn h (Some job) (line.Statement t says.ReportMap) found = found ≡ nothing_found
FoundIn h (Some job) line.Nothing found = found ≡ nothing_found

-- What is found of an entry of this kind.
abbrev pub FoundAt : History → Option JobValue → Kind → Found → Type 0
FoundAt h step (Executed said) found = FoundIn h step said found
FoundAt h step kind found = found ≡ nothing_found

-- what was found of a refusal
abbrev pub found_in : Findings → Found
found_in f = record { address = f.address; anywhere = f.anywhere; side = f.side; held = f.held }

-- ---- what is written

-- what is found of an entry, and what stays after it
abbrev pub findings_of : Found → Leaks → Findings
findings_of found stays = record { address = found.address; anywhere = found.anywhere; side = found.side; held = found.held; stays = stays }

-- What is written for an entry: what another consumer writes, and then what is found in the history. Memory may be needed for what is
-- kept of a line.
abbrev pub with_history : (Findings → List ℕ) → Piece → Piece
with_history print piece = record {
  may = λ history e text. let h = history_from no_history history in
      (one : List ℕ) × (found : Found) × piece.may history e one × FoundAt h e.before e.kind found × (text ≡ one ++ print (findings_of found (stays_at h e)));
  needs = λ e. piece.needs e ⊎ (granted_at e ≢ []) ⊎ ((areas : ℕ) × (events_at e areas ≢ []));
}

-- With explanations and these lines, without those that begin with an asterisk, the text is the printing of a run.
abbrev pub HistoriesArePrintings : Type 0
HistoriesArePrintings = (script text : List ℕ) (outcome : Outcome) → WritesText (with_history findings_text explained) script text (Ok outcome) → IsPrinting script (without_starred text) outcome
