-- The line that set a name last, and the name that has the address of a reason.
use Rattle.std.specs.Prelude.{◌≡◌, ◌⊎◌, ◌≢◌, ◌≤◌, ℕ, true, false, List, [], ◌∷◌, Option, Some, None, if◌then◌else◌}
use Rattle.std.specs.Option.{option_and_then}
use Rattle.std.specs.FinMap.{FinMap, get, insert, empty}
use Rattle.mvs_model.specs.declared.line.Fault.{Fault}
use Rattle.mvs_model.specs.declared.line.Line.{Line}
use Rattle.mvs_model.specs.declared.line.Line.TheVariants as line
use Rattle.mvs_model.specs.declared.line.Statement.TheVariants as says
use Rattle.mvs_model.specs.declared.line.SourceRequest.{SourceRequest}
use Rattle.mvs_model.specs.declared.line.SourceRequest.TheVariants as written
use Rattle.mvs_model.specs.declared.name.Name.{Name}
use Rattle.mvs_model.specs.declared.reason.Reason.{Reason}
use Rattle.mvs_model.specs.declared.reason.LineReason.{LineReason}
use Rattle.mvs_model.specs.declared.reason.LineReason.TheVariants.{NotSet, Refused}
use Rattle.mvs_model.specs.declared.reason.Reason.TheVariants.{NotActive, InvalidNumber, Shortage, NoMember, NoPart, OffDoubleword, NoSubpool, NotHeld, Overlap, WholeOfZero, PoolInUse, TooManyPools, NoPool, NoFreeCell, NoTakenCell, TaskInUse, TooManyTasks, NotOwned, ActiveSubtask, Asked, NoAccess}
use Rattle.mvs_model.specs.declared.request.Request.{Request}
use Rattle.mvs_model.specs.Answers.{Event}
use Rattle.mvs_model.specs.Job.{JobValue}
use Rattle.mvs_model.specs.Name.{name_cmp}
use Rattle.mvs_model.specs.Place.{PlaceValue}
use Rattle.mvs_model.specs.Reading.{LineOf, FaultOf}
use Rattle.mvs_model.specs.Resolving.{names_set, resolved}
use Rattle.mvs_model.specs.Storage.{has_address}
use Rattle.explanation.specs.NamingTexts.{naming_line}
use Rattle.explanation.specs.ReasonTexts.{cell_of}
use Rattle.mvs_job.specs.declared.name_origins.NamedAddress.{NamedAddress}
use Rattle.mvs_job.specs.declared.walk.LineEvent.{LineEvent}
use Rattle.mvs_job.specs.declared.walk.LineEvent.TheVariants as line_event
use Rattle.mvs_job.specs.Granting.{reports_grant}
use Rattle.mvs_job.specs.LineEvents.{WalkValue, events_of_line}
use Rattle.mvs_job.specs.Why.{OfRead, spoken}

-- ---- the lines that set names

-- the names that were set in a step, each with the number of the line that set it last
abbrev pub NameOrigins : Type 0
NameOrigins = FinMap name_cmp ℕ

-- no name was set
abbrev pub no_lines : NameOrigins
no_lines = empty

-- the names after a line with this number that sets these names
abbrev pub set_by : ℕ → NameOrigins → List Name → NameOrigins
set_by number set [] = set
set_by number set (name ∷ names) = set_by number (insert set name number) names

-- the names after a line with this meaning and these events: a step begins with none, and a granted request sets its names
abbrev pub names_after : ℕ → NameOrigins → Line → List Event → NameOrigins
names_after number set (line.Statement t (says.Region below above fill residence)) events = no_lines
names_after number set (line.Statement t (says.Request a)) events = if reports_grant events then set_by number set (names_set a) else set
names_after number set l events = set

-- The names after the next line, which has no fault: before the first step there are none.
abbrev pub AreNamesAfter : ℕ → Option JobValue → NameOrigins → List ℕ → List Event → NameOrigins → Type 0
AreNamesAfter number None set bytes events new = new ≡ no_lines
AreNamesAfter number (Some job) set bytes events new = (l : Line) × LineOf false bytes l × (new ≡ names_after number set l events)

-- ---- the address of a reason

-- the address in the reason of a request, if there is one
abbrev pub reason_address : Request → Reason → Option ℕ
reason_address request (OffDoubleword a) = Some a
reason_address request (NotHeld a holder owner) = Some a
reason_address request (Overlap one other a) = Some a
reason_address request (NoTakenCell spot) = Some (cell_of request)
reason_address request (NoAccess a holder) = Some a
reason_address request NotActive = None
reason_address request InvalidNumber = None
reason_address request (Shortage room) = None
reason_address request (NoMember k short) = None
reason_address request (NoPart cells size room) = None
reason_address request (NoSubpool effective_task) = None
reason_address request WholeOfZero = None
reason_address request PoolInUse = None
reason_address request TooManyPools = None
reason_address request NoPool = None
reason_address request NoFreeCell = None
reason_address request TaskInUse = None
reason_address request TooManyTasks = None
reason_address request (NotOwned number owner) = None
reason_address request (ActiveSubtask subtask) = None
reason_address request Asked = None

-- the address in the reason for which a request, or a line, was not executed
abbrev pub line_address : Request → LineReason → Option ℕ
line_address request (Refused reason) = reason_address request reason
line_address request (NotSet name) = None

-- the address in the reason of a line
abbrev pub address_in : JobValue → Line → Option LineReason → Option ℕ
address_in job (line.Statement t (says.Request a)) (Some (Refused reason)) = reason_address (spoken (resolved job.names a)) reason
address_in job (line.Statement t (says.Request a)) (Some (NotSet name)) = None
address_in job (line.Statement t (says.Request a)) None = None
address_in job (line.Statement t (says.Region below above fill residence)) r = None
address_in job (line.Statement t (says.Where name)) r = None
address_in job (line.Statement t says.ReportSubpools) r = None
address_in job (line.Statement t says.ReportMap) r = None
address_in job line.Nothing r = None

-- The reason of the next line of a step, which has these events, has this address: none, if it has a fault.
abbrev pub IsAddress : JobValue → List ℕ → List Event → Option ℕ → Type 0
IsAddress job bytes events a =
    ((l : Line) × LineOf false bytes l × ((r : Option LineReason) × OfRead job l events r × (a ≡ address_in job l r)))
    ⊎ ((fault : Fault) × FaultOf false bytes fault × (a ≡ None))

-- ---- the name that has it

-- The name has this place, and the line of this number set it last.
abbrev pub IsSetTo : JobValue → NameOrigins → Name → PlaceValue → ℕ → Type 0
IsSetTo job set name p number = (get job.names name ≡ Some p) × (get set name ≡ Some number)

-- Of the names that have the address in their places it is one that was set last; or none has.
abbrev pub IsNaming : JobValue → NameOrigins → ℕ → Option NamedAddress → Type 0
IsNaming job set a None = (name : Name) (p : PlaceValue) (number : ℕ) → IsSetTo job set name p number → has_address p a ≡ true → ⊥
IsNaming job set a (Some n) =
    (n.addr ≡ a) × IsSetTo job set n.name n.place n.number × (has_address n.place a ≡ true)
    × ((name : Name) (p : PlaceValue) (number : ℕ) → IsSetTo job set name p number → has_address p a ≡ true → number ≤ n.number)

-- the name that has an address, if there is an address
abbrev pub IsNamingOf : JobValue → NameOrigins → Option ℕ → Option NamedAddress → Type 0
IsNamingOf job set None n = n ≡ None
IsNamingOf job set (Some a) n = IsNaming job set a n

-- what is printed of it
abbrev pub naming_text : Option NamedAddress → List ℕ
naming_text None = []
naming_text (Some n) = naming_line n.addr n.name n.place n.number

-- The text is the name that has the address in the reason of the next line, which has these events: empty before the first step.
abbrev pub IsNamed : Option JobValue → NameOrigins → List ℕ → List Event → List ℕ → Type 0
IsNamed None set bytes events text = text ≡ []
IsNamed (Some job) set bytes events text = (a : Option ℕ) × IsAddress job bytes events a × ((n : Option NamedAddress) × IsNamingOf job set a n × (text ≡ naming_text n))

-- ---- what calls do

-- the lines that set names before a line: none before the first step
abbrev pub lines_before : Option JobValue → NameOrigins → NameOrigins
lines_before None set = no_lines
lines_before (Some job) set = set

-- the lines that set names are recorded after a line that has no fault
abbrev pub RecordsOrigins : WalkValue → NameOrigins → List ℕ → WalkValue → LineEvent → NameOrigins → Type 0
RecordsOrigins w set bytes new (line_event.Faulted fault) later = Unit {0}
RecordsOrigins w set bytes new t later = AreNamesAfter w.number w.step set bytes (events_of_line w.number new t) later

-- A list has a length.
abbrev pub HasLengths : SourceRequest → Type 0
HasLengths (written.ObtainList form number lengths start areas) = lengths ≢ []
HasLengths (written.Obtain form number ask variable area) = Unit {0}
HasLengths (written.Release form number location n) = Unit {0}
HasLengths (written.ReleaseArea form number area) = Unit {0}
HasLengths (written.ReleaseList form number locations lengths) = Unit {0}
HasLengths (written.ReleaseWhole form number) = Unit {0}
HasLengths (written.Build pool number size primary secondary loc) = Unit {0}
HasLengths (written.Get pool conditional cell) = Unit {0}
HasLengths (written.Free pool location) = Unit {0}
HasLengths (written.Delete pool) = Unit {0}
HasLengths (written.Attach name gifts residence) = Unit {0}
HasLengths written.Return = Unit {0}
HasLengths (written.Abend code) = Unit {0}
HasLengths (written.Show from n) = Unit {0}
HasLengths (written.Put to bytes) = Unit {0}
HasLengths (written.Move to from n) = Unit {0}

-- A line says a request that sets a name.
abbrev pub SetsSome : Line → Type 0
SetsSome (line.Statement t (says.Request a)) = (names_set a ≢ []) × HasLengths a
SetsSome (line.Statement t (says.Region below above fill residence)) = ⊥
SetsSome (line.Statement t (says.Where name)) = ⊥
SetsSome (line.Statement t says.ReportSubpools) = ⊥
SetsSome (line.Statement t says.ReportMap) = ⊥
SetsSome line.Nothing = ⊥

-- what a name says of an address, if it has it in its place
abbrev pub naming_at : JobValue → ℕ → Name × ℕ → Option NamedAddress
naming_at job a e = option_and_then (λ p. if has_address p a then Some (record { addr = a; name = e.0; place = p; number = e.1 }) else None) (get job.names e.0)
