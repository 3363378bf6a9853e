-- Tidy scripts, runs that are granted in full, and how a state and the labels are linked.
use Rattle.std.specs.Prelude.{◌≡◌, ◌≢◌, ℕ, ◌+◌, ◌*◌, ◌/◌, ◌%◌, ◌<◌, Bool, true, false, not, ◌||◌, List, [], ◌∷◌, length, map, Option, Some, None, is_some, IsSome}
use Rattle.std.specs.List.{list_all, zip}
use Rattle.std.specs.Option.{option_map, unwrap_or}
use Rattle.std.specs.FinMap.{get, empty}
use Rattle.mvs_model.specs.declared.name.Name.{Name}
use Rattle.mvs_model.specs.declared.code.Family.{Family}
use Rattle.mvs_model.specs.declared.line.Line.TheVariants as line
use Rattle.mvs_model.specs.declared.line.Statement.{Statement}
use Rattle.mvs_model.specs.declared.line.Statement.TheVariants as says
use Rattle.mvs_model.specs.declared.line.Location.{Location}
use Rattle.mvs_model.specs.declared.line.Location.TheVariants.{Absolute, Named}
use Rattle.mvs_model.specs.declared.line.SourceRequest.{SourceRequest}
use Rattle.mvs_model.specs.declared.line.SourceRequest.TheVariants as written
use Rattle.mvs_model.specs.declared.outcome.Outcome.{Outcome}
use Rattle.mvs_model.specs.declared.request.Request.{Request}
use Rattle.mvs_model.specs.declared.request.Request.TheVariants as request
use Rattle.mvs_model.specs.declared.request.Reply.{Reply}
use Rattle.mvs_model.specs.declared.request.Reply.TheVariants.{Rc4, Obtained, Abended}
use Rattle.mvs_model.specs.Place.{PlaceValue, place_at, round8}
use Rattle.mvs_model.specs.Finite.{has}
use Rattle.mvs_model.specs.Owners.{is_active}
use Rattle.mvs_model.specs.State.{Holding, plain}
use Rattle.mvs_model.specs.Codes.{short}
use Rattle.mvs_model.specs.Job.{JobValue}
use Rattle.mvs_model.specs.Lines.{lines_of}
use Rattle.mvs_model.specs.Reading.{LineOf}
use Rattle.mvs_model.specs.Answers.{Answer, Event}
use Rattle.mvs_model.specs.Texts.{printing}
use Rattle.mvs_model.specs.Walk.{Walks, ServesLine, JobEnds}
use Rattle.mvs_model.specs.Runs.{Condition, Does, job_machine, IsRunning}
use Rattle.mvs_laws.specs.Labels as labels
use Rattle.mvs_laws.specs.Labels.{Labels, spot, is_there, label_machine, IsLabelRun, IsLabelText}

-- the addresses that a request uses, with the lengths of their places, a release's rounded
abbrev pub places_used : Labels → SourceRequest → List (Location × ℕ)
places_used m (written.Release form n location len) = (location, round8 len) ∷ []
places_used m (written.ReleaseArea form n area) = (Named area 0, unwrap_or (option_map (λ l. round8 (m.len l)) (get m.names area)) 0) ∷ []
places_used m (written.ReleaseList form n locations lengths) = zip locations (map round8 lengths)
places_used m (written.Show location n) = (location, n) ∷ []
places_used m (written.Put location bytes) = (location, length bytes) ∷ []
places_used m (written.Move to from n) = (to, n) ∷ (from, n) ∷ []
places_used m (written.Obtain form number ask variable area) = []
places_used m (written.ObtainList form number lengths start areas) = []
places_used m (written.ReleaseWhole form number) = []
places_used m (written.Build pool number size primary secondary loc) = []
places_used m (written.Get pool conditional cell) = []
places_used m (written.Free pool cell) = []
places_used m (written.Delete pool) = []
places_used m (written.Attach name gifts residence) = []
places_used m written.Return = []
places_used m (written.Abend code) = []

-- whether an address has no name that is not set
abbrev pub is_set : Labels → Location → Bool
is_set m (Absolute a) = true
is_set m (Named name k) = is_some (get m.names name)

-- whether a place is named, is inside the area of its name, and has no released offset
abbrev pub is_good : Labels → Location → ℕ → Bool
is_good m (Absolute a) n = false
is_good m (Named name k) n = has (λ l. is_there m (spot l k n)) (get m.names name)

-- whether a request uses only good places, if its names are all set
abbrev pub uses_good : Labels → SourceRequest → Bool
uses_good m a = not (list_all (λ p. is_set m p.0) (places_used m a)) || list_all (λ p. is_good m p.0 p.1) (places_used m a)

-- whether a request uses no cell pool, and where its names are all set, only good places
abbrev pub tidy_written : Labels → SourceRequest → Bool
tidy_written m (written.Build pool n size primary secondary loc) = false
tidy_written m (written.Get pool conditional cell) = false
tidy_written m (written.Free pool cell) = false
tidy_written m (written.Delete pool) = false
tidy_written m (written.Obtain form number ask variable area) = uses_good m (written.Obtain form number ask variable area)
tidy_written m (written.ObtainList form number lengths start areas) = uses_good m (written.ObtainList form number lengths start areas)
tidy_written m (written.Release form n location len) = uses_good m (written.Release form n location len)
tidy_written m (written.ReleaseArea form n area) = uses_good m (written.ReleaseArea form n area)
tidy_written m (written.ReleaseList form n locations lengths) = uses_good m (written.ReleaseList form n locations lengths)
tidy_written m (written.ReleaseWhole form n) = uses_good m (written.ReleaseWhole form n)
tidy_written m (written.Attach name gifts residence) = uses_good m (written.Attach name gifts residence)
tidy_written m written.Return = uses_good m written.Return
tidy_written m (written.Abend code) = uses_good m (written.Abend code)
tidy_written m (written.Show location n) = uses_good m (written.Show location n)
tidy_written m (written.Put location bytes) = uses_good m (written.Put location bytes)
tidy_written m (written.Move to from n) = uses_good m (written.Move to from n)

-- whether a statement is tidy: it also prints no address
abbrev pub tidy_statement : Labels → Statement → Bool
tidy_statement m (says.Region below above fill residence) = true
tidy_statement m (says.Request a) = tidy_written m a
tidy_statement m (says.Where name) = not (is_some (get m.names name))
tidy_statement m says.ReportSubpools = true
tidy_statement m says.ReportMap = false

-- A statement in a step is tidy, where its task is active.
abbrev pub IsTidy : Labels → Name → Statement → Type 0
IsTidy m t s = is_active m.owners t ≡ true → tidy_statement m s ≡ true

-- A line is tidy, where it says such a statement.
abbrev pub TidyLine : Option Labels → List ℕ → Type 0
TidyLine None bytes = Unit {0}
TidyLine (Some m) bytes = (t : Name) (s : Statement) → LineOf false bytes (line.Statement t s) → IsTidy m t s

-- Each of the lines is tidy where the label machine comes to it.
abbrev pub TidyLines : ℕ → Option Labels → List (List ℕ) → Type 0
TidyLines number old [] = Unit {0}
TidyLines number old (l ∷ lines) =
    TidyLine old l
    × ((events : List Event) (new : Option Labels) → ServesLine label_machine number old l events new → TidyLines (number + 1) new lines)

-- A script that uses no cell pools, no addresses, and of its areas only what is there.
abbrev pub Tidy : List ℕ → Type 0
Tidy script = TidyLines 1 None (lines_of script)

-- whether a request obtains areas
abbrev pub is_obtain : Request → Bool
is_obtain (request.Obtain form n ask) = true
is_obtain (request.ObtainList form n lengths start) = true
is_obtain _ = false

-- A variable request has its largest length.
abbrev pub HasLargest : Request → Reply → Type 0
HasLargest (request.Obtain form n ask) reply = (p : PlaceValue) → reply ≡ Obtained p → p.len ≡ round8 ask.most
HasLargest _ reply = Unit {0}

-- The request was not refused for want of a place, and has its largest length.
pub record IsInFull (r : Request) (reply : Reply) : Type 0 where
  pub answered : is_obtain r ≡ true → reply ≢ Rc4
  pub no_abend : (f : Family) (fallen : List Name) → reply ≢ Abended (short f) fallen
  pub largest : HasLargest r reply

-- the same as a condition of a step
abbrev pub InFull : Condition
InFull old t r reply new = IsInFull r reply

-- A run of the script in which each request is granted in full may have these events, and end so.
abbrev pub IsRunInFull : List ℕ → List Event → Outcome → Type 0
IsRunInFull script events outcome = Walks (job_machine InFull) (JobEnds (job_machine InFull) outcome) 1 None (lines_of script) events

-- The text is the printing of a run of the script that was granted in full.
abbrev pub IsPrintingInFull : List ℕ → List ℕ → Outcome → Type 0
IsPrintingInFull script text outcome = (events : List Event) × IsRunInFull script events outcome × (text ≡ printing events)

-- Areas have whole doublewords; there are bytes only inside of areas, and names only of areas.
pub record IsLabels (m : Labels) : Type 0 where
  pub whole : (l : ℕ) → m.len l % 8 ≡ 0
  pub inside : (l i b : ℕ) → m.byte l i ≡ Some b → (l < m.count) × (i < m.len l)
  pub named : (name : Name) (l : ℕ) → get m.names name ≡ Some l → l < m.count

-- The state and the labels are linked: there are no pools, and the tasks with what they own are the same. Each label has a
-- base address on a doubleword, so that no two offsets that are there fall on one address; what is held and the bytes are
-- just these offsets, with their labels' subpools and bytes; and the place of a name is its label's.
pub record Link (job : JobValue) (m : Labels) : Type 0 where
  pub base : ℕ → ℕ
  pub on_doubleword : (l : ℕ) → base l % 8 ≡ 0
  pub apart : (k l i j b c : ℕ) → m.byte k i ≡ Some b → m.byte l j ≡ Some c → base k + i ≡ base l + j → (k ≡ l) × (i ≡ j)
  pub held : (l i b : ℕ) → m.byte l i ≡ Some b → get job.state.held ((base l + i) / 8) ≡ Some (plain (m.subpool l))
  pub all_held : (d : ℕ) (h : Holding) → get job.state.held d ≡ Some h → (l : ℕ) × (i : ℕ) × (base l + i ≡ 8 * d) × ((k : ℕ) → k < 8 → IsSome (m.byte l (i + k))) × (h ≡ plain (m.subpool l))
  pub bytes : (l i b : ℕ) → m.byte l i ≡ Some b → get job.state.bytes (base l + i) ≡ Some b
  pub all_bytes : (a b : ℕ) → get job.state.bytes a ≡ Some b → (l : ℕ) × (i : ℕ) × (base l + i ≡ a) × (m.byte l i ≡ Some b)
  pub names : (name : Name) → get job.names name ≡ option_map (λ l. place_at (base l) (m.len l)) (get m.names name)
  pub pools : job.state.pools ≡ empty
  pub owners : job.state.owners ≡ m.owners
  pub fill : job.state.regions.fill ≡ m.fill
  pub abended : job.abended ≡ m.abended
  pub former : job.former ≡ m.former
  pub labels : IsLabels m

-- From linked states, a tidy statement of a run that is granted in full has the same answer on both machines, and leaves linked
-- states. (In a state of a run, everything held is before the end of the regions. REPORT SP counts to there, and would miss what a
-- state that is only linked holds after it.)
abbrev pub TidyStep : Type 0
TidyStep =
    (job : JobValue) (m : Labels) (t : Name) (s : Statement) (answer : Answer) (new : JobValue)
    → IsRunning job → Link job m → IsTidy m t s → Does InFull job t s answer new
    → (later : Labels) × labels.Does m t s answer later × Link new later

-- Each run of a tidy script that is granted in full is answered what the label machine answers.
abbrev pub TidyRun : Type 0
TidyRun = (script : List ℕ) (events : List Event) (outcome : Outcome) → Tidy script → IsRunInFull script events outcome → IsLabelRun script events outcome

-- So it prints what the label machine prints.
abbrev pub TidyText : Type 0
TidyText = (script text : List ℕ) (outcome : Outcome) → Tidy script → IsPrintingInFull script text outcome → IsLabelText script text

-- The label machine answers a script in one way.
abbrev pub OneLabelRun : Type 0
OneLabelRun =
    (script : List ℕ) (one other : List Event) (o p : Outcome) → IsLabelRun script one o → IsLabelRun script other p → (one ≡ other) × (o ≡ p)

-- Two runs of a tidy script that are granted in full have the same events and end the same, wherever their areas are.
abbrev pub PlacesDoNotMatter : Type 0
PlacesDoNotMatter =
    (script : List ℕ) (one other : List Event) (o p : Outcome)
    → Tidy script → IsRunInFull script one o → IsRunInFull script other p → (one ≡ other) × (o ≡ p)

-- So they print the same.
abbrev pub PlacesAreNotPrinted : Type 0
PlacesAreNotPrinted =
    (script one other : List ℕ) (o p : Outcome) → Tidy script → IsPrintingInFull script one o → IsPrintingInFull script other p → one ≡ other
