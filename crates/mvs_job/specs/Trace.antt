-- A trace: what a run of a script does, an entry for each line, and one for the end.
use Rattle.std.specs.Prelude.{◌≡◌, ◌⊎◌, ℕ, ◌+◌, List, [], ◌∷◌, take, Option, None}
use Rattle.std.specs.List.{flat_map}
use Rattle.mvs_model.specs.declared.line.Line.{Line}
use Rattle.mvs_model.specs.declared.line.Fault.{Fault}
use Rattle.mvs_model.specs.declared.outcome.Outcome.{Outcome}
use Rattle.mvs_model.specs.declared.outcome.Outcome.TheVariants.{ScriptFault}
use Rattle.mvs_model.specs.Answers.{Event, Faulted}
use Rattle.mvs_model.specs.Job.{JobValue}
use Rattle.mvs_model.specs.Lines.{lines_of}
use Rattle.mvs_model.specs.Memory.{TakesMemory}
use Rattle.mvs_model.specs.Reading.{LineOf, FaultOf}
use Rattle.mvs_model.specs.Runs.{IsRun, machine}
use Rattle.mvs_model.specs.Walk.{Closes, Serves, is_first}

-- What an entry is of: a line that was executed, and what it says; a line with a fault; the end of the script; or a line at whose
-- answer memory was exhausted.
pub data Kind : Type 0 where
  Executed : Line → Kind
  Faulty : Fault → Kind
  Closed : Kind
  Exhausted : Line → Kind

-- One entry: the number of the line, its bytes, what it is of, its events, and the step before it and after it.
pub record Entry : Type 0 where
  pub number : ℕ
  pub bytes : List ℕ
  pub kind : Kind
  pub events : List Event
  pub before : Option JobValue
  pub after : Option JobValue

-- The entry is of a line that is executed.
abbrev pub IsExecuted : ℕ → Option JobValue → List ℕ → Entry → Type 0
IsExecuted number old line e =
    (said : Line) × (events : List Event) × (new : Option JobValue) × LineOf (is_first old) line said × Serves machine number old said events new
    × (e ≡ record { number = number; bytes = line; kind = Executed said; events = events; before = old; after = new })

-- The entry is of a line with a fault. Of a line that is too long it has the first 256 bytes.
abbrev pub IsFaulty : ℕ → Option JobValue → List ℕ → Entry → Type 0
IsFaulty number old line e =
    (fault : Fault) × FaultOf (is_first old) line fault
    × (e ≡ record { number = number; bytes = take 256 line; kind = Faulty fault; events = Faulted number fault ∷ []; before = old; after = old })

-- The entry is of a line at whose answer memory is exhausted.
abbrev pub IsExhausted : ℕ → Option JobValue → List ℕ → Entry → Type 0
IsExhausted number old line e =
    (said : Line) × (events : List Event) × LineOf (is_first old) line said × TakesMemory old said events
    × (e ≡ record { number = number; bytes = line; kind = Exhausted said; events = events; before = old; after = None })

-- The entry is of the end of the script, and the job ends so.
abbrev pub IsClosed : ℕ → Option JobValue → Outcome → Entry → Type 0
IsClosed number old outcome e =
    (events : List Event) × Closes machine number old events outcome
    × (e ≡ record { number = number; bytes = []; kind = Closed; events = events; before = old; after = None })

-- How a trace stops: the job ends so; memory is exhausted; or all lines are executed, and this is the step after them.
pub data Ending : Type 0 where
  Ends : Outcome → Ending
  Exhausts : Ending
  Arrives : Option JobValue → Ending

-- The entries with which a trace stops, before these lines.
abbrev pub Stops : Ending → ℕ → Option JobValue → List (List ℕ) → List Entry → Type 0
Stops (Ends outcome) number old [] entries = (e : Entry) × IsClosed number old outcome e × (entries ≡ e ∷ [])
Stops (Ends outcome) number old (l ∷ lines) entries = (e : Entry) × IsFaulty number old l e × (entries ≡ e ∷ []) × (outcome ≡ ScriptFault)
Stops Exhausts number old [] entries = ⊥
Stops Exhausts number old (l ∷ lines) entries = (e : Entry) × IsExhausted number old l e × (entries ≡ e ∷ [])
Stops (Arrives new) number old [] entries = (entries ≡ []) × (new ≡ old)
Stops (Arrives new) number old (l ∷ lines) entries = ⊥

-- From the line with this number on these entries may follow: the trace stops, or the line is executed, and the trace continues
-- after it.
abbrev pub Traces : Ending → ℕ → Option JobValue → List (List ℕ) → List Entry → Type 0
Traces how number old [] entries = Stops how number old [] entries
Traces how number old (l ∷ lines) entries =
    Stops how number old (l ∷ lines) entries
    ⊎ ((e : Entry) × (rest : List Entry) × IsExecuted number old l e × (entries ≡ e ∷ rest) × Traces how (number + 1) e.after lines rest)

-- A run of the script may have these entries, and stop so.
abbrev pub IsTrace : List ℕ → List Entry → Ending → Type 0
IsTrace script entries how = Traces how 1 None (lines_of script) entries

-- the step after some entries that come after this step
abbrev pub step_from : Option JobValue → List Entry → Option JobValue
step_from step [] = step
step_from step (e ∷ entries) = step_from e.after entries

-- the step after the first entries of a trace; none before the first of them
abbrev pub step_after : List Entry → Option JobValue
step_after entries = step_from None entries

-- the events of a trace
abbrev pub events_of : List Entry → List Event
events_of entries = flat_map (λ e. e.events) entries

-- ---- laws

-- The events of a trace are those of a run.
abbrev pub TracesAreRuns : Type 0
TracesAreRuns = (script : List ℕ) (entries : List Entry) (outcome : Outcome) → IsTrace script entries (Ends outcome) → IsRun script (events_of entries) outcome

-- Each run is that of a trace.
abbrev pub RunsHaveTraces : Type 0
RunsHaveTraces = (script : List ℕ) (events : List Event) (outcome : Outcome) → IsRun script events outcome → (entries : List Entry) × IsTrace script entries (Ends outcome) × (events ≡ events_of entries)
