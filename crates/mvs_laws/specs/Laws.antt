-- Laws over whole runs.
use Rattle.std.specs.Prelude.{◌≡◌, ◌≢◌, ℕ, ◌+◌, ◌&&◌, Bool, true, List, [], ◌∷◌, ◌++◌, Option, Some, None, if◌then◌else◌}
use Rattle.mvs_model.specs.declared.name.Name.{Name}
use Rattle.mvs_model.specs.declared.line.Fault.{Fault}
use Rattle.mvs_model.specs.declared.line.Fault.TheVariants.{OutOfPlace}
use Rattle.mvs_model.specs.declared.outcome.Outcome.{Outcome}
use Rattle.mvs_model.specs.declared.outcome.Outcome.TheVariants.{ScriptFault}
use Rattle.mvs_model.specs.declared.request.Request.{Request}
use Rattle.mvs_model.specs.declared.request.Reply.{Reply}
use Rattle.mvs_model.specs.Storage.{PageRule}
use Rattle.mvs_model.specs.State.{State, holder}
use Rattle.mvs_model.specs.Steps.{Step}
use Rattle.mvs_model.specs.Requests.{IsRequest}
use Rattle.mvs_model.specs.WellFormed.{Apart, WellFormed}
use Rattle.mvs_model.specs.Job.{JobValue}
use Rattle.mvs_model.specs.Lines.{lines_of}
use Rattle.mvs_model.specs.Reading.{checks, first_of, is_blank_or_comment}
use Rattle.mvs_model.specs.Answers.{Event, Faulted}
use Rattle.mvs_model.specs.Runs.{IsRun, IsPrinting, IsRunning}

-- In every state of a run each page is of one subpool.
abbrev pub PagesHaveOneSubpool : Type 0
PagesHaveOneSubpool = (job : JobValue) → IsRunning job → PageRule (holder job.state)

-- In every state of a run each request has a step.
abbrev pub NeverStuck : Type 0
NeverStuck = (job : JobValue) → IsRunning job → (asker : Name) (request : Request) → IsRequest request → (reply : Reply) × ((new : State) × Step job.state asker request reply new)

-- In every state of a run the parts of pools keep apart, and there are bytes just where they may be read.
abbrev pub PartsApart : Type 0
PartsApart = (job : JobValue) → IsRunning job → Apart job.state

-- In every state of a run all of this holds.
abbrev pub StaysWellFormed : Type 0
StaysWellFormed = (job : JobValue) → IsRunning job → WellFormed job.state

-- Each script has a run, and so a printing.
abbrev pub EachIsPrinted : Type 0
EachIsPrinted = (script : List ℕ) → (text : List ℕ) × (outcome : Outcome) × IsPrinting script text outcome

-- the fault of a line with its number, or what comes later
abbrev pub fault_at : ℕ → Option Fault → Option (ℕ × Fault) → Option (ℕ × Fault)
fault_at number None later = later
fault_at number (Some fault) later = Some (number, fault)

-- The first fault of the lines from this number on, with its line. `first` is true if no statement came before. If the first
-- statement is missing, that is a fault after the last line.
abbrev pub first_fault : ℕ → Bool → List (List ℕ) → Option (ℕ × Fault)
first_fault number first [] = if first then Some (number, OutOfPlace) else None
first_fault number first (l ∷ lines) = fault_at number (first_of (checks first l)) (first_fault (number + 1) (first && is_blank_or_comment l) lines)

-- The events end in the fault, where there is one, and in no fault where there is none.
abbrev pub EndsIn : Option (ℕ × Fault) → List Event → Outcome → Type 0
EndsIn None events outcome = outcome ≢ ScriptFault
EndsIn (Some (number, fault)) events outcome = (outcome ≡ ScriptFault) × ((front : List Event) × (events ≡ front ++ Faulted number fault ∷ []))

-- Whether, where and how a script has a fault depends only on its lines.
abbrev pub SameFault : Type 0
SameFault = (script : List ℕ) (events : List Event) (outcome : Outcome) → IsRun script events outcome → EndsIn (first_fault 1 true (lines_of script)) events outcome
