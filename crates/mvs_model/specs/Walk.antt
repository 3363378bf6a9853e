-- The walk over the lines of a script, for any machine that serves statements.
use Rattle.std.specs.Prelude.{◌≡◌, ◌⊎◌, ℕ, ◌+◌, ◌||◌, Bool, true, false, List, [], ◌∷◌, ◌++◌, Option, Some, None, if◌then◌else◌}
use Rattle.mvs_model.specs.declared.name.Name.{Name}
use Rattle.mvs_model.specs.declared.line.Line.{Line}
use Rattle.mvs_model.specs.declared.line.Line.TheVariants as line
use Rattle.mvs_model.specs.declared.line.Statement.{Statement}
use Rattle.mvs_model.specs.declared.line.Statement.TheVariants as says
use Rattle.mvs_model.specs.declared.line.Fault.{Fault}
use Rattle.mvs_model.specs.declared.line.Fault.TheVariants.{OutOfPlace}
use Rattle.mvs_model.specs.declared.outcome.Outcome.{Outcome}
use Rattle.mvs_model.specs.declared.outcome.Outcome.TheVariants.{Clean, SomeAbend, ScriptFault}
use Rattle.mvs_model.specs.Card.{CardValue}
use Rattle.mvs_model.specs.Answers.{Answer, Region, Event, AnswerTo, StepEnded, Faulted}
use Rattle.mvs_model.specs.Lines.{card_of}
use Rattle.mvs_model.specs.Reading.{LineOf, FaultOf}

-- A machine that executes the statements of a step: how a step starts with its card and whether a task of an earlier step has
-- abended; whether a task of the step or of an earlier one has abended; and what a statement of a task, on the line with this
-- number, may answer, and the step after it.
pub record Machine (J : Type 0) : Type 1 where
  pub starts : CardValue → Bool → J
  pub abended : J → Bool
  pub former : J → Bool
  pub does : ℕ → J → Name → Statement → Answer → J → Type 0

-- whether no step has begun, so that the next statement is the first
abbrev pub is_first : {J : Type 0} → Option J → Bool
is_first None = true
is_first (Some step) = false

-- whether a task has abended so far
abbrev pub has_abended : {J : Type 0} → Machine J → Option J → Bool
has_abended m None = false
has_abended m (Some step) = m.abended step || m.former step

-- the end of the step that runs, if one does
abbrev pub ending : {J : Type 0} → Machine J → Option J → List Event
ending m None = []
ending m (Some step) = StepEnded (m.abended step) ∷ []

-- The events of a line without a fault, and the step after it. A REGION statement ends the running step and starts the next,
-- whatever tasks are active. Other statements belong to the step. Blank lines and comments have no events.
abbrev pub Serves : {J : Type 0} → Machine J → ℕ → Option J → Line → List Event → Option J → Type 0
Serves m number old line.Nothing events new = (events ≡ []) × (new ≡ old)
Serves m number old (line.Statement t (says.Region below above fill residence)) events new =
    (events ≡ ending m old ++ AnswerTo number t (Region (card_of t below above fill residence)) ∷ [])
    × (new ≡ Some (m.starts (card_of t below above fill residence) (has_abended m old)))
Serves m number None (line.Statement t s) events new = ⊥
Serves {J} m number (Some step) (line.Statement t s) events new =
    (answer : Answer) × (later : J) × m.does number step t s answer later × (events ≡ AnswerTo number t answer ∷ []) × (new ≡ Some later)

-- the events of the text of a line
abbrev pub ServesLine : {J : Type 0} → Machine J → ℕ → Option J → List ℕ → List Event → Option J → Type 0
ServesLine m number old bytes events new = (l : Line) × LineOf (is_first old) bytes l × Serves m number old l events new

-- The line, the first statement or a later one, has a fault, which is the last event.
abbrev pub Faults : ℕ → Bool → List ℕ → List Event → Type 0
Faults number first bytes events = (fault : Fault) × FaultOf first bytes fault × (events ≡ Faulted number fault ∷ [])

-- How a job ends that has no more lines: a script without a statement lacks its REGION statement.
abbrev pub Closes : {J : Type 0} → Machine J → ℕ → Option J → List Event → Outcome → Type 0
Closes m number None events outcome = (events ≡ Faulted number OutOfPlace ∷ []) × (outcome ≡ ScriptFault)
Closes m number (Some step) events outcome =
    (events ≡ StepEnded (m.abended step) ∷ []) × (outcome ≡ (if m.abended step || m.former step then SomeAbend else Clean))

-- How a walk may stop: the number of the next line, the step (or none before the first), the lines that are left, and the last
-- events.
abbrev pub Stop : Type 0 → Type 1
Stop J = ℕ → Option J → List (List ℕ) → List Event → Type 0

-- From the line with this number on, these events may happen until the walk stops: it stops before the first line, or executes it
-- and continues after it.
abbrev pub Walks : {J : Type 0} → Machine J → Stop J → ℕ → Option J → List (List ℕ) → List Event → Type 0
Walks m stops number old [] events = stops number old [] events
Walks {J} m stops number old (l ∷ lines) events =
    stops number old (l ∷ lines) events
    ⊎ ((mid : Option J) × (first : List Event) × (rest : List Event)
    × ServesLine m number old l first mid × (events ≡ first ++ rest) × Walks m stops (number + 1) mid lines rest)

-- A job ends so at a line with a fault, or after the last line.
abbrev pub JobEnds : {J : Type 0} → Machine J → Outcome → Stop J
JobEnds m outcome number old [] events = Closes m number old events outcome
JobEnds m outcome number old (l ∷ lines) events = Faults number (is_first old) l events × (outcome ≡ ScriptFault)

-- All the lines are executed, and this is the step after them.
abbrev pub Arrives : {J : Type 0} → Option J → Stop J
Arrives new number old [] events = (events ≡ []) × (new ≡ old)
Arrives new number old (l ∷ lines) events = ⊥

-- The lines from this number on have no fault, and may lead from one step to another.
abbrev pub Leads : {J : Type 0} → Machine J → ℕ → Option J → List (List ℕ) → List Event → Option J → Type 0
Leads m number old lines events new = Walks m (Arrives new) number old lines events
