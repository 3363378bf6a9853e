-- Where a run of a script takes memory: at a REGION statement, and at a granted request that sets a name.
use Rattle.std.specs.Prelude.{◌≡◌, ◌≢◌, ℕ, List, [], ◌∷◌, Option, Some, None}
use Rattle.mvs_model.specs.declared.name.Name.{Name}
use Rattle.mvs_model.specs.declared.line.Line.{Line}
use Rattle.mvs_model.specs.declared.line.Line.TheVariants as line
use Rattle.mvs_model.specs.declared.line.Statement.TheVariants as says
use Rattle.mvs_model.specs.declared.line.SourceRequest.{SourceRequest}
use Rattle.mvs_model.specs.declared.request.Request.{Request}
use Rattle.mvs_model.specs.declared.request.Reply.{Reply}
use Rattle.mvs_model.specs.State.{State}
use Rattle.mvs_model.specs.Steps.{Step}
use Rattle.mvs_model.specs.Answers.{Event}
use Rattle.mvs_model.specs.Texts.{printing}
use Rattle.mvs_model.specs.Job.{JobValue}
use Rattle.mvs_model.specs.Lines.{lines_of}
use Rattle.mvs_model.specs.Reading.{LineOf}
use Rattle.mvs_model.specs.Resolving.{resolved, names_set, places_in}
use Rattle.mvs_model.specs.Walk.{Stop, Walks, is_first, ending}
use Rattle.mvs_model.specs.Runs.{machine}

-- The request may be granted so that a name is set.
pub record SetsName (job : JobValue) (t : Name) (a : SourceRequest) : Type 0 where
  pub request : Request
  pub reply : Reply
  pub new : State
  pub resolves : resolved job.names a ≡ Some request
  pub step : Step job.state t request reply new
  pub names : names_set a ≢ []
  pub places : places_in reply ≢ []

-- The line needs memory, and these events come before its answer: the end of the step, for a later REGION statement.
abbrev pub TakesMemory : Option JobValue → Line → List Event → Type 0
TakesMemory old (line.Statement t (says.Region below above fill residence)) events = events ≡ ending machine old
TakesMemory (Some job) (line.Statement t (says.Request a)) events = (events ≡ []) × SetsName job t a
TakesMemory old l events = ⊥

-- A walk may stop at such a line.
abbrev pub StopsForMemory : Stop JobValue
StopsForMemory number old [] events = ⊥
StopsForMemory number old (l ∷ lines) events = (said : Line) × LineOf (is_first old) l said × TakesMemory old said events

-- The text is the whole printing of a run of the script before the answer to a statement that takes memory.
abbrev pub IsPrintingBefore : List ℕ → List ℕ → Type 0
IsPrintingBefore script text = (events : List Event) × Walks machine StopsForMemory 1 None (lines_of script) events × (text ≡ printing events)
