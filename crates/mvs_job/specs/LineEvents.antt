-- The events of a line, and the state of a job between two lines.
use Rattle.std.specs.Prelude.{refl, ◌≡◌, ◌≢◌, ◌≤◌, ◌⊎◌, ℕ, List, [], ◌∷◌, ◌++◌, Option, Some, None, Bool, true, false, Result, Ok, Err, MatchOption}
use Rattle.std.specs.Bool.{MatchBool}
use Rattle.std.specs.Coded.{Coded, code_by, coded×, coded_bool, coded_ℕ, coded_option}
use Rattle.std.specs.FinMap as map
use Rattle.mvs_model.specs.declared.name.Name.{Name}
use Rattle.mvs_model.specs.declared.line.Fault.{Fault}
use Rattle.mvs_model.specs.declared.line.Fault.TheVariants.{OutOfPlace}
use Rattle.mvs_model.specs.declared.line.Line.{Line}
use Rattle.mvs_model.specs.declared.line.Line.TheVariants as line
use Rattle.mvs_model.specs.declared.line.SourceRequest.{SourceRequest}
use Rattle.mvs_model.specs.declared.line.Statement.{Statement}
use Rattle.mvs_model.specs.declared.line.Statement.TheVariants as says
use Rattle.mvs_model.specs.declared.answer.Answer.{Answer as Short}
use Rattle.mvs_model.specs.declared.answer.Answer.TheVariants as short
use Rattle.mvs_model.specs.Answers.{Answer, NotRun, Region, Event, AnswerTo, StepEnded, Faulted}
use Rattle.mvs_model.specs.Card.{CardValue}
use Rattle.mvs_model.specs.Changes.{Granted}
use Rattle.mvs_model.specs.Job.{JobValue}
use Rattle.mvs_model.specs.declared.request.Reply.{Reply}
use Rattle.mvs_model.specs.declared.request.Request.{Request}
use Rattle.mvs_model.specs.declared.request.Request.TheVariants as asks
use Rattle.mvs_model.specs.declared.request.Reply.TheVariants as reply
use Rattle.mvs_model.specs.contracts.line.Line.{the_row as line_row}
use Rattle.mvs_model.specs.contracts.request.Reply.{the_row as reply_row}
use Rattle.mvs_model.specs.contracts.request.Request.{the_row as request_row}
use Rattle.mvs_model.specs.FullAnswers.{full_answer, ended_with_in}
use Rattle.mvs_model.specs.Lines.{card_of}
use Rattle.mvs_model.specs.Name.{name_cmp, name_code}
use Rattle.mvs_model.specs.Numbers.{most_shown}
use Rattle.mvs_model.specs.Place.{PlaceValue, place_code}
use Rattle.mvs_model.specs.Owners.{is_active}
use Rattle.mvs_model.specs.Reading.{FaultOf, LineOf}
use Rattle.mvs_model.specs.Resolving.{names_set, resolved}
use Rattle.mvs_model.specs.Runs.{Condition, Any, Makes, job_machine}
use Rattle.mvs_model.specs.State.{State, state_code}
use Rattle.mvs_model.specs.Walk.{ServesLine, is_first}
use Rattle.mvs_job.specs.declared.walk.OutOfMemoryAt.{OutOfMemoryAt}
use Rattle.mvs_job.specs.declared.walk.LineEvent.{LineEvent}
use Rattle.mvs_job.specs.declared.walk.LineEvent.TheVariants as line_event

-- A job between two lines: its step, none before the first; the number of the next line; what the last line says that was parsed;
-- and the last request that a line made, and the reply to the last one.
pub record WalkValue : Type 0 where
  pub step : Option JobValue
  pub number : ℕ
  pub read : Line
  pub request : Request
  pub reply : Reply

-- codes, for models' values
abbrev pub job_code : Coded JobValue
job_code = code_by (State × (map.FinMap name_cmp PlaceValue × (Bool × Bool))) (coded× state_code (coded× (map.code name_code place_code) (coded× coded_bool coded_bool))) (λ j. (j.state, (j.names, (j.abended, j.former)))) (λ p. record { state = p.0; names = p.1.0; abended = p.1.1.0; former = p.1.1.1 }) (λ _. refl)

abbrev pub walk_code : Coded WalkValue
walk_code = code_by (Option JobValue × (ℕ × (Line × (Request × Reply)))) (coded× (coded_option job_code) (coded× coded_ℕ (coded× line_row.coded (coded× request_row.coded reply_row.coded)))) (λ w. (w.step, (w.number, (w.read, (w.request, w.reply))))) (λ p. record { step = p.0; number = p.1.0; read = p.1.1.0; request = p.1.1.1.0; reply = p.1.1.1.1 }) (λ _. refl)

-- a job before its first line
abbrev pub new_walk : WalkValue
new_walk = record { step = None; number = 1; read = line.Nothing; request = asks.Return; reply = reply.NotRun }

-- the card of a REGION statement of a task
abbrev pub region_card : Name → Statement → Option CardValue
region_card t (says.Region below above fill residence) = Some (card_of t below above fill residence)
region_card t (says.Request a) = None
region_card t (says.Where name) = None
region_card t says.ReportSubpools = None
region_card t says.ReportMap = None

-- how the step ends that runs, if one does: whether a task of it has abended
abbrev pub end_of_step : Option JobValue → Option Bool
end_of_step None = None
end_of_step (Some job) = Some job.abended

-- the end of a step, if one ended
abbrev pub ended : Option Bool → List Event
ended None = []
ended (Some abended) = StepEnded abended ∷ []

-- the end of a job that has no more lines
abbrev pub closing : ℕ → Option Bool → List Event
closing number None = Faulted number OutOfPlace ∷ []
closing number (Some abended) = StepEnded abended ∷ []

-- the answer to a statement of a task, with the long data of the job; it is in a step
abbrev pub full_answer_in : Option JobValue → List Name → Name → Short → Answer
full_answer_in None fallen t a = NotRun
full_answer_in (Some job) fallen t a = full_answer job.state fallen t a

-- the events of the line with this number, after which the job is in this state
abbrev pub events_of_line : ℕ → WalkValue → LineEvent → List Event
events_of_line number w line_event.Nothing = []
events_of_line number w (line_event.StepBegan end card) = ended end ++ AnswerTo number card.name (Region card) ∷ []
events_of_line number w (line_event.Answered t a) = AnswerTo number t (full_answer_in w.step (ended_with_in w.reply) t a) ∷ []
events_of_line number w (line_event.Faulted fault) = Faulted number fault ∷ []

-- This was read of the next line, in a step or before the first: what the line says, or nothing if it has a fault.
abbrev pub IsReadIn : Option JobValue → List ℕ → Line → Type 0
IsReadIn step bytes l = LineOf (is_first step) bytes l ⊎ ((fault : Fault) × FaultOf (is_first step) bytes fault × (l ≡ line.Nothing))

-- The line has this result: it has a fault, and the step is as before; or it is executed, by a step that meets the condition if it
-- makes a request.
abbrev pub ServesAsUnder : Condition → WalkValue → List ℕ → LineEvent → WalkValue → Type 0
ServesAsUnder P old bytes (line_event.Faulted fault) new = FaultOf (is_first old.step) bytes fault × (new.step ≡ old.step)
ServesAsUnder P old bytes line_event new = ServesLine (job_machine P) old.number old.step bytes (events_of_line old.number new line_event) new.step

-- the same with no condition
abbrev pub ServesAs : WalkValue → List ℕ → LineEvent → WalkValue → Type 0
ServesAs = ServesAsUnder Any

-- The step's reply is this one.
abbrev pub Replies : Reply → Condition
Replies kept old t r answered new = answered ≡ kept

-- The reply that is kept after a statement of a task: that of the step if the statement makes a request, because the task is active
-- and all its names are set; otherwise the one before.
abbrev pub KeepsReply : JobValue → Name → Statement → Reply → Answer → Reply → JobValue → Type 0
KeepsReply old t (says.Request a) before answer reply new =
    MatchBool (is_active old.state.owners t) (MatchOption (resolved old.names a) (reply ≡ before) (λ r. Makes (Replies reply) old t a r answer new)) (reply ≡ before)
KeepsReply old t (says.Region below above fill residence) before answer reply new = reply ≡ before
KeepsReply old t (says.Where name) before answer reply new = reply ≡ before
KeepsReply old t says.ReportSubpools before answer reply new = reply ≡ before
KeepsReply old t says.ReportMap before answer reply new = reply ≡ before

-- The reply that is kept after a line: one that is not a statement of a step makes no request.
abbrev pub KeepsReplyOf : WalkValue → List ℕ → LineEvent → WalkValue → Type 0
KeepsReplyOf old bytes (line_event.Answered t a) new =
    (s : Statement) × (job : JobValue) × (later : JobValue) × LineOf (is_first old.step) bytes (line.Statement t s) × (old.step ≡ Some job) × (new.step ≡ Some later)
    × KeepsReply job t s old.reply (full_answer later.state (ended_with_in new.reply) t a) new.reply later
KeepsReplyOf old bytes line_event new = new.reply ≡ old.reply

-- The machine was asked this, for a request that sets no name.
abbrev pub Resolves : JobValue → SourceRequest → Request → Type 0
Resolves job a asked = names_set a ≡ [] → resolved job.names a ≡ Some asked

-- The request that is kept after a statement: the one that was made, if the task was active and all its names were set.
abbrev pub KeepsRequest : JobValue → Statement → Short → Request → Type 0
KeepsRequest new (says.Request a) answer kept = answer ≢ short.NotRun → answer ≢ short.NoName → Resolves new a kept
KeepsRequest new (says.Region below above fill residence) answer kept = Unit {0}
KeepsRequest new (says.Where name) answer kept = Unit {0}
KeepsRequest new says.ReportSubpools answer kept = Unit {0}
KeepsRequest new says.ReportMap answer kept = Unit {0}

-- The same for a line that says this, in a step.
abbrev pub KeepsRequestIn : Option JobValue → Line → Short → Request → Type 0
KeepsRequestIn (Some new) (line.Statement t s) answer kept = KeepsRequest new s answer kept
KeepsRequestIn (Some new) line.Nothing answer kept = Unit {0}
KeepsRequestIn None said answer kept = Unit {0}

-- The job has the request of its last line.
abbrev pub HasRequest : WalkValue → LineEvent → Type 0
HasRequest w (line_event.Answered t a) = KeepsRequestIn w.step w.read a w.request
HasRequest w _ = Unit {0}

-- The bytes of an answer can be read, and are few.
abbrev pub IsAvailableIn : State → Short → Type 0
IsAvailableIn st (short.Data p) = Granted st p × (p.len ≤ most_shown)
IsAvailableIn st short.NotRun = Unit {0}
IsAvailableIn st short.NoName = Unit {0}
IsAvailableIn st (short.At addr) = Unit {0}
IsAvailableIn st short.Rc0 = Unit {0}
IsAvailableIn st (short.Granted n) = Unit {0}
IsAvailableIn st short.Rc4 = Unit {0}
IsAvailableIn st short.Cell = Unit {0}
IsAvailableIn st short.NoCell = Unit {0}
IsAvailableIn st short.Attached = Unit {0}
IsAvailableIn st short.Ended = Unit {0}
IsAvailableIn st short.Done = Unit {0}
IsAvailableIn st (short.Abended code) = Unit {0}
IsAvailableIn st short.Subpools = Unit {0}
IsAvailableIn st short.Map = Unit {0}

-- A step has the long data of an answer.
abbrev pub IsAvailable : WalkValue → LineEvent → Type 0
IsAvailable w (line_event.Answered t a) = (job : JobValue) × (w.step ≡ Some job) × IsAvailableIn job.state a
IsAvailable w _ = Unit {0}

-- whether a job continues after a line
abbrev pub continues : Result LineEvent OutOfMemoryAt → Bool
continues (Ok (line_event.Faulted fault)) = false
continues (Ok line_event) = true
continues (Err stopped) = false
