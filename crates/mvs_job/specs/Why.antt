-- Why a line is not executed as it asks.
use Rattle.std.specs.Prelude.{◌≡◌, ◌⊎◌, Bool, false, not, List, [], ◌∷◌, ℕ, Option, Some, None, MatchOption, is_some}
use Rattle.std.specs.Option.{option_map}
use Rattle.std.specs.Bool.{MatchBool}
use Rattle.std.specs.FinMap.{get}
use Rattle.mvs_model.specs.declared.name.Name.{Name}
use Rattle.mvs_model.specs.declared.line.Line.{Line}
use Rattle.mvs_model.specs.declared.line.Line.TheVariants as line
use Rattle.mvs_model.specs.declared.line.Statement.{Statement}
use Rattle.mvs_model.specs.declared.line.Statement.TheVariants as says
use Rattle.mvs_model.specs.declared.line.Fault.{Fault}
use Rattle.mvs_model.specs.declared.line.SourceRequest.{SourceRequest}
use Rattle.mvs_model.specs.declared.line.SourceRequest.TheVariants as written
use Rattle.mvs_model.specs.declared.refusal.Consequence.TheVariants.{Abend}
use Rattle.mvs_model.specs.declared.refusal.Refusal.{Refusal}
use Rattle.mvs_model.specs.declared.code.Code.{Code}
use Rattle.mvs_model.specs.declared.answer.Answer.{Answer as Short}
use Rattle.mvs_model.specs.declared.answer.Answer.TheVariants as short
use Rattle.mvs_model.specs.declared.request.Request.{Request}
use Rattle.mvs_model.specs.declared.request.Request.TheVariants.{Return}
use Rattle.mvs_model.specs.declared.reason.Reason.{Reason}
use Rattle.mvs_model.specs.declared.reason.Reason.TheVariants.{NotActive}
use Rattle.mvs_model.specs.declared.reason.LineReason.{LineReason}
use Rattle.mvs_model.specs.declared.reason.LineReason.TheVariants.{NotSet, Refused}
use Rattle.mvs_model.specs.Answers.{Event, AnswerTo}
use Rattle.mvs_model.specs.Consequences.{reply_to}
use Rattle.mvs_model.specs.Job.{JobValue}
use Rattle.mvs_model.specs.Owners.{is_active}
use Rattle.mvs_model.specs.Reading.{LineOf, FaultOf}
use Rattle.mvs_model.specs.Reasons.{Explains, IsReason}
use Rattle.mvs_model.specs.Resolving.{first_unset, looked_up, resolved}
use Rattle.request_forms.specs.Facts.{owned_subpools}
use Rattle.request_forms.specs.declared.facts.OwnedSubpool.{OwnedSubpool}
use Rattle.mvs_job.specs.declared.walk.LineEvent.{LineEvent}
use Rattle.mvs_job.specs.declared.walk.LineEvent.TheVariants as line_event
use Rattle.mvs_job.specs.declared.why.Why.{Why}
use Rattle.mvs_job.specs.Observing.{is_refusal}

-- the request that a reason refers to; none if no request is made
abbrev pub spoken : Option Request → Request
spoken None = Return
spoken (Some request) = request

-- the reason of a line whose request is refused
abbrev pub refused : Option Reason → Option LineReason
refused = option_map (λ reason. Refused reason)

-- Why a request is refused whose names are looked up: where one is not set, this is the reason.
abbrev pub OfRequest : JobValue → Name → SourceRequest → Option Request → Option LineReason → Type 0
OfRequest job t a None r = r ≡ option_map (λ name. NotSet name) (first_unset job.names (looked_up a))
OfRequest job t a (Some request) r = (reason : Option Reason) × IsReason job.state t request reason × (r ≡ refused reason)

-- Why an active task's statement is refused: a report never is, and the question after a name where it is not set.
abbrev pub OfActiveStatement : JobValue → Name → Statement → Option LineReason → Type 0
OfActiveStatement job t (says.Request a) r = OfRequest job t a (resolved job.names a) r
OfActiveStatement job t (says.Where name) r = MatchOption (get job.names name) (r ≡ Some (NotSet name)) (λ _. r ≡ None)
OfActiveStatement job t (says.Region below above fill residence) r = r ≡ None
OfActiveStatement job t says.ReportSubpools r = r ≡ None
OfActiveStatement job t says.ReportMap r = r ≡ None

-- Why a task's statement is refused: the task is not active, or for what it says.
abbrev pub OfStatement : JobValue → Name → Statement → Option LineReason → Type 0
OfStatement job t s r = MatchBool (not (is_active job.state.owners t)) (r ≡ Some (Refused NotActive)) (OfActiveStatement job t s r)

-- Why a line is refused: REGION is of no step, and so never is.
abbrev pub OfLine : JobValue → Line → Option LineReason → Type 0
OfLine job line.Nothing r = r ≡ None
OfLine job (line.Statement t (says.Region below above fill residence)) r = r ≡ None
OfLine job (line.Statement t (says.Request a)) r = OfStatement job t (says.Request a) r
OfLine job (line.Statement t (says.Where name)) r = OfStatement job t (says.Where name) r
OfLine job (line.Statement t says.ReportSubpools) r = OfStatement job t says.ReportSubpools r
OfLine job (line.Statement t says.ReportMap) r = OfStatement job t says.ReportMap r

-- whether the events of a line say that it was refused
abbrev pub reports_refusal : List Event → Bool
reports_refusal (AnswerTo number t answer ∷ []) = is_refusal answer
reports_refusal _ = false

-- Why the line that was read as this is refused, which has these events: there is a reason just where they say so.
abbrev pub OfRead : JobValue → Line → List Event → Option LineReason → Type 0
OfRead job l events r = OfLine job l r × (is_some r ≡ reports_refusal events)

-- Why the line of this text is refused, which has these events; a line with a fault is not executed, so it has no reason.
abbrev pub OfBytes : JobValue → List ℕ → List Event → Option LineReason → Type 0
OfBytes job bytes events r = ((l : Line) × LineOf false bytes l × OfRead job l events r) ⊎ ((fault : Fault) × FaultOf false bytes fault × (r ≡ None))

-- The reason of the next line of a job, which has these events: before its first step nothing is refused.
abbrev pub OfNext : Option JobValue → List ℕ → List Event → Option LineReason → Type 0
OfNext None bytes events r = r ≡ None
OfNext (Some job) bytes events r = OfBytes job bytes events r

-- ---- what calls do

-- What is kept of a refusal that is heard of: the reason, the request, and the subpools, if the task ends.
pub record KeepsWhy (old : Why) (job : JobValue) (t : Name) (request : Request) (refusal : Refusal) (new : Why) : Type 0 where
  pub before : new.before ≡ old.before
  pub reason : Reason
  pub found : new.reason ≡ Some reason
  pub explains : Explains job.state t request refusal reason
  pub asks : new.request ≡ request
  pub subpools : (code : Code) → reply_to request refusal ≡ Abend code → new.subpools ≡ owned_subpools job.state t

-- The subpools are those that the tasks of the step own, before a line in which a task returns.
abbrev pub IsSurvey : Option JobValue → Line → List OwnedSubpool → Type 0
IsSurvey step read subpools = (job : JobValue) → step ≡ Some job → (t : Name) → read ≡ line.Statement t (says.Request written.Return) → subpools ≡ owned_subpools job.state t

-- the name that is not set in a line
abbrev pub unset_in : JobValue → Line → Option Name
unset_in job (line.Statement t (says.Request a)) = first_unset job.names (looked_up a)
unset_in job (line.Statement t (says.Where name)) = Some name
unset_in job (line.Statement t (says.Region below above fill residence)) = None
unset_in job (line.Statement t says.ReportSubpools) = None
unset_in job (line.Statement t says.ReportMap) = None
unset_in job line.Nothing = None

-- the same in a step, if there is one
abbrev pub unset_of : Option JobValue → Line → Option LineReason
unset_of None l = None
unset_of (Some job) l = option_map (λ name. NotSet name) (unset_in job l)

-- why a line that was answered so was not executed as it asks, where this was heard of its refusal
abbrev pub answer_reason : Option JobValue → Line → Option Reason → Short → Option LineReason
answer_reason step l reason short.NotRun = Some (Refused NotActive)
answer_reason step l reason short.NoName = unset_of step l
answer_reason step l reason (short.At addr) = refused reason
answer_reason step l reason short.Rc0 = refused reason
answer_reason step l reason (short.Granted n) = refused reason
answer_reason step l reason short.Rc4 = refused reason
answer_reason step l reason short.Cell = refused reason
answer_reason step l reason short.NoCell = refused reason
answer_reason step l reason short.Attached = refused reason
answer_reason step l reason short.Ended = refused reason
answer_reason step l reason short.Done = refused reason
answer_reason step l reason (short.Data p) = refused reason
answer_reason step l reason (short.Abended code) = refused reason
answer_reason step l reason short.Subpools = refused reason
answer_reason step l reason short.Map = refused reason

-- the same by what the line led to
abbrev pub line_reason : Option JobValue → Line → Option Reason → LineEvent → Option LineReason
line_reason step l reason (line_event.Answered t answer) = answer_reason step l reason answer
line_reason step l reason line_event = None
