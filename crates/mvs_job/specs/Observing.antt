-- What an observer sees of the request of a line.
use Rattle.std.specs.Prelude.{◌≡◌, ◌⊎◌, ◌||◌, ℕ, List, Option, Some, Bool, true, false, MatchOption}
use Rattle.std.specs.Bool.{MatchBool}
use Rattle.mvs_model.specs.declared.code.Code.{Code}
use Rattle.mvs_model.specs.declared.name.Name.{Name}
use Rattle.mvs_model.specs.declared.line.Line.TheVariants as line
use Rattle.mvs_model.specs.declared.line.Statement.{Statement}
use Rattle.mvs_model.specs.declared.line.Statement.TheVariants as says
use Rattle.mvs_model.specs.declared.reason.Shortfall.{Shortfall}
use Rattle.mvs_model.specs.declared.refusal.Consequence.TheVariants.{Abend}
use Rattle.mvs_model.specs.declared.refusal.Refusal.{Refusal}
use Rattle.mvs_model.specs.declared.refusal.Refusal.TheVariants.{Member}
use Rattle.mvs_model.specs.declared.request.Reply.{Reply}
use Rattle.mvs_model.specs.declared.request.Request.{Request}
use Rattle.mvs_model.specs.declared.request.Request.TheVariants.{Return}
use Rattle.mvs_model.specs.Answers.{Answer}
use Rattle.mvs_model.specs.Answers as answer
use Rattle.mvs_model.specs.Causes.{IsPassed, IsRefused}
use Rattle.mvs_model.specs.Consequences.{Settles, reply_to}
use Rattle.mvs_model.specs.Job.{JobValue}
use Rattle.mvs_model.specs.FullAnswers.{ended_with_in, full_answer}
use Rattle.mvs_model.specs.Owners.{is_active}
use Rattle.mvs_model.specs.Reading.{LineOf}
use Rattle.mvs_model.specs.Reasons.{MemberLacks}
use Rattle.mvs_model.specs.Replies.{is_abend}
use Rattle.mvs_model.specs.Resolving.{resolved}
use Rattle.mvs_model.specs.State.{State}
use Rattle.mvs_model.specs.Steps.{Does}
use Rattle.mvs_model.specs.Walk.{is_first}
use Rattle.mvs_job.specs.declared.walk.LineEvent.{LineEvent}
use Rattle.mvs_job.specs.declared.walk.LineEvent.TheVariants as line_event
use Rattle.mvs_job.specs.LineEvents.{WalkValue, region_card}

-- What an observer is after it has seen a refusal: of a task's request in a job, for something, and of what a member of a list
-- lacks.
abbrev pub Hearing : Type 0 → Type 1
Hearing O = O → JobValue → Name → Request → Refusal → Shortfall → O → Type 0

-- This is what a member of a list lacks, where the request is refused for one.
abbrev pub LeftFor : JobValue → Name → Request → Refusal → Shortfall → Type 0
LeftFor job t request refusal left = (k : ℕ) → refusal ≡ Member k → MemberLacks job.state t request k left

-- whether an answer says that a request was made and refused
abbrev pub is_failure : Answer → Bool
is_failure answer.Rc4 = true
is_failure answer.NoCell = true
is_failure (answer.Abended code fallen) = true
is_failure answer.NotRun = false
is_failure answer.NoName = false
is_failure (answer.At addr) = false
is_failure answer.Rc0 = false
is_failure (answer.Granted n) = false
is_failure answer.Cell = false
is_failure answer.Attached = false
is_failure answer.Ended = false
is_failure answer.Done = false
is_failure (answer.Data bytes) = false
is_failure (answer.Subpools lines) = false
is_failure (answer.Map runs) = false
is_failure (answer.Region card) = false

-- whether an answer is a refusal: no request was made, or it failed
abbrev pub is_refusal : Answer → Bool
is_refusal answer.NotRun = true
is_refusal answer.NoName = true
is_refusal answer.Rc4 = true
is_refusal answer.NoCell = true
is_refusal (answer.Abended code fallen) = true
is_refusal (answer.At addr) = false
is_refusal answer.Rc0 = false
is_refusal (answer.Granted n) = false
is_refusal answer.Cell = false
is_refusal answer.Attached = false
is_refusal answer.Ended = false
is_refusal answer.Done = false
is_refusal (answer.Data bytes) = false
is_refusal (answer.Subpools lines) = false
is_refusal (answer.Map runs) = false
is_refusal (answer.Region card) = false

-- whether an answer says that its task ended
abbrev pub is_end : Answer → Bool
is_end answer.Ended = true
is_end (answer.Abended code fallen) = true
is_end answer.NotRun = false
is_end answer.NoName = false
is_end (answer.At addr) = false
is_end answer.Rc0 = false
is_end (answer.Granted n) = false
is_end answer.Rc4 = false
is_end answer.Cell = false
is_end answer.NoCell = false
is_end answer.Attached = false
is_end answer.Done = false
is_end (answer.Data bytes) = false
is_end (answer.Subpools lines) = false
is_end (answer.Map runs) = false
is_end (answer.Region card) = false

-- A task's request in a job was answered so by its step: it passes and is done, and nothing is seen; or it is refused and settled,
-- and this is seen.
abbrev pub ObservesRequest : {O : Type 0} → Hearing O → O → JobValue → Name → Request → Reply → State → O → Type 0
ObservesRequest heard before job t request reply new after =
    ((after ≡ before) × IsPassed job.state t request × Does job.state t request reply new)
    ⊎ ((refusal : Refusal) × (left : Shortfall) × IsRefused job.state t request refusal × LeftFor job t request refusal left × Settles job.state t (reply_to request refusal) reply new
    × heard before job t request refusal left after)

-- The names stay, and what became of former steps; a task has abended where the reply says so.
abbrev pub KeepsNamesAndFormer : JobValue → Reply → JobValue → Type 0
KeepsNamesAndFormer old reply new = (new.names ≡ old.names) × (new.former ≡ old.former) × (new.abended ≡ (old.abended || is_abend reply))

-- A request passed, and this was not heard of; only a return ends its task then.
abbrev pub Passes : {O : Type 0} → O → JobValue → Name → Request → Answer → O → Type 0
Passes before job t request answer after = (after ≡ before) × IsPassed job.state t request × (is_refusal answer ≡ false) × (is_end answer ≡ true → request ≡ Return)

-- A request was refused, and this was heard of; its task ends only where the refusal is an abend.
abbrev pub Fails : {O : Type 0} → Hearing O → O → JobValue → Name → Request → Answer → O → Type 0
Fails heard before job t request answer after =
    (refusal : Refusal) × (left : Shortfall) × IsRefused job.state t request refusal × LeftFor job t request refusal left × (is_failure answer ≡ true)
    × (is_end answer ≡ true → (code : Code) × (reply_to request refusal ≡ Abend code)) × heard before job t request refusal left after

-- An observer of a task's statement in a job, which is answered so: it sees the request that is made, if that is refused.
abbrev pub Observes : {O : Type 0} → Hearing O → O → JobValue → Name → Statement → Answer → O → Type 0
Observes heard before job t (says.Request a) answer after =
    MatchBool (is_active job.state.owners t)
    (MatchOption (resolved job.names a) (after ≡ before) (λ r. Passes before job t r answer after ⊎ Fails heard before job t r answer after))
    (after ≡ before)
Observes heard before job t (says.Region below above fill residence) answer after = after ≡ before
Observes heard before job t (says.Where name) answer after = after ≡ before
Observes heard before job t says.ReportSubpools answer after = after ≡ before
Observes heard before job t says.ReportMap answer after = after ≡ before

-- The observer sees the request of a line of a step; a line that is not a statement makes none.
abbrev pub ObservesLine : {O : Type 0} → Hearing O → O → Option JobValue → List ℕ → LineEvent → WalkValue → O → Type 0
ObservesLine heard before step bytes line_event.Nothing new after = LineOf (is_first step) bytes line.Nothing × (after ≡ before)
ObservesLine heard before step bytes (line_event.StepBegan end card) new after = (t : Name) × (s : Statement) × LineOf (is_first step) bytes (line.Statement t s) × (region_card t s ≡ Some card) × (after ≡ before)
ObservesLine heard before step bytes (line_event.Answered t a) new after =
    (s : Statement) × (job : JobValue) × (later : JobValue) × LineOf (is_first step) bytes (line.Statement t s) × (step ≡ Some job) × (new.step ≡ Some later)
    × Observes heard before job t s (full_answer later.state (ended_with_in new.reply) t a) after
ObservesLine heard before step bytes (line_event.Faulted fault) new after = after ≡ before
