-- The runs of a job: what its statements may be answered, and the printing of that.
use Rattle.std.specs.Prelude.{◌≡◌, ◌<◌, ℕ, ◌||◌, not, List, ◌++◌, length, Option, Some, None}
use Rattle.std.specs.Bool.{MatchBool}
use Rattle.std.specs.List.{AllByRecursion}
use Rattle.std.specs.FinMap.{get}
use Rattle.mvs_model.specs.declared.name.Name.{Name}
use Rattle.mvs_model.specs.declared.line.Statement.{Statement}
use Rattle.mvs_model.specs.declared.line.Statement.TheVariants as says
use Rattle.mvs_model.specs.declared.line.SourceRequest.{SourceRequest}
use Rattle.mvs_model.specs.declared.outcome.Outcome.{Outcome}
use Rattle.mvs_model.specs.declared.request.Request.{Request}
use Rattle.mvs_model.specs.declared.request.Reply.{Reply}
use Rattle.mvs_model.specs.Owners.{is_active}
use Rattle.mvs_model.specs.State.{State}
use Rattle.mvs_model.specs.Steps.{Step}
use Rattle.mvs_model.specs.Answers.{Answer, NotRun, NoName, Subpools, Map, Event}
use Rattle.mvs_model.specs.Reports.{subpool_lines_of, page_map}
use Rattle.mvs_model.specs.Texts.{printing}
use Rattle.mvs_model.specs.Lines.{lines_of, ended_text, IsUnended}
use Rattle.mvs_model.specs.Resolving.{resolved, names_set, places_in, all_set}
use Rattle.mvs_model.specs.Replies.{is_abend, answer_of, where_answer}
use Rattle.mvs_model.specs.Job.{JobValue, job_at}
use Rattle.mvs_model.specs.Walk.{Machine, Walks, JobEnds, Leads}

-- What may be asked of the step of a request: of the old state, the task, the request, its reply and the new state.
abbrev pub Condition : Type 1
Condition = State → Name → Request → Reply → State → Type 0

-- The request is made, by a step that meets the condition. Its reply is the answer, and a grant sets its names.
pub record Makes (P : Condition) (old : JobValue) (t : Name) (a : SourceRequest) (r : Request) (answer : Answer) (new : JobValue) : Type 0 where
  pub reply : Reply
  pub step : Step old.state t r reply new.state
  pub meets : P old.state t r reply new.state
  pub names : new.names ≡ all_set old.names (names_set a) (places_in reply)
  pub abended : new.abended ≡ (old.abended || is_abend reply)
  pub former : new.former ≡ old.former
  pub answer_is : answer ≡ answer_of old.state a r reply

-- An answer that changes nothing.
abbrev pub OnlyAnswers : JobValue → Answer → Answer → JobValue → Type 0
OnlyAnswers old expected answer new = (answer ≡ expected) × (new ≡ old)

-- What a request may be answered: a name in it is not set, or it is made.
abbrev pub Asks : Condition → JobValue → Name → SourceRequest → Option Request → Answer → JobValue → Type 0
Asks P old t a None answer new = OnlyAnswers old NoName answer new
Asks P old t a (Some r) answer new = Makes P old t a r answer new

-- What a statement of an active task may be answered.
abbrev pub AnswersTo : Condition → JobValue → Name → Statement → Answer → JobValue → Type 0
AnswersTo P old t (says.Region below above fill residence) answer new = ⊥
AnswersTo P old t (says.Request a) answer new = Asks P old t a (resolved old.names a) answer new
AnswersTo P old t (says.Where name) answer new = OnlyAnswers old (where_answer (get old.names name)) answer new
AnswersTo P old t says.ReportSubpools answer new = OnlyAnswers old (Subpools (subpool_lines_of old.state t)) answer new
AnswersTo P old t says.ReportMap answer new = OnlyAnswers old (Map (page_map old.state)) answer new

-- What a statement of a task may be answered, which is not REGION.
abbrev pub Does : Condition → JobValue → Name → Statement → Answer → JobValue → Type 0
Does P old t s answer new = MatchBool (not (is_active old.state.owners t)) (OnlyAnswers old NotRun answer new) (AnswersTo P old t s answer new)

-- the machine of a job whose requests meet a condition, which may be another one in each line
abbrev pub machine_where : (ℕ → Condition) → Machine JobValue
machine_where P = record { starts = job_at; abended = λ job. job.abended; former = λ job. job.former; does = λ number. Does (P number) }

-- the same where it is one condition
abbrev pub job_machine : Condition → Machine JobValue
job_machine P = machine_where (λ number. P)

-- no condition
abbrev pub Any : Condition
Any old t r reply new = Unit {0}

-- the machine of a job
abbrev pub machine : Machine JobValue
machine = job_machine Any

-- A run of the script may have these events, and end so.
abbrev pub IsRun : List ℕ → List Event → Outcome → Type 0
IsRun script events outcome = Walks machine (JobEnds machine outcome) 1 None (lines_of script) events

-- The text is the printing of a run of the script, which ends so.
abbrev pub IsPrinting : List ℕ → List ℕ → Outcome → Type 0
IsPrinting script text outcome = (events : List Event) × IsRun script events outcome × (text ≡ printing events)

-- a front of such a printing
abbrev pub IsPrintingFront : List ℕ → List ℕ → Type 0
IsPrintingFront script text = (rest : List ℕ) × (outcome : Outcome) × IsPrinting script (text ++ rest) outcome

-- All lines that have ended in some bytes of a script are answered: the text is the printing of a run of them. The rest may still
-- become a line.
pub record IsAnswered (consumed text : List ℕ) : Type 0 where
  pub lines : List (List ℕ)
  pub kept : List ℕ
  pub cut : consumed ≡ ended_text lines ++ kept
  pub each : AllByRecursion IsUnended lines
  pub unended : IsUnended kept
  pub short : length kept < 256
  pub events : List Event
  pub step : Option JobValue
  pub leads : Leads machine 1 None lines events step
  pub printed : text ≡ printing events

-- In a run of a script the job may be in this step.
pub record IsRunning (job : JobValue) : Type 0 where
  pub lines : List (List ℕ)
  pub events : List Event
  pub leads : Leads machine 1 None lines events (Some job)
