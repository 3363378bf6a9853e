-- What the machine was asked by a line that was granted.
use Rattle.std.proofs.Common.{◌≡◌, ℕ, List, [], ◌∷◌, Option, Some, None, Bool, true, false, refl, sym, ap, subst, ◌∙◌}
use Rattle.std.specs.Prelude.{unwrap_or, option_map}
use Rattle.mvs_model.specs.declared.answer.Answer.{Answer as Short}
use Rattle.mvs_model.specs.declared.answer.Answer.TheVariants as short
use Rattle.mvs_model.specs.declared.card.Card.{Card}
use Rattle.mvs_model.specs.declared.line.Line.TheVariants as line
use Rattle.mvs_model.specs.declared.line.SourceRequest.{SourceRequest}
use Rattle.mvs_model.specs.declared.line.Statement.TheVariants as says
use Rattle.mvs_model.specs.declared.name.Name.{Name}
use Rattle.mvs_model.specs.declared.request.Request.{Request}
use Rattle.mvs_model.specs.Answers.{AnswerTo}
use Rattle.mvs_model.specs.FullAnswers.{ended_with_in, full_answer}
use Rattle.mvs_model.specs.Job.{JobValue}
use Rattle.mvs_model.specs.Reasons.{released}
use Rattle.mvs_model.specs.Resolving.{names_set}
use Rattle.mvs_job.specs.declared.walk.LineEvent.{LineEvent}
use Rattle.mvs_job.specs.declared.walk.LineEvent.TheVariants as events
use Rattle.mvs_job.specs.Granting.{is_grant, reports_grant}
use Rattle.mvs_job.specs.LineEvents.{HasRequest, KeepsRequestIn, Resolves, WalkValue, events_of_line, full_answer_in}
use Rattle.area_history.specs.Chronicles.{ResolvesAt}
use Rattle.area_history.specs.Histories.{released_by}
use Rattle.area_history.specs.Ledgers.{begun}

-- an answer that grants nothing
answers_so : (o : Option JobValue) (fallen : List Name) (u : Name) (a b : Short) → a ≡ b → is_grant (full_answer_in o fallen u b) ≡ false → is_grant (full_answer_in o fallen u a) ≡ false
answers_so o fallen u a b is none = ap (λ x. is_grant (full_answer_in o fallen u x)) is ∙ none

not_run : (o : Option JobValue) (fallen : List Name) (u : Name) → is_grant (full_answer_in o fallen u short.NotRun) ≡ false
not_run None fallen u = refl
not_run (Some job) fallen u = refl

no_name : (o : Option JobValue) (fallen : List Name) (u : Name) → is_grant (full_answer_in o fallen u short.NoName) ≡ false
no_name None fallen u = refl
no_name (Some job) fallen u = refl

-- A line that was granted has answered neither.
pub resolves_at : (number : ℕ) (w : WalkValue) (t : LineEvent) (job : JobValue) (a : SourceRequest) (asked : Request) → reports_grant (events_of_line number w t) ≡ true → ResolvesAt job a asked t → Resolves job a asked
resolves_at number w (events.Answered u x) job a asked granted h =
    h (λ is. absurd (let f : false ≡ true = sym (answers_so w.step (ended_with_in w.reply) u x short.NotRun is (not_run w.step (ended_with_in w.reply) u)) ∙ granted in cc))
    (λ is. absurd (let f : false ≡ true = sym (answers_so w.step (ended_with_in w.reply) u x short.NoName is (no_name w.step (ended_with_in w.reply) u)) ∙ granted in cc))
resolves_at number w events.Nothing job a asked granted h = absurd (let f : false ≡ true = granted in cc)
resolves_at number w (events.StepBegan None card) job a asked granted h = absurd (let f : false ≡ true = granted in cc)
resolves_at number w (events.StepBegan (Some abended) card) job a asked granted h = absurd (let f : false ≡ true = granted in cc)
resolves_at number w (events.Faulted fault) job a asked granted h = absurd (let f : false ≡ true = granted in cc)

-- The machine was asked this for the request of a line that has its request.
pub resolves_in : (w : WalkValue) (t : LineEvent) (job : JobValue) (task : Name) (a : SourceRequest) (asked : Request) → w.step ≡ Some job → w.read ≡ line.Statement task (says.Request a) → asked ≡ w.request → HasRequest w t → ResolvesAt job a asked t
resolves_in w (events.Answered u x) job task a asked step read is has =
    subst (λ r. ResolvesAt job a r (events.Answered u x)) (sym is) (subst (λ l. KeepsRequestIn (Some job) l x w.request) read (subst (λ o. KeepsRequestIn o w.read x w.request) step has))
resolves_in w events.Nothing job task a asked step read is has = tt
resolves_in w (events.StepBegan end card) job task a asked step read is has = tt
resolves_in w (events.Faulted fault) job task a asked step read is has = tt

-- No statement of a task but REGION begins a step.
answer_begins : (o : Option JobValue) (fallen : List Name) (number : ℕ) (u : Name) (x : Short) → begun (AnswerTo number u (full_answer_in o fallen u x) ∷ []) ≡ None
answer_begins None fallen number u x = refl
answer_begins (Some job) fallen number u short.NotRun = refl
answer_begins (Some job) fallen number u short.NoName = refl
answer_begins (Some job) fallen number u (short.At addr) = refl
answer_begins (Some job) fallen number u short.Rc0 = refl
answer_begins (Some job) fallen number u (short.Granted n) = refl
answer_begins (Some job) fallen number u short.Rc4 = refl
answer_begins (Some job) fallen number u short.Cell = refl
answer_begins (Some job) fallen number u short.NoCell = refl
answer_begins (Some job) fallen number u short.Attached = refl
answer_begins (Some job) fallen number u short.Ended = refl
answer_begins (Some job) fallen number u short.Done = refl
answer_begins (Some job) fallen number u (short.Data p) = refl
answer_begins (Some job) fallen number u (short.Abended code) = refl
answer_begins (Some job) fallen number u short.Subpools = refl
answer_begins (Some job) fallen number u short.Map = refl

-- A line that begins no step has begun none.
pub none_begun : (number : ℕ) (w : WalkValue) (t : LineEvent) → ((end : Option Bool) (card : Card) → t ≡ events.StepBegan end card → ⊥) → begun (events_of_line number w t) ≡ None
none_begun number w (events.Answered u x) other = answer_begins w.step (ended_with_in w.reply) number u x
none_begun number w events.Nothing other = refl
none_begun number w (events.StepBegan end card) other = absurd (other end card refl)
none_begun number w (events.Faulted fault) other = refl

-- the places that a request releases that sets no name
pub released_as : (job : JobValue) (a : SourceRequest) (asked : Request) → names_set a ≡ [] → Resolves job a asked → released asked ≡ released_by job a
released_as job a asked none h = sym (ap (λ o. unwrap_or (option_map released o) []) (h none))
