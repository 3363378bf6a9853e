-- What is heard of a line, seen through a part of its observer.
use Rattle.std.proofs.Common.{◌≡◌, ◌⊎◌, ℕ, inl, inr, List, Bool, true, false, Option, Some, None, ap}
use Rattle.std.specs.Prelude.{MatchOption}
use Rattle.std.specs.Bool.{MatchBool}
use Rattle.mvs_model.specs.declared.line.Statement.{Statement}
use Rattle.mvs_model.specs.declared.line.Statement.TheVariants as says
use Rattle.mvs_model.specs.declared.name.Name.{Name}
use Rattle.mvs_model.specs.declared.reason.Shortfall.{Shortfall}
use Rattle.mvs_model.specs.declared.refusal.Refusal.{Refusal}
use Rattle.mvs_model.specs.declared.request.Request.{Request}
use Rattle.mvs_model.specs.Answers.{Answer}
use Rattle.mvs_model.specs.Job.{JobValue}
use Rattle.mvs_model.specs.FullAnswers.{ended_with_in, full_answer}
use Rattle.mvs_model.specs.Owners.{is_active}
use Rattle.mvs_model.specs.Resolving.{resolved}
use Rattle.mvs_job.specs.declared.walk.LineEvent.{LineEvent}
use Rattle.mvs_job.specs.declared.walk.LineEvent.TheVariants as line_event
use Rattle.mvs_job.specs.Observing.{Fails, Hearing, Observes, ObservesLine, Passes}
use Rattle.mvs_job.specs.LineEvents.{WalkValue}

bool_maps : {P P' Q Q' : Type 0} (b : Bool) → (P → P') → (Q → Q') → MatchBool b P Q → MatchBool b P' Q'
bool_maps true f g h = f h
bool_maps false f g h = g h

option_maps : {A P P' : Type 0} {Q Q' : A → Type 0} (v : Option A) → (P → P') → ((x : A) → Q x → Q' x) → MatchOption v P Q → MatchOption v P' Q'
option_maps None f g h = f h
option_maps (Some x) f g h = g x h

module _ {O P : Type 0} (before after : O) (part : O → P) (heard : Hearing O) (heard' : Hearing P) (maps : (job : JobValue) (t : Name) (request : Request) (refusal : Refusal) (left : Shortfall) → heard before job t request refusal left after → heard' (part before) job t request refusal left (part after)) where
  asked_part : (job : JobValue) (t : Name) (r : Request) (y : Answer) → Passes before job t r y after ⊎ Fails heard before job t r y after → Passes (part before) job t r y (part after) ⊎ Fails heard' (part before) job t r y (part after)
  asked_part job t r y (inl h) = inl (ap part h.0, h.1, h.2, h.3)
  asked_part job t r y (inr (refusal, left, refuses, lacks, failed, ends, kept)) = inr (refusal, left, refuses, lacks, failed, ends, maps job t r refusal left kept)

  statement_part : (job : JobValue) (t : Name) (s : Statement) (y : Answer) → Observes heard before job t s y after → Observes heard' (part before) job t s y (part after)
  statement_part job t (says.Request a) y h = bool_maps (is_active job.state.owners t) (λ k. option_maps (resolved job.names a) (λ same. ap part same) (λ r k. asked_part job t r y k) k) (λ same. ap part same) h
  statement_part job t (says.Region below above fill residence) y h = ap part h
  statement_part job t (says.Where name) y h = ap part h
  statement_part job t says.ReportSubpools y h = ap part h
  statement_part job t says.ReportMap y h = ap part h

  -- a part of an observer hears what the observer hears
  pub line_part : (step : Option JobValue) (line : List ℕ) (t : LineEvent) (w : WalkValue) → ObservesLine heard before step line t w after → ObservesLine heard' (part before) step line t w (part after)
  line_part step line line_event.Nothing w (of, same) = (of, ap part same)
  line_part step line (line_event.StepBegan end card) w (t, s, of, is, same) = (t, s, of, is, ap part same)
  line_part step line (line_event.Faulted fault) w same = ap part same
  line_part step line (line_event.Answered t a) w (s, job, later, of, is, new, h) = (s, job, later, of, is, new, statement_part job t s (full_answer later.state (ended_with_in w.reply) t a) h)

module _ {O P : Type 0} (before after : O) (part : O → P) (heard : Hearing O) (stays : (job : JobValue) (t : Name) (request : Request) (refusal : Refusal) (left : Shortfall) → heard before job t request refusal left after → part after ≡ part before) where
  asked_stays : (job : JobValue) (t : Name) (y : Answer) (v : Option Request) → MatchOption v (after ≡ before) (λ r. Passes before job t r y after ⊎ Fails heard before job t r y after) → part after ≡ part before
  asked_stays job t y None same = ap part same
  asked_stays job t y (Some r) (inl h) = ap part h.0
  asked_stays job t y (Some r) (inr (refusal, left, refuses, lacks, failed, ends, kept)) = stays job t r refusal left kept

  active_stays : (job : JobValue) (t : Name) (y : Answer) (v : Option Request) (b : Bool) → MatchBool b (MatchOption v (after ≡ before) (λ r. Passes before job t r y after ⊎ Fails heard before job t r y after)) (after ≡ before) → part after ≡ part before
  active_stays job t y v true h = asked_stays job t y v h
  active_stays job t y v false same = ap part same

  statement_stays : (job : JobValue) (t : Name) (s : Statement) (y : Answer) → Observes heard before job t s y after → part after ≡ part before
  statement_stays job t (says.Request a) y h = active_stays job t y (resolved job.names a) (is_active job.state.owners t) h
  statement_stays job t (says.Region below above fill residence) y h = ap part h
  statement_stays job t (says.Where name) y h = ap part h
  statement_stays job t says.ReportSubpools y h = ap part h
  statement_stays job t says.ReportMap y h = ap part h

  -- what no refusal changes stays
  pub line_stays : (step : Option JobValue) (line : List ℕ) (t : LineEvent) (w : WalkValue) → ObservesLine heard before step line t w after → part after ≡ part before
  line_stays step line line_event.Nothing w (of, same) = ap part same
  line_stays step line (line_event.StepBegan end card) w (t, s, of, is, same) = ap part same
  line_stays step line (line_event.Faulted fault) w same = ap part same
  line_stays step line (line_event.Answered t a) w (s, job, later, of, is, new, h) = statement_stays job t s (full_answer later.state (ended_with_in w.reply) t a) h
