-- The entries of a run, each with the number of its line in the script.
use Rattle.std.proofs.Common.{◌≡◌, ℕ, List, [], ◌∷◌, ◌++◌, map, Option, Some, None, Bool, Result, Ok, Err, refl, sym, ap, ◌∙◌, subst}
use Rattle.std.proofs.lemmas.List.{map-append}
use Rattle.mvs_model.specs.declared.line.Line.{Line}
use Rattle.mvs_model.specs.declared.line.Line.TheVariants as line
use Rattle.mvs_model.specs.declared.line.Fault.{Fault}
use Rattle.mvs_model.specs.declared.line.Statement.TheVariants as says
use Rattle.mvs_model.specs.declared.outcome.Outcome.{Outcome}
use Rattle.mvs_model.specs.declared.watched.Failed.{Failed}
use Rattle.mvs_model.specs.Answers.{Event}
use Rattle.mvs_model.specs.Job.{JobValue}
use Rattle.mvs_model.specs.Memory.{TakesMemory}
use Rattle.mvs_model.specs.Runs.{machine}
use Rattle.mvs_model.specs.Walk.{Closes, Serves, ending}
use Rattle.mvs_job.specs.declared.consumer.End.{End}
use Rattle.mvs_job.specs.declared.consumer.End.TheVariants as end
use Rattle.mvs_job.specs.declared.printing.Stop.{Stop}
use Rattle.mvs_job.specs.declared.printing.Stop.TheVariants as stop
use Rattle.mvs_job.specs.declared.walk.LineEvent.{LineEvent}
use Rattle.mvs_job.specs.declared.walk.LineEvent.TheVariants as line_event
use Rattle.mvs_job.specs.LineEvents.{WalkValue, closing, ended, events_of_line}
use Rattle.mvs_job.specs.Observing.{Hearing}
use Rattle.mvs_job.specs.Consuming.{Accepts, AcceptsEnd, AcceptsLast, AcceptsLine, EndsIn, IsEnd, IsEntry, IsOfLine, Known, Piece}
use Rattle.mvs_job.specs.Trace.{Entry, IsClosed, IsExecuted, IsExhausted, IsFaulty, step_after, step_from}
use Rattle.schedules.specs.InOrder.{knows_with_numbers, number_at, renumbered, renumbered_event, with_numbers}

module _ (numbers : List ℕ) where
  abbrev At : ℕ → ℕ
  At n = number_at numbers n

  abbrev Again : List Event → List Event
  Again events = map (renumbered_event numbers) events

  ending_again : (old : Option JobValue) → Again (ending machine old) ≡ ending machine old
  ending_again None = refl
  ending_again (Some job) = refl

  ended_again : (o : Option Bool) → Again (ended o) ≡ ended o
  ended_again None = refl
  ended_again (Some b) = refl

  answer_after : (events : List Event) (e : Event) → Again events ≡ events → Again (events ++ e ∷ []) ≡ events ++ renumbered_event numbers e ∷ []
  answer_after events e same = map-append (renumbered_event numbers) events (e ∷ []) ∙ ap (λ x. x ++ renumbered_event numbers e ∷ []) same

  serves_again : (n : ℕ) (old : Option JobValue) (said : Line) (events : List Event) (new : Option JobValue) → Serves machine n old said events new → Serves machine (At n) old said (Again events) new
  serves_again n old line.Nothing events new (none, same) = (ap Again none, same)
  serves_again n old (line.Statement t (says.Region below above fill residence)) events new (are, same) = (ap Again are ∙ answer_after (ending machine old) _ (ending_again old), same)
  serves_again n None (line.Statement t (says.Request a)) events new h = absurd h
  serves_again n None (line.Statement t (says.Where name)) events new h = absurd h
  serves_again n None (line.Statement t says.ReportSubpools) events new h = absurd h
  serves_again n None (line.Statement t says.ReportMap) events new h = absurd h
  serves_again n (Some step) (line.Statement t (says.Request a)) events new (answer, later, does, are, same) = (answer, later, does, ap Again are, same)
  serves_again n (Some step) (line.Statement t (says.Where name)) events new (answer, later, does, are, same) = (answer, later, does, ap Again are, same)
  serves_again n (Some step) (line.Statement t says.ReportSubpools) events new (answer, later, does, are, same) = (answer, later, does, ap Again are, same)
  serves_again n (Some step) (line.Statement t says.ReportMap) events new (answer, later, does, are, same) = (answer, later, does, ap Again are, same)

  executed_again : (n : ℕ) (old : Option JobValue) (l : List ℕ) (e : Entry) → IsExecuted n old l e → IsExecuted (At n) old l (renumbered numbers e)
  executed_again n old l e (said, events, new, of, serves, is) = (said, Again events, new, of, serves_again n old said events new serves, ap (renumbered numbers) is)

  faulty_again : (n : ℕ) (old : Option JobValue) (l : List ℕ) (e : Entry) → IsFaulty n old l e → IsFaulty (At n) old l (renumbered numbers e)
  faulty_again n old l e (fault, of, is) = (fault, of, ap (renumbered numbers) is)

  takes_again : (old : Option JobValue) (said : Line) (events : List Event) → TakesMemory old said events → TakesMemory old said (Again events)
  takes_again old (line.Statement t (says.Region below above fill residence)) events are = ap Again are ∙ ending_again old
  takes_again (Some job) (line.Statement t (says.Request a)) events (none, sets) = (ap Again none, sets)
  takes_again None (line.Statement t (says.Request a)) events h = absurd h
  takes_again None (line.Statement t (says.Where name)) events h = absurd h
  takes_again None (line.Statement t says.ReportSubpools) events h = absurd h
  takes_again None (line.Statement t says.ReportMap) events h = absurd h
  takes_again (Some job) (line.Statement t (says.Where name)) events h = absurd h
  takes_again (Some job) (line.Statement t says.ReportSubpools) events h = absurd h
  takes_again (Some job) (line.Statement t says.ReportMap) events h = absurd h
  takes_again None line.Nothing events h = absurd h
  takes_again (Some job) line.Nothing events h = absurd h

  exhausted_again : (n : ℕ) (old : Option JobValue) (l : List ℕ) (e : Entry) → IsExhausted n old l e → IsExhausted (At n) old l (renumbered numbers e)
  exhausted_again n old l e (said, events, of, takes, is) = (said, Again events, of, takes_again old said events takes, ap (renumbered numbers) is)

  closes_again : (n : ℕ) (old : Option JobValue) (events : List Event) (outcome : Outcome) → Closes machine n old events outcome → Closes machine (At n) old (Again events) outcome
  closes_again n None events outcome (are, o) = (ap Again are, o)
  closes_again n (Some step) events outcome (are, o) = (ap Again are, o)

  closed_again : (n : ℕ) (old : Option JobValue) (outcome : Outcome) (e : Entry) → IsClosed n old outcome e → IsClosed (At n) old outcome (renumbered numbers e)
  closed_again n old outcome e (events, closes, is) = (Again events, closes_again n old events outcome closes, ap (renumbered numbers) is)

  closing_again : (n : ℕ) (o : Option Bool) → Again (closing n o) ≡ closing (At n) o
  closing_again n None = refl
  closing_again n (Some b) = refl

  events_again : (n : ℕ) (w : WalkValue) (t : LineEvent) → Again (events_of_line n w t) ≡ events_of_line (At n) w t
  events_again n w line_event.Nothing = refl
  events_again n w (line_event.StepBegan o card) = answer_after (ended o) _ (ended_again o)
  events_again n w (line_event.Answered t a) = refl
  events_again n w (line_event.Faulted fault) = refl

  of_line_again : (t : LineEvent) (n : ℕ) (l : List ℕ) (e : Entry) → IsOfLine t n l e → IsOfLine t (At n) l (renumbered numbers e)
  of_line_again (line_event.Faulted fault) n l e is = faulty_again n e.before l e is
  of_line_again line_event.Nothing n l e is = executed_again n e.before l e is
  of_line_again (line_event.StepBegan o card) n l e is = executed_again n e.before l e is
  of_line_again (line_event.Answered t a) n l e is = executed_again n e.before l e is

  entry_again : (n : ℕ) (l : List ℕ) (w : WalkValue) (t : LineEvent) (e : Entry) → IsEntry n l w t e → IsEntry (At n) l w t (renumbered numbers e)
  entry_again n l w t e is = record { read = is.read; of_line = of_line_again t n l e is.of_line; events = ap Again is.events ∙ events_again n w t; after = is.after; request = is.request }

  end_again : (n : ℕ) (end : End) (e : Entry) → IsEnd n end e → IsEnd (At n) end (renumbered numbers e)
  end_again n (end.Closed o) e ((outcome, is), are) = ((outcome, closed_again n e.before outcome e is), ap Again are ∙ closing_again n o)
  end_again n (end.Exhausted o) e ((l, is), are) = ((l, exhausted_again n e.before l e is), ap Again are ∙ ended_again o)

  ends_in_again : (w : WalkValue) (end : End) (e : Entry) → EndsIn w end e → EndsIn w end (renumbered numbers e)
  ends_in_again w (end.Closed o) e h = h
  ends_in_again w (end.Exhausted o) e h = tt

  step_again : (step : Option JobValue) (entries : List Entry) → step_from step (map (renumbered numbers) entries) ≡ step_from step entries
  step_again step [] = refl
  step_again step (e ∷ entries) = step_again e.after entries

  module _ (piece : Piece) {S : Type 0} (knows : Known S) (before after : Option (List ℕ)) (s' : S) (history : List Entry) (e : Entry) where
    more_again : knows.has s' (map (renumbered numbers) history ++ renumbered numbers e ∷ []) → (knows_with_numbers numbers knows).has s' (history ++ e ∷ [])
    more_again h = subst (knows.has s') (sym (map-append (renumbered numbers) history (e ∷ []))) h

    accepts_again : {X : Type 0} (result : Result X Stop) → Accepts piece knows before after s' (map (renumbered numbers) history) (renumbered numbers e) result → Accepts (with_numbers numbers piece) (knows_with_numbers numbers knows) before after s' history e result
    accepts_again (Ok x) (writes, known) = (writes, more_again known)
    accepts_again (Err stop.Write) h = h
    accepts_again (Err stop.Memory) h = h

    accepts_last_again : {X : Type 0} (result : Result X Failed) → AcceptsLast piece knows before after s' (map (renumbered numbers) history) (renumbered numbers e) result → AcceptsLast (with_numbers numbers piece) (knows_with_numbers numbers knows) before after s' history e result
    accepts_last_again (Ok x) (writes, known) = (writes, more_again known)
    accepts_last_again (Err x) h = h

  -- A call for an entry with the number of the script is one for an entry of the run.
  pub line_again : (piece : Piece) {S : Type 0} (heard : Hearing S) (sees : S → Option JobValue → Line → Type 0) (knows : Known S) (before after : Option (List ℕ)) (s s' : S) (n m : ℕ) (l : List ℕ) (w : WalkValue) (t : LineEvent) {X : Type 0} (result : Result X Stop) → m ≡ number_at numbers n
      → AcceptsLine piece heard sees knows before after s s' m l w t result → AcceptsLine (with_numbers numbers piece) heard sees (knows_with_numbers numbers knows) before after s s' n l w t result
  line_again piece heard sees knows before after s s' n m l w t result is accepts = λ mid history e entry follows seen observed known.
      accepts_again piece knows before after s' history e result
      (accepts mid (map (renumbered numbers) history) (renumbered numbers e) (subst (λ k. IsEntry k l w t (renumbered numbers e)) (sym is) (entry_again n l w t e entry)) (follows ∙ sym (step_again None history)) seen observed known)

  pub last_again : (piece : Piece) {S : Type 0} (knows : Known S) (before after : Option (List ℕ)) (s s' : S) (n m : ℕ) (w : WalkValue) (end : End) {X : Type 0} (result : Result X Failed) → m ≡ number_at numbers n
      → AcceptsEnd piece knows before after s s' m w end result → AcceptsEnd (with_numbers numbers piece) (knows_with_numbers numbers knows) before after s s' n w end result
  last_again piece knows before after s s' n m w end result is accepts = λ history e entry ends follows known.
      accepts_last_again piece knows before after s' history e result
      (accepts (map (renumbered numbers) history) (renumbered numbers e) (subst (λ k. IsEnd k end (renumbered numbers e)) (sym is) (end_again n end e entry)) (ends_in_again w end e ends) (follows ∙ sym (step_again None history)) known)
