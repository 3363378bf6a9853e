-- The entry of a line that a consumer accepts, after it has looked at the line and heard of its refusal.
use Rattle.std.proofs.Common.{◌≡◌, ℕ, List, inl, inr, Option, Result, Err, sym, ap, subst, ◌∙◌}
use Rattle.mvs_model.specs.declared.line.Line.{Line}
use Rattle.mvs_model.specs.Job.{JobValue}
use Rattle.mvs_job.specs.declared.printing.Stop.{Stop}
use Rattle.mvs_job.specs.declared.printing.Stop.TheVariants as stop
use Rattle.mvs_job.specs.declared.walk.LineEvent.{LineEvent}
use Rattle.mvs_job.specs.Consuming.{Accepts, AcceptsLine, IsAny, IsEntry, Known, Piece, RunsEntry}
use Rattle.mvs_job.specs.Observing.{Hearing, ObservesLine}
use Rattle.mvs_job.specs.LineEvents.{WalkValue}
use Rattle.mvs_job.specs.Trace.{Entry, step_after}

-- the step before the line of an entry
any_before : (number : ℕ) (old : Option JobValue) (line : List ℕ) (e : Entry) → IsAny number old line e → e.before ≡ old
any_before number old line e (inl (said, events, new, of, serves, is)) = ap (λ e. e.before) is
any_before number old line e (inr (inl (fault, of, is))) = ap (λ e. e.before) is
any_before number old line e (inr (inr (said, events, of, takes, is))) = ap (λ e. e.before) is

module _ (piece : Piece) {S : Type 0} (heard : Hearing S) (sees : S → Option JobValue → Line → Type 0) (knows : Known S) (before after : Option (List ℕ)) (s s' mid : S) (w w' : WalkValue) (line : List ℕ) (n : ℕ) (t : LineEvent) (history : List Entry) where
  pub accepted_at : {X : Type 0} (result : Result X Stop) (e : Entry) → AcceptsLine piece heard sees knows before after s s' n line w' t result → IsAny w.number w.step line e → IsEntry n line w' t e → w.step ≡ step_after history → sees mid w.step w'.read → ObservesLine heard mid w.step line t w' s → knows.has mid history
      → Accepts piece knows before after s' history e result
  accepted_at result e accepts is entry leads seen observed known =
      let same = any_before w.number w.step line e is in
      accepts mid history e entry (same ∙ leads) (subst (λ o. sees mid o w'.read) (sym same) seen) (subst (λ o. ObservesLine heard mid o line t w' s) (sym same) observed) known

  -- a consumer that stops
  pub entry_stopped : (X : Type 0) (why : Stop) (e : Entry) → IsAny w.number w.step line e → Accepts {X = X} piece knows before after s' history e (Err why) → RunsEntry piece knows before after w line w' history s' (Err why)
  entry_stopped X stop.Write e is (front, known) = (e, is, front, known)
  entry_stopped X stop.Memory e is ((needs, kept), known) = inr (e, is, needs, kept, known)
