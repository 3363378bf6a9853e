-- The entry of a line that was parsed and has no fault.
use Rattle.std.proofs.Common.{◌≡◌, ℕ, List, ◌∷◌, ◌++◌, [], Option, Some, None, Result, Ok, Err, inl, sym, subst, ◌∙◌}
use Rattle.mvs_model.specs.declared.line.Fault.{Fault}
use Rattle.mvs_model.specs.declared.line.Line.{Line}
use Rattle.mvs_model.specs.Job.{JobValue}
use Rattle.mvs_model.specs.Reading.{LineOf}
use Rattle.mvs_model.specs.Walk.{is_first}
use Rattle.mvs_model.proofs.Tests.{none_some}
use Rattle.mvs_job.specs.declared.printing.Stop.{Stop}
use Rattle.mvs_job.specs.declared.walk.LineEvent.{LineEvent}
use Rattle.mvs_job.specs.declared.walk.LineEvent.TheVariants as line_event
use Rattle.mvs_job.specs.Consuming.{Accepts, Known, Piece, RunsEntry}
use Rattle.mvs_job.specs.LineEvents.{ServesAs, WalkValue}
use Rattle.mvs_job.specs.Observing.{Hearing}
use Rattle.mvs_job.specs.Trace.{Entry, IsExecuted}
use Rattle.mvs_job.proofs.Accepting.{entry_stopped}
use Rattle.terminal_session.specs.Steps.{continued}

pub not_faulted : (w w' : WalkValue) (line : List ℕ) (l : Line) → LineOf (is_first w.step) line l → (t : LineEvent) → ServesAs w line t w' → (fault : Fault) → t ≡ line_event.Faulted fault → ⊥
not_faulted w w' line l is t serves fault e = let f = subst (λ t. ServesAs w line t w') e serves in none_some (sym is.no_fault ∙ f.0)

module _ (piece : Piece) {S : Type 0} (heard : Hearing S) (sees : S → Option JobValue → Line → Type 0) (knows : Known S) (before after : Option (List ℕ)) (s s' mid : S) (w w' : WalkValue) (line : List ℕ) (n : ℕ) (t : LineEvent) (history : List Entry) where
  pub entry_continues : (r : Result (Unit {0}) Stop) (e : Entry) → IsExecuted w.number w.step line e → e.after ≡ w'.step → Accepts piece knows before after s' history e r → RunsEntry piece knows before after w line w' history s' (continued r)
  entry_continues (Ok x) e is to (may, known) = (e, is, to, may, known)
  entry_continues (Err why) e is to h = entry_stopped piece heard sees knows before after s s' mid w w' line n t history (Unit {0}) why e (inl is) h
