-- What becomes of a walk by a request that is given by values, and by bytes that are written.
use Rattle.std.proofs.Common.{◌≡◌, ℕ, Bool, true, false, List, Option, Some, None, refl, sym, subst}
use Rattle.mvs_model.specs.declared.line.Line.{Line}
use Rattle.mvs_model.specs.declared.name.Name.{Name}
use Rattle.mvs_model.specs.declared.request.Request.{Request}
use Rattle.mvs_model.specs.declared.request.Reply.{Reply}
use Rattle.mvs_model.specs.Job.{JobValue}
use Rattle.mvs_model.specs.Place.{PlaceValue}
use Rattle.mvs_job.specs.LineEvents.{WalkValue}
use Rattle.mvs_job.specs.Observing.{Hearing, ObservesRequest}
use Rattle.mvs_job.specs.Valued.{MayWrite, ObservesValues, Requests, RequestsOf, WritesOf}

module _ (step : Option JobValue) (number : ℕ) (read : Line) (asked : Request) (before : Reply) where
  abbrev old : WalkValue
  old = record { step = step; number = number; read = read; request = asked; reply = before }

  pub requested : (t : Name) (r : Request) (reply : Reply) (job later : JobValue) → step ≡ Some job → Requests job t r reply later
      → RequestsOf old t r true (record { step = Some later; number = number; read = read; request = asked; reply = reply })
  requested t r reply job later e h = subst (λ o. RequestsOf (record { step = o; number = number; read = read; request = asked; reply = before }) t r true (record { step = Some later; number = number; read = read; request = asked; reply = reply })) (sym e) (refl, refl, (later, refl, h))

  pub observed : {O : Type 0} (heard : Hearing O) (before after : O) (t : Name) (r : Request) (reply : Reply) (job later : JobValue) → step ≡ Some job → ObservesRequest heard before job t r reply later.state after
      → ObservesValues heard before step t r (record { step = Some later; number = number; read = read; request = asked; reply = reply }) after
  observed heard before after t r reply job later e h = subst (λ o. ObservesValues heard before o t r (record { step = Some later; number = number; read = read; request = asked; reply = reply }) after) (sym e) (later, refl, h)

  pub wrote : (p : PlaceValue) (bytes : List ℕ) (written : Bool) (job later : JobValue) → step ≡ Some job → MayWrite job p bytes written later
      → WritesOf old p bytes written (record { step = Some later; number = number; read = read; request = asked; reply = before })
  wrote p bytes written job later e h = subst (λ o. WritesOf (record { step = o; number = number; read = read; request = asked; reply = before }) p bytes written (record { step = Some later; number = number; read = read; request = asked; reply = before })) (sym e) (later, refl, h)

  pub not_wrote : (p : PlaceValue) (bytes : List ℕ) → step ≡ None → WritesOf old p bytes false old
  not_wrote p bytes e = subst (λ o. WritesOf (record { step = o; number = number; read = read; request = asked; reply = before }) p bytes false (record { step = o; number = number; read = read; request = asked; reply = before })) (sym e) (refl, refl)
