-- Where bytes are not written, a walk stays as it is.
use Rattle.std.proofs.Common.{◌≡◌, ℕ, false, List, Option, Some, None, ap, ◌∙◌}
use Rattle.mvs_model.specs.declared.line.Line.{Line}
use Rattle.mvs_model.specs.Job.{JobValue}
use Rattle.mvs_model.specs.Place.{PlaceValue}
use Rattle.mvs_model.specs.declared.request.Reply.{Reply}
use Rattle.mvs_model.specs.declared.request.Request.{Request}
use Rattle.mvs_job.specs.LineEvents.{WalkValue}
use Rattle.mvs_job.specs.Valued.{WritesOf}

pub unwritten : (step : Option JobValue) (number : ℕ) (read : Line) (request : Request) (reply : Reply) (p : PlaceValue) (bytes : List ℕ) (new : WalkValue)
    → WritesOf (record { step = step; number = number; read = read; request = request; reply = reply }) p bytes false new → new ≡ record { step = step; number = number; read = read; request = request; reply = reply }
unwritten None number read request reply p bytes new h = h.1
unwritten (Some job) number read request reply p bytes new (later, same, stays) = same ∙ ap (λ j. record { step = Some j; number = number; read = read; request = request; reply = reply }) stays.1
