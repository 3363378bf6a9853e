-- What becomes of a job by a request that is given by values, and by bytes that are written: no name is set, and the number of the
-- next line stays.
use Rattle.std.specs.Prelude.{◌≡◌, ◌≤◌, ◌||◌, ℕ, List, Bool, true, false, Option, Some, MatchBool, MatchOption}
use Rattle.mvs_model.specs.declared.name.Name.{Name}
use Rattle.mvs_model.specs.declared.request.Request.{Request}
use Rattle.mvs_model.specs.declared.request.Request.TheVariants.{Build}
use Rattle.mvs_model.specs.declared.request.Reply.{Reply}
use Rattle.mvs_model.specs.Changes.{Granted, Writes}
use Rattle.mvs_model.specs.Job.{JobValue}
use Rattle.mvs_model.specs.Place.{PlaceValue}
use Rattle.mvs_model.specs.Replies.{is_abend}
use Rattle.mvs_model.specs.Steps.{Step}
use Rattle.mvs_model.specs.Requests.{bytes_from}
use Rattle.mvs_job.specs.LineEvents.{WalkValue}
use Rattle.mvs_job.specs.Observing.{Hearing, ObservesRequest}

-- The numbers of a pool that is built are in their ranges.
abbrev pub BuildsInRange : Request → Type 0
BuildsInRange (Build name number size primary secondary loc) = (4 ≤ size) × (1 ≤ primary) × (1 ≤ secondary)
BuildsInRange _ = Unit {0}

-- A step answers a task's request.
pub record Requests (old : JobValue) (t : Name) (r : Request) (reply : Reply) (new : JobValue) : Type 0 where
  pub step : Step old.state t r reply new.state
  pub names : new.names ≡ old.names
  pub abended : new.abended ≡ (old.abended || is_abend reply)
  pub former : new.former ≡ old.former

-- Bytes are written over those of a place.
pub record WritesOver (old : JobValue) (p : PlaceValue) (bytes : List ℕ) (new : JobValue) : Type 0 where
  pub granted : Granted old.state p
  pub state : Writes old.state p (bytes_from p.addr bytes) new.state
  pub rest : new ≡ record old { state = new.state }

-- Bytes are written where each of them may be, and else nothing changes.
abbrev pub MayWrite : JobValue → PlaceValue → List ℕ → Bool → JobValue → Type 0
MayWrite old p bytes written new = MatchBool written (WritesOver old p bytes new) ((Granted old.state p → ⊥) × (new ≡ old))

-- The step that runs answers a task's request, and the reply is kept; where none runs, nothing changes.
abbrev pub RequestsOf : WalkValue → Name → Request → Bool → WalkValue → Type 0
RequestsOf old t r served new = MatchOption old.step
    ((served ≡ false) × (new ≡ old))
    (λ job. (served ≡ true) × (new.number ≡ old.number) × ((later : JobValue) × (new.step ≡ Some later) × Requests job t r new.reply later))

-- An observer sees the request of a task if the step that runs refuses it; where no step runs, it sees nothing.
abbrev pub ObservesValues : {O : Type 0} → Hearing O → O → Option JobValue → Name → Request → WalkValue → O → Type 0
ObservesValues heard before step t r new after = MatchOption step (after ≡ before)
    (λ job. (later : JobValue) × (new.step ≡ Some later) × ObservesRequest heard before job t r new.reply later.state after)

-- The step that runs writes the bytes at the place if all of it is granted; where no step runs, nothing changes.
abbrev pub WritesOf : WalkValue → PlaceValue → List ℕ → Bool → WalkValue → Type 0
WritesOf old p bytes written new = MatchOption old.step
    ((written ≡ false) × (new ≡ old))
    (λ job. (later : JobValue) × (new ≡ record old { step = Some later }) × MayWrite job p bytes written later)
