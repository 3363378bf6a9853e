-- What a refusal determines, and how an attempt is a step.
use Rattle.std.specs.Prelude.{◌≡◌, ◌≢◌, ℕ, false, Some, Ok, Err}
use Rattle.mvs_model.specs.declared.name.Name.{Name}
use Rattle.mvs_model.specs.declared.request.Request.{Request}
use Rattle.mvs_model.specs.declared.request.Reply.{Reply}
use Rattle.mvs_model.specs.declared.refusal.Refusal.{Refusal}
use Rattle.mvs_model.specs.declared.refusal.Refusal.TheVariants.{Member}
use Rattle.mvs_model.specs.declared.reason.Reason.{Reason}
use Rattle.mvs_model.specs.Causes.{IsRefused, IsPassed}
use Rattle.mvs_model.specs.Consequences.{reply_to, Settles}
use Rattle.mvs_model.specs.Determined.{is_list}
use Rattle.mvs_model.specs.Reasons.{IsReason, refusal_of}
use Rattle.mvs_model.specs.State.{State}
use Rattle.mvs_model.specs.Steps.{Attempts, Does, Step}

-- A request is refused in one way, and then not done; a request for a list aside.
pub record OneRefusal (st : State) (t : Name) (request : Request) : Type 0 where
  pub one : (x y : Refusal) → IsRefused st t request x → IsRefused st t request y → x ≡ y
  pub not_done : (x : Refusal) → IsRefused st t request x → IsPassed st t request → ⊥

abbrev pub EachOneRefusal : Type 0
EachOneRefusal = (st : State) (t : Name) (request : Request) → is_list request ≡ false → OneRefusal st t request

-- A request that may be refused for something has the consequence of that, and one that passes all causes is done; a request for a
-- list aside.
pub record RefusalsDecideReplies : Type 0 where
  pub refused : (old new : State) (t : Name) (request : Request) (reply : Reply) (refusal : Refusal)
      → is_list request ≡ false → IsRefused old t request refusal → Step old t request reply new → Settles old t (reply_to request refusal) reply new
  pub passed : (old new : State) (t : Name) (request : Request) (reply : Reply)
      → is_list request ≡ false → IsPassed old t request → Step old t request reply new → Does old t request reply new

-- Each reason determines the reply: a request that has it is refused so, unless the reason is that a member of a list has no place.
abbrev pub ReasonsDecideReplies : Type 0
ReasonsDecideReplies =
    (old new : State) (t : Name) (request : Request) (reply : Reply) (reason : Reason)
    → ((k : ℕ) → refusal_of request reason ≢ Member k) → IsReason old t request (Some reason) → Step old t request reply new
    → Settles old t (reply_to request (refusal_of request reason)) reply new

-- An attempt that is done is a step, and one that is refused is a step once it is settled.
pub record AttemptsAreSteps : Type 0 where
  pub done : (old new : State) (t : Name) (request : Request) (reply : Reply) → Attempts (λ r. r) old t request (Ok reply) new → Step old t request reply new
  pub settled : (old mid new : State) (t : Name) (request : Request) (refusal : Refusal) (reply : Reply)
      → Attempts {A = Reply} (λ r. r) old t request (Err refusal) mid → Settles mid t (reply_to request refusal) reply new → Step old t request reply new
