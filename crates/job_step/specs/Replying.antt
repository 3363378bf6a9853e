-- What a call answered, written as a reply.
use Rattle.std.specs.Prelude.{◌≡◌, ℕ, Result, Ok, Err}
use Rattle.mvs_model.specs.declared.name.Name.{Name}
use Rattle.mvs_model.specs.declared.reason.Shortfall.{Shortfall}
use Rattle.mvs_model.specs.declared.refusal.Refusal.TheVariants.{Member}
use Rattle.mvs_model.specs.declared.request.Request.{Request}
use Rattle.mvs_model.specs.declared.request.Request.TheVariants.{ObtainList}
use Rattle.mvs_model.specs.Reasons.{MemberLacks}
use Rattle.mvs_model.specs.State.{State}
use Rattle.mvs_model.specs.declared.refusal.Refusal.{Refusal}
use Rattle.mvs_model.specs.declared.request.Reply.{Reply}

-- The reply is the one for the answer, and there is no refusal; or the refusal is that of the answer.
abbrev pub RepliesWith : {A : Type 0} → (A → Reply) → Result A Refusal → Reply → Result (Unit {0}) Refusal → Type 0
RepliesWith reply_of (Ok a) reply result = (reply ≡ reply_of a) × (result ≡ Ok tt)
RepliesWith reply_of (Err refusal) reply result = result ≡ Err refusal

-- What a member of a list lacks is left there, where a request for the list is refused for it.
abbrev pub IsLeft : State → Name → Request → Result (Unit {0}) Refusal → Shortfall → Type 0
IsLeft old t (ObtainList form number lengths start) result left = (k : ℕ) → result ≡ Err (Member k) → MemberLacks old t (ObtainList form number lengths start) k left
IsLeft old t request result left = Unit {0}
