-- What a call answered stands for what is written as its reply.
use Rattle.std.proofs.Common.{inl, inr, true, false, not, ap, refl, ◌≡◌, ◌∙◌, ℕ, Bool, List, Result, Ok, Err, sym, subst}
use Rattle.std.specs.Prelude.{IfOk, OnOk}
use Rattle.mvs_model.specs.declared.name.Name.{Name}
use Rattle.mvs_model.specs.declared.code.Code.{Code}
use Rattle.mvs_model.specs.declared.refusal.Refusal.{Refusal}
use Rattle.mvs_model.specs.declared.refusal.Refusal.TheVariants as refusals
use Rattle.mvs_model.specs.declared.refusal.Consequence.TheVariants.{Abend, NotRun}
use Rattle.mvs_model.specs.declared.code.Form.{Form}
use Rattle.mvs_model.specs.declared.request.Request.{Request}
use Rattle.mvs_model.specs.declared.request.Request.TheVariants.{Build, Get, Obtain, ObtainList}
use Rattle.mvs_model.specs.declared.request.Reply.{Reply}
use Rattle.mvs_model.specs.Place.{PlaceValue}
use Rattle.mvs_model.specs.Want.{AskValue, side_of}
use Rattle.mvs_model.specs.declared.want.Loc.{Loc}
use Rattle.mvs_model.specs.declared.request.Reply.TheVariants.{Cell, Listed, Obtained, Rc0}
use Rattle.mvs_model.specs.State.{State}
use Rattle.mvs_model.specs.Causes.{IsRefused}
use Rattle.mvs_model.specs.Consequences.{reply_to}
use Rattle.mvs_model.specs.Owners.{is_active}
use Rattle.mvs_model.specs.Steps.{Does, Tries, TriesPlan}
use Rattle.mvs_model.proofs.Tests.{false_true, true_false}
use Rattle.mvs_model.specs.Requests.{Plan, residence_of}
use Rattle.request_forms.specs.Lists.{first_of}
use Rattle.request_forms.specs.Taking.{Takes, TakesArea, TakesAreas, TakesCell, TakesPool}
use Rattle.mvs_model.specs.declared.reason.Shortfall.{Shortfall}
use Rattle.mvs_model.specs.Reasons.{MemberLacks}
use Rattle.request_forms.proofs.Refused.{concerns}
use Rattle.job_step.specs.Replying.{IsLeft, RepliesWith}

module _ {A : Type 0} (reply_of : A → Reply) (old : State) (t : Name) (request : Request) (answer : Result A Refusal) (new : State) (reply : Reply) (result : Result (Unit {0}) Refusal) where
  pub replied : Tries reply_of old t request answer new → RepliesWith reply_of answer reply result → Tries (λ _. reply) old t request result new
  replied = at answer where
    at : (a : Result A Refusal) → Tries reply_of old t request a new → RepliesWith reply_of a reply result → Tries (λ _. reply) old t request result new
    at (Ok a) h is = subst (λ r. Tries (λ _. reply) old t request r new) (sym is.1) (h.0, subst (λ r. Does old t request r new) (sym is.0) h.1)
    at (Err refusal) h is = subst (λ r. Tries (λ _. reply) old t request r new) (sym is) h

-- an area that takes the hinted address
pub area_step : (hints : List ℕ) (old : State) (t : Name) (form : Form) (number : ℕ) (ask : AskValue) (answer : Result PlaceValue Refusal) (reply : Reply) (result : Result (Unit {0}) Refusal) (new : State) → RepliesWith Obtained answer reply result
    → IfOk answer (TakesArea old t form number ask (first_of hints)) → OnOk result (Takes hints old t (Obtain form number ask) reply new)
area_step hints old t form number ask (Ok p) reply result new is takes = subst (λ r. OnOk r (Takes hints old t (Obtain form number ask) reply new)) (sym is.1) (subst (λ x. Takes hints old t (Obtain form number ask) x new) (sym is.0) takes)
area_step hints old t form number ask (Err refusal) reply result new is takes = subst (λ r. OnOk r (Takes hints old t (Obtain form number ask) reply new)) (sym is) tt

-- and areas of a list that take theirs
pub area_values : (hints : List ℕ) (old : State) (t : Name) (form : Form) (number : ℕ) (lengths : List ℕ) (start : ℕ) (answer : Result (List PlaceValue) Refusal) (reply : Reply) (result : Result (Unit {0}) Refusal) (new : State) → RepliesWith Listed answer reply result
    → IfOk answer (λ ps. TakesAreas old t number lengths start hints ps new) → OnOk result (Takes hints old t (ObtainList form number lengths start) reply new)
area_values hints old t form number lengths start (Ok ps) reply result new is takes = subst (λ r. OnOk r (Takes hints old t (ObtainList form number lengths start) reply new)) (sym is.1) (subst (λ x. Takes hints old t (ObtainList form number lengths start) x new) (sym is.0) takes)
area_values hints old t form number lengths start (Err refusal) reply result new is takes = subst (λ r. OnOk r (Takes hints old t (ObtainList form number lengths start) reply new)) (sym is) tt

-- a cell that takes the hinted address
pub cell_step : (hints : List ℕ) (old : State) (t name : Name) (conditional : Bool) (answer : Result PlaceValue Refusal) (reply : Reply) (result : Result (Unit {0}) Refusal) (new : State) → RepliesWith Cell answer reply result
    → IfOk answer (TakesCell old name hints) → OnOk result (Takes hints old t (Get name conditional) reply new)
cell_step hints old t name conditional (Ok p) reply result new is takes = subst (λ r. OnOk r (Takes hints old t (Get name conditional) reply new)) (sym is.1) (subst (λ x. Takes hints old t (Get name conditional) x new) (sym is.0) takes)
cell_step hints old t name conditional (Err refusal) reply result new is takes = subst (λ r. OnOk r (Takes hints old t (Get name conditional) reply new)) (sym is) tt

-- and a pool whose first cell takes it
pub pool_step : (hints : List ℕ) (old : State) (t name : Name) (number size primary secondary : ℕ) (loc : Loc) (answer : Result (Unit {0}) Refusal) (reply : Reply) (result : Result (Unit {0}) Refusal) (new : State) → RepliesWith (λ _. Rc0) answer reply result
    → OnOk answer (TakesPool old t number name (record { cell_size = size; primary = primary; secondary = secondary; side = side_of loc (residence_of old.owners t) }) (first_of hints) new) → OnOk result (Takes hints old t (Build name number size primary secondary loc) reply new)
pool_step hints old t name number size primary secondary loc (Ok _) reply result new is takes = subst (λ r. OnOk r (Takes hints old t (Build name number size primary secondary loc) reply new)) (sym is.1) (subst (λ x. Takes hints old t (Build name number size primary secondary loc) x new) (sym is.0) takes)
pool_step hints old t name number size primary secondary loc (Err refusal) reply result new is takes = subst (λ r. OnOk r (Takes hints old t (Build name number size primary secondary loc) reply new)) (sym is) tt

-- a pool that is planned
pub plan_tried : (old new : State) (t name : Name) (number size primary secondary : ℕ) (loc : Loc) (plan : Plan) (result : Result (Unit {0}) Refusal) → plan ≡ record { cell_size = size; primary = primary; secondary = secondary; side = side_of loc (residence_of old.owners t) }
    → TriesPlan old t name number plan result new → Tries (λ _. Rc0) old t (Build name number size primary secondary loc) result new
plan_tried old new t name number size primary secondary loc plan (Ok _) e h = let made = subst (λ p. TriesPlan old t name number p (Ok tt) new) e h in (made.0, (refl, made.1))
plan_tried old new t name number size primary secondary loc plan (Err refusal) e h = subst (λ p. TriesPlan old t name number p (Err refusal) new) e h

-- ---- what is refused

-- the task of a request that abends is active
pub abends_active : (old : State) (t : Name) (request : Request) (refusal : Refusal) (code : Code) → IsRefused old t request refusal → reply_to request refusal ≡ Abend code → is_active old.owners t ≡ true
abends_active old t request refusal code (inl h) e = absurd (let f : NotRun ≡ Abend code = sym (ap (reply_to request) h.1) ∙ e in cc)
abends_active old t request refusal code (inr h) e = at (is_active old.owners t) h.0 where
  at : (b : Bool) → not b ≡ false → b ≡ true
  at true f = refl
  at false f = true_false f

-- what a list lacks is left where any request is refused for a member
pub left_for : (old : State) (t : Name) (request : Request) (result : Result (Unit {0}) Refusal) (left : Shortfall) (k : ℕ) → IsRefused old t request (refusals.Member k) → IsLeft old t request result left → result ≡ Err (refusals.Member k) → MemberLacks old t request k left
left_for old t (ObtainList form number lengths start) result left k refused is e = is k e
left_for old t request result left k refused is e = false_true (concerns old t request (refusals.Member k) refused)

refusal_is : (x y : Refusal) → ◌≡◌ {A = Result (Unit {0}) Refusal} (Err x) (Err y) → x ≡ y
refusal_is x y e = cc

-- what a member of a list lacks is left where the reply is written
pub areas_left : (old : State) (t : Name) (form : Form) (number : ℕ) (lengths : List ℕ) (start : ℕ) (answer : Result (List PlaceValue) Refusal) (reply : Reply) (result : Result (Unit {0}) Refusal) (left : Shortfall) → RepliesWith Listed answer reply result
    → ((k : ℕ) → answer ≡ Err (refusals.Member k) → MemberLacks old t (ObtainList form number lengths start) k left) → IsLeft old t (ObtainList form number lengths start) result left
areas_left old t form number lengths start (Ok ps) reply result left is h = λ k e. absurd (let f : ◌≡◌ {A = Result (Unit {0}) Refusal} (Ok tt) (Err (refusals.Member k)) = sym is.1 ∙ e in cc)
areas_left old t form number lengths start (Err refusal) reply result left is h = λ k e. h k (ap (λ x. Err x) (refusal_is refusal (refusals.Member k) (sym is ∙ e)))
