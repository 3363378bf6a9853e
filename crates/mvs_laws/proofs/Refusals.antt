-- A request is refused in one way.
use Rattle.std.proofs.Common.{◌≡◌, ◌≢◌, ℕ, ◌+◌, inl, inr, Bool, true, false, List, [], ◌∷◌, Option, Some, None, refl, sym, ◌∙◌, subst}
use Rattle.std.specs.FinMap.{get}
use Rattle.mvs_model.specs.declared.name.Name.{Name}
use Rattle.mvs_model.specs.declared.request.Request.{Request}
use Rattle.mvs_model.specs.declared.request.Request.TheVariants.{Obtain, ObtainList, Release, ReleaseList, ReleaseWhole, Build, Get, Free, Delete, Attach, Return, Abend, Show, Put, Move}
use Rattle.mvs_model.specs.declared.refusal.Refusal.{Refusal}
use Rattle.mvs_model.specs.declared.refusal.Refusal.TheVariants.{Member}
use Rattle.mvs_model.specs.declared.code.Form.{Form}
use Rattle.mvs_model.specs.declared.request.Reply.{Reply}
use Rattle.mvs_model.specs.Reasons.{refusal_of}
use Rattle.mvs_model.specs.Steps.{Step}
use Rattle.mvs_model.specs.Pools.{Pool}
use Rattle.mvs_model.specs.State.{State}
use Rattle.mvs_model.specs.Determined.{is_list}
use Rattle.mvs_model.proofs.Tests.{true_false, false_true}
use Rattle.mvs_model.specs.Causes.{Cause, ◌when◌, ◌whenever◌, ◌unless◌, Refused, Passed, IsRefused, cell_causes, free_causes, causes_of, causes}
use Rattle.mvs_model.specs.Consequences.{reply_to, Settles}
use Rattle.mvs_laws.specs.Refusals.{EachOneRefusal, ReasonsDecideReplies, RefusalsDecideReplies, AttemptsAreSteps}

-- A cause that refuses in one way, and then lets nothing pass.
record Decides (cause : Cause) : Type 0 where
  one : (x y : Refusal) → cause.refuses x → cause.refuses y → x ≡ y
  not_passed : (x : Refusal) → cause.refuses x → cause.passes → ⊥

when_decides : (refusal : Refusal) (b : Bool) → Decides (refusal when b)
when_decides refusal b = record { one = λ x y h k. h.1 ∙ sym k.1; not_passed = λ x h p. true_false (sym h.0 ∙ p) }

whenever_decides : (refusal : Refusal) (P : Type 0) → Decides (refusal whenever P)
whenever_decides refusal P = record { one = λ x y h k. h.1 ∙ sym k.1; not_passed = λ x h p. p h.0 }

unless_decides : (refusal : Refusal) (P : Type 0) → Decides (refusal unless P)
unless_decides refusal P = record { one = λ x y h k. h.1 ∙ sym k.1; not_passed = λ x h p. h.0 p }

-- Each cause of the list does.
abbrev AllDecide : List Cause → Type 0
AllDecide [] = Unit {0}
AllDecide (cause ∷ causes) = Decides cause × AllDecide causes

one_of : (causes : List Cause) → AllDecide causes → (x y : Refusal) → Refused causes x → Refused causes y → x ≡ y
one_of [] d x y h k = absurd h
one_of (cause ∷ causes) d x y (inl h) (inl k) = d.0.one x y h k
one_of (cause ∷ causes) d x y (inl h) (inr k) = absurd (d.0.not_passed x h k.0)
one_of (cause ∷ causes) d x y (inr h) (inl k) = absurd (d.0.not_passed y k h.0)
one_of (cause ∷ causes) d x y (inr h) (inr k) = one_of causes d.1 x y h.1 k.1

not_both : (causes : List Cause) → AllDecide causes → (x : Refusal) → Refused causes x → Passed causes → ⊥
not_both [] d x h p = h
not_both (cause ∷ causes) d x (inl h) p = d.0.not_passed x h p.0
not_both (cause ∷ causes) d x (inr h) p = not_both causes d.1 x h.1 p.1

cells_decide : (st : State) (conditional : Bool) (v : Option Pool) → AllDecide (cell_causes st conditional v)
cells_decide st conditional None = tt
cells_decide st conditional (Some pool) = (whenever_decides _ _, (whenever_decides _ _, tt))

returns_decide : (c : ℕ) (v : Option Pool) → AllDecide (free_causes c v)
returns_decide c None = tt
returns_decide c (Some pool) = (when_decides _ _, tt)

each_decides : (st : State) (t : Name) (request : Request) → is_list request ≡ false → AllDecide (causes_of st t request)
each_decides st t (Obtain form number ask) other = (when_decides _ _, (whenever_decides _ _, tt))
each_decides st t (ObtainList form number lengths start) other = true_false other
each_decides st t (Release form number p) other = (when_decides _ _, (when_decides _ _, (when_decides _ _, (unless_decides _ _, (unless_decides _ _, tt)))))
each_decides st t (ReleaseList form number ps) other = (when_decides _ _, (when_decides _ _, (when_decides _ _, (unless_decides _ _, (unless_decides _ _, tt)))))
each_decides st t (ReleaseWhole form number) other = (when_decides _ _, (when_decides _ _, tt))
each_decides st t (Build name number size primary secondary loc) other = (when_decides _ _, (when_decides _ _, (when_decides _ _, (whenever_decides _ _, tt))))
each_decides st t (Get name conditional) other = (when_decides _ _, cells_decide st conditional (get st.pools name))
each_decides st t (Free name c) other = (when_decides _ _, returns_decide c (get st.pools name))
each_decides st t (Delete name) other = (when_decides _ _, tt)
each_decides st t (Attach name gifts residence) other = (when_decides _ _, (when_decides _ _, (when_decides _ _, tt)))
each_decides st t Return other = (when_decides _ _, tt)
each_decides st t (Abend n) other = (when_decides _ _, tt)
each_decides st t (Show a n) other = (when_decides _ _, tt)
each_decides st t (Put a bytes) other = (when_decides _ _, tt)
each_decides st t (Move to from n) other = (when_decides _ _, tt)

pub one_refusal : EachOneRefusal
one_refusal st t request other =
    let d : AllDecide (causes st t request) = (when_decides _ _, each_decides st t request other) in
    record { one = one_of (causes st t request) d; not_done = not_both (causes st t request) d }

pub refusals_decide_replies : RefusalsDecideReplies
refusals_decide_replies = record {
  refused = λ old new t request reply refusal other h step. elim step [
    | inl s ↦ subst (λ x. Settles old t (reply_to request x) reply new) ((one_refusal old t request other).one s.0 refusal s.1 h) s.2
    | inr d ↦ absurd ((one_refusal old t request other).not_done refusal h d.0)
  ];
  passed = λ old new t request reply other h step. elim step [
    | inl s ↦ absurd ((one_refusal old t request other).not_done s.0 s.1 h)
    | inr d ↦ d.1
  ];
}

-- A list that is refused for something else than a member is refused for that alone, and then not done.
list_refused : (st : State) (t : Name) (form : Form) (number : ℕ) (lengths : List ℕ) (start : ℕ) (x y : Refusal) → ((k : ℕ) → x ≢ Member k)
    → Refused (causes st t (ObtainList form number lengths start)) x → Refused (causes st t (ObtainList form number lengths start)) y → x ≡ y
list_refused st t form number lengths start x y other (inl h) (inl k) = h.1 ∙ sym k.1
list_refused st t form number lengths start x y other (inl h) (inr k) = true_false (sym h.0 ∙ k.0)
list_refused st t form number lengths start x y other (inr h) (inl k) = true_false (sym k.0 ∙ h.0)
list_refused st t form number lengths start x y other (inr (a, inl h)) (inr (b, inl k)) = h.1 ∙ sym k.1
list_refused st t form number lengths start x y other (inr (a, inl h)) (inr (b, inr k)) = true_false (sym h.0 ∙ k.0)
list_refused st t form number lengths start x y other (inr (a, inr (v, inl h))) k = absurd (other (h.0 + 1) h.2)
list_refused st t form number lengths start x y other (inr (a, inr (v, inr h))) k = absurd h.1

list_not_passed : (st : State) (t : Name) (form : Form) (number : ℕ) (lengths : List ℕ) (start : ℕ) (x : Refusal) → ((k : ℕ) → x ≢ Member k)
    → Refused (causes st t (ObtainList form number lengths start)) x → Passed (causes st t (ObtainList form number lengths start)) → ⊥
list_not_passed st t form number lengths start x other (inl h) p = true_false (sym h.0 ∙ p.0)
list_not_passed st t form number lengths start x other (inr (a, inl h)) p = true_false (sym h.0 ∙ p.1.0)
list_not_passed st t form number lengths start x other (inr (a, inr (v, inl h))) p = other (h.0 + 1) h.2
list_not_passed st t form number lengths start x other (inr (a, inr (v, inr h))) p = h.1

-- what is refused for something else than a member of a list
step_refuses : (old new : State) (t : Name) (request : Request) (reply : Reply) (x : Refusal) → ((k : ℕ) → x ≢ Member k) → IsRefused old t request x → Step old t request reply new → Settles old t (reply_to request x) reply new
step_refuses old new t request reply x other h step = at (is_list request) refl where
  list_tells : (request : Request) → is_list request ≡ true → IsRefused old t request x → Step old t request reply new → Settles old t (reply_to request x) reply new
  list_tells (ObtainList form number lengths start) e h (inl s) = subst (λ y. Settles old t (reply_to (ObtainList form number lengths start) y) reply new) (sym (list_refused old t form number lengths start x s.0 other h s.1)) s.2
  list_tells (ObtainList form number lengths start) e h (inr d) = absurd (list_not_passed old t form number lengths start x other h d.0)
  list_tells _ e h step = false_true e

  at : (b : Bool) → is_list request ≡ b → Settles old t (reply_to request x) reply new
  at true e = list_tells request e h step
  at false e = refusals_decide_replies.refused old new t request reply x e h step

pub reasons_decide_replies : ReasonsDecideReplies
reasons_decide_replies old new t request reply reason other is step = step_refuses old new t request reply (refusal_of request reason) other is.0 step

pub attempts_are_steps : AttemptsAreSteps
attempts_are_steps = record {
  done = λ old new t request reply a. inr a;
  settled = λ old mid new t request refusal reply a s. inl (refusal, a.0, subst (λ st. Settles st t (reply_to request refusal) reply new) a.1 s);
}
