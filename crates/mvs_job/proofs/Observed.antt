-- What a request was answered, and which names are not set.
use Rattle.std.proofs.Common.{◌≡◌, ◌⊎◌, ℕ, ◌+◌, ◌++◌, inl, inr, Bool, true, false, cond, List, [], ◌∷◌, Option, Some, None, refl, sym, ap, subst, ◌∙◌, not}
use Rattle.std.specs.Prelude.{is_some}
use Rattle.std.specs.List.{flat_map}
use Rattle.std.specs.Option.{option_and_then, option_map, option_or}
use Rattle.std.specs.FinMap.{FinMap, get}
use Rattle.std.proofs.lemmas.List.Folds.{find-append}
use Rattle.mvs_model.specs.declared.code.Code.{Code}
use Rattle.mvs_model.specs.declared.code.Form.{Form}
use Rattle.mvs_model.specs.declared.name.Name.{Name}
use Rattle.mvs_model.specs.declared.line.Location.{Location}
use Rattle.mvs_model.specs.declared.line.Location.TheVariants.{Absolute, Named}
use Rattle.mvs_model.specs.declared.line.SourceRequest.{SourceRequest}
use Rattle.mvs_model.specs.declared.line.SourceRequest.TheVariants as written
use Rattle.mvs_model.specs.declared.request.Request.{Request}
use Rattle.mvs_model.specs.declared.request.Request.TheVariants as request
use Rattle.mvs_model.specs.declared.request.Reply.{Reply}
use Rattle.mvs_model.specs.declared.request.Reply.TheVariants as reply
use Rattle.mvs_model.specs.declared.refusal.Consequence.{Consequence}
use Rattle.mvs_model.specs.declared.refusal.Consequence.TheVariants as consequence
use Rattle.mvs_model.specs.declared.refusal.Refusal.{Refusal}
use Rattle.mvs_model.specs.declared.refusal.Refusal.TheVariants as refusals
use Rattle.mvs_model.specs.Answers.{Answer}
use Rattle.mvs_model.specs.Causes.{IsRefused}
use Rattle.mvs_model.specs.Consequences.{Settles, by_form, failure, form_of, obtains, reply_to}
use Rattle.mvs_model.specs.Codes.{is_conditional}
use Rattle.mvs_model.specs.Job.{JobValue}
use Rattle.mvs_model.specs.Name.{name_cmp}
use Rattle.mvs_model.specs.Owners.{is_active}
use Rattle.mvs_model.specs.Place.{PlaceValue, place_at}
use Rattle.mvs_model.specs.Pools.{Pool}
use Rattle.mvs_model.specs.Replies.{answer_of, done_answer, grant_answer}
use Rattle.mvs_model.specs.Resolving.{address_of, first_unset, looked_up, name_in, places_in, places_of, resolved}
use Rattle.mvs_model.specs.State.{State}
use Rattle.mvs_model.specs.Steps.{Does, TakesSome}
use Rattle.mvs_model.proofs.Tests.{false_true, none_some, some_none, true_false}
use Rattle.request_forms.proofs.Refused.{concerns}
use Rattle.mvs_job.specs.Observing.{Fails, Hearing, ObservesRequest, Passes, is_end, is_failure, is_refusal}

-- ---- names that are not set

module _ (names : FinMap name_cmp PlaceValue) where
  name_unset : (name : Name) → get names name ≡ None → is_some (first_unset names (name ∷ [])) ≡ true
  name_unset name e = ap (λ b. is_some (cond (not b) (Some name) None)) (ap is_some e)

  map_none : {A B : Type 0} (f : A → B) (v : Option A) → option_map f v ≡ None → v ≡ None
  map_none f None e = refl
  map_none f (Some x) e = some_none e

  address_unset : (location : Location) → address_of names location ≡ None → is_some (first_unset names (name_in location)) ≡ true
  address_unset (Absolute a) e = some_none e
  address_unset (Named name n) e = name_unset name (map_none (λ p. p.addr + n) (get names name) e)

  first_some : (xs ys : List Name) → is_some (first_unset names xs) ≡ true → is_some (first_unset names (xs ++ ys)) ≡ true
  first_some xs ys e = ap is_some (find-append (λ name. not (is_some (get names name))) xs ys) ∙ at (first_unset names xs) e where
    at : (v : Option Name) → is_some v ≡ true → is_some (option_or v (first_unset names ys)) ≡ true
    at None f = false_true f
    at (Some x) f = refl

  later_some : (xs ys : List Name) → is_some (first_unset names ys) ≡ true → is_some (first_unset names (xs ++ ys)) ≡ true
  later_some xs ys e = ap is_some (find-append (λ name. not (is_some (get names name))) xs ys) ∙ at (first_unset names xs) where
    at : (v : Option Name) → is_some (option_or v (first_unset names ys)) ≡ true
    at None = e
    at (Some x) = refl

  -- of two options that are both needed one is None
  either_none : {A B C : Type 0} (f : A → B → C) (u : Option A) (v : Option B) → option_and_then (λ a. option_map (f a) v) u ≡ None → (u ≡ None) ⊎ (v ≡ None)
  either_none f None v e = inl refl
  either_none f (Some a) v e = inr (map_none (f a) v e)

  places_unset : (locations : List Location) (lengths : List ℕ) → places_of names locations lengths ≡ None → is_some (first_unset names (flat_map name_in locations)) ≡ true
  places_unset [] lengths e = some_none e
  places_unset (location ∷ locations) [] e = some_none e
  places_unset (location ∷ locations) (n ∷ lengths) e = elim (either_none (λ a ps. place_at a n ∷ ps) (address_of names location) (places_of names locations lengths) e) [
    | inl u ↦ first_some (name_in location) (flat_map name_in locations) (address_unset location u)
    | inr v ↦ later_some (name_in location) (flat_map name_in locations) (places_unset locations lengths v)
  ]

  -- where no request is made, some name that it looks up is not set
  pub some_unset : (a : SourceRequest) → resolved names a ≡ None → is_some (first_unset names (looked_up a)) ≡ true
  some_unset (written.Obtain form number ask variable area) e = some_none e
  some_unset (written.ObtainList form number lengths start areas) e = some_none e
  some_unset (written.Release form number location n) e = address_unset location (map_none (λ a. request.Release form number (place_at a n)) (address_of names location) e)
  some_unset (written.ReleaseArea form number area) e = name_unset area (map_none (λ p. request.Release form number p) (get names area) e)
  some_unset (written.ReleaseList form number locations lengths) e = places_unset locations lengths (map_none (λ ps. request.ReleaseList form number ps) (places_of names locations lengths) e)
  some_unset (written.ReleaseWhole form number) e = some_none e
  some_unset (written.Build pool number size primary secondary loc) e = some_none e
  some_unset (written.Get pool conditional cell) e = some_none e
  some_unset (written.Free pool cell) e = address_unset cell (map_none (λ a. request.Free pool a) (address_of names cell) e)
  some_unset (written.Delete pool) e = some_none e
  some_unset (written.Attach name gifts residence) e = some_none e
  some_unset written.Return e = some_none e
  some_unset (written.Abend n) e = some_none e
  some_unset (written.Show location n) e = address_unset location (map_none (λ a. request.Show a n) (address_of names location) e)
  some_unset (written.Put location bytes) e = address_unset location (map_none (λ a. request.Put a bytes) (address_of names location) e)
  some_unset (written.Move to from n) e = elim (either_none (λ a b. request.Move a b n) (address_of names to) (address_of names from) e) [
    | inl u ↦ first_some (name_in to) (flat_map name_in (from ∷ [])) (address_unset to u)
    | inr v ↦ later_some (name_in to) (flat_map name_in (from ∷ [])) (first_some (name_in from) [] (address_unset from v))
  ]

-- ---- only a return is written as one

abbrev not_return : Request → Bool
not_return request.Return = false
not_return _ = true

returned : {P : Type 0} (r : Request) → not_return r ≡ true → Some r ≡ Some request.Return → P
returned r other e = absurd (let f : r ≡ request.Return = cc in true_false (sym other ∙ ap not_return f))

map_returned : {A P : Type 0} (f : A → Request) (v : Option A) → ((x : A) → not_return (f x) ≡ true) → option_map f v ≡ Some request.Return → P
map_returned f None other e = none_some e
map_returned f (Some x) other e = returned (f x) (other x) e

two_returned : {A B P : Type 0} (f : A → B → Request) (u : Option A) (v : Option B) → ((x : A) (y : B) → not_return (f x y) ≡ true) → option_and_then (λ x. option_map (f x) v) u ≡ Some request.Return → P
two_returned f None v other e = none_some e
two_returned f (Some x) v other e = map_returned (f x) v (other x) e

pub is_return : (names : FinMap name_cmp PlaceValue) (a : SourceRequest) → resolved names a ≡ Some request.Return → a ≡ written.Return
is_return names (written.Obtain form number ask variable area) e = returned _ refl e
is_return names (written.ObtainList form number lengths start areas) e = returned _ refl e
is_return names (written.Release form number location n) e = map_returned (λ a. request.Release form number (place_at a n)) (address_of names location) (λ x. refl) e
is_return names (written.ReleaseArea form number area) e = map_returned (λ p. request.Release form number p) (get names area) (λ x. refl) e
is_return names (written.ReleaseList form number locations lengths) e = map_returned (λ ps. request.ReleaseList form number ps) (places_of names locations lengths) (λ x. refl) e
is_return names (written.ReleaseWhole form number) e = returned _ refl e
is_return names (written.Build pool number size primary secondary loc) e = returned _ refl e
is_return names (written.Get pool conditional cell) e = returned _ refl e
is_return names (written.Free pool cell) e = map_returned (λ a. request.Free pool a) (address_of names cell) (λ x. refl) e
is_return names (written.Delete pool) e = returned _ refl e
is_return names (written.Attach name gifts residence) e = returned _ refl e
is_return names written.Return e = refl
is_return names (written.Abend n) e = returned _ refl e
is_return names (written.Show location n) e = map_returned (λ a. request.Show a n) (address_of names location) (λ x. refl) e
is_return names (written.Put location bytes) e = map_returned (λ a. request.Put a bytes) (address_of names location) (λ x. refl) e
is_return names (written.Move to from n) e = two_returned (λ x y. request.Move x y n) (address_of names to) (address_of names from) (λ x y. refl) e

-- ---- what is answered to a request that is done

-- It is no refusal, and only a return ends its task.
abbrev Granted : Request → Answer → Type 0
Granted r answer = (is_refusal answer ≡ false) × (is_end answer ≡ true → r ≡ request.Return)

module _ (st : State) (a : SourceRequest) (r : Request) where
  abbrev Says : Reply → Type 0
  Says x = Granted r (answer_of st a r x)

  of_grant : (p : PlaceValue) → Granted r (grant_answer a p)
  of_grant p = at a where
    at : (a : SourceRequest) → Granted r (grant_answer a p)
    at (written.Obtain form number ask true area) = (refl, λ e. false_true e)
    at (written.Obtain form number ask false area) = (refl, λ e. false_true e)
    at _ = (refl, λ e. false_true e)

  of_done : Granted r (done_answer st r)
  of_done = at r where
    at : (x : Request) → Granted r (done_answer st x)
    at (request.Show n k) = (refl, λ e. false_true e)
    at _ = (refl, λ e. false_true e)

  of_zero : Says reply.Rc0
  of_zero = (refl, λ e. false_true e)

  given : (x y : Reply) → x ≡ y → Says y → Says x
  given x y e h = subst Says (sym e) h

  taken : (old new : State) (name : Name) (v : Option Pool) (x : Reply) → TakesSome old name v x new → Says x
  taken old new name None x d = absurd d
  taken old new name (Some pool) x (inl g) = given x _ g.2.1 (refl, λ e. false_true e)
  taken old new name (Some pool) x (inr g) = given x _ g.1.3.2.1 (refl, λ e. false_true e)

done_said : (st old new : State) (t : Name) (a : SourceRequest) (r : Request) (x : Reply) → Does old t r x new → Granted r (answer_of st a r x)
done_said st old new t a (request.Obtain form number ask) x d = given st a (request.Obtain form number ask) x _ d.1 (of_grant st a (request.Obtain form number ask) d.0)
done_said st old new t a (request.ObtainList form number lengths start) x d = given st a (request.ObtainList form number lengths start) x _ d.1 (refl, λ e. false_true e)
done_said st old new t a (request.Release form number p) x d = given st a (request.Release form number p) x _ d.0 (refl, λ e. false_true e)
done_said st old new t a (request.ReleaseList form number ps) x d = given st a (request.ReleaseList form number ps) x _ d.0 (refl, λ e. false_true e)
done_said st old new t a (request.ReleaseWhole form number) x d = given st a (request.ReleaseWhole form number) x _ d.0 (refl, λ e. false_true e)
done_said st old new t a (request.Build name number size primary secondary loc) x d = given st a (request.Build name number size primary secondary loc) x _ d.0 (refl, λ e. false_true e)
done_said st old new t a (request.Get name conditional) x d = taken st a (request.Get name conditional) old new name (get old.pools name) x d
done_said st old new t a (request.Free name c) x d = given st a (request.Free name c) x _ d.0 (refl, λ e. false_true e)
done_said st old new t a (request.Delete name) x d = given st a (request.Delete name) x _ d.0 (refl, λ e. false_true e)
done_said st old new t a (request.Attach name gifts residence) x d = given st a (request.Attach name gifts residence) x _ d.0 (refl, λ e. false_true e)
done_said st old new t a request.Return x d = given st a request.Return x _ d.0 (refl, λ e. refl)
done_said st old new t a (request.Abend n) x d = absurd d
done_said st old new t a (request.Show b n) x d = given st a (request.Show b n) x _ d.0 (of_done st a (request.Show b n))
done_said st old new t a (request.Put b bytes) x d = given st a (request.Put b bytes) x _ d.0 (of_done st a (request.Put b bytes))
done_said st old new t a (request.Move to from n) x d = given st a (request.Move to from n) x _ d.0 (of_done st a (request.Move to from n))

-- ---- what is answered to one that is refused

-- It is a refusal, and the task ends only at an abend.
abbrev Refused : Consequence → Answer → Type 0
Refused c answer = (is_failure answer ≡ true) × (is_end answer ≡ true → (code : Code) × (c ≡ consequence.Abend code))

-- a consequence but that no request was made
abbrev is_made : Consequence → Bool
is_made consequence.NotRun = false
is_made _ = true

settled_said : (st old new : State) (t : Name) (a : SourceRequest) (r : Request) (c : Consequence) (x : Reply) → is_made c ≡ true → Settles old t c x new → Refused c (answer_of st a r x)
settled_said st old new t a r consequence.NotRun x made s = false_true made
settled_said st old new t a r consequence.Rc4 x made s = subst (λ y. Refused consequence.Rc4 (answer_of st a r y)) (sym s.0) (refl, λ e. false_true e)
settled_said st old new t a r consequence.NoCell x made s = subst (λ y. Refused consequence.NoCell (answer_of st a r y)) (sym s.0) (refl, λ e. false_true e)
settled_said st old new t a r (consequence.Abend code) x made s = subst (λ y. Refused (consequence.Abend code) (answer_of st a r y)) (sym s.1) (refl, λ e. (code, refl))

failure_made : (form : Form) (code : Code) → is_made (failure form code) ≡ true
failure_made form code = at (is_conditional form) where
  at : (b : Bool) → is_made (cond b consequence.Rc4 (consequence.Abend code)) ≡ true
  at true = refl
  at false = refl

made_by : (form : Form) (obtaining : Bool) (x : Refusal) → (x ≡ refusals.NotActive → ⊥) → is_made (by_form form obtaining x) ≡ true
made_by form obtaining refusals.NotActive other = absurd (other refl)
made_by form obtaining refusals.Shortage other = failure_made form _
made_by form obtaining (refusals.Member k) other = failure_made form _
made_by form obtaining refusals.NoPart other = failure_made form _
made_by form obtaining refusals.NoSubpool other = failure_made form _
made_by form obtaining refusals.NotHeld other = failure_made form _
made_by form obtaining refusals.Overlap other = failure_made form _
made_by form obtaining _ other = refl

not_inactive : (st : State) (t : Name) (r : Request) (x : Refusal) → is_active st.owners t ≡ true → IsRefused st t r x → x ≡ refusals.NotActive → ⊥
not_inactive st t r x active h e = true_false (sym active ∙ concerns st t r refusals.NotActive (subst (IsRefused st t r) e h))

-- what an observer hears of a request that is answered so
pub heard_said : {O : Type 0} (heard : Hearing O) (before after : O) (job : JobValue) (t : Name) (a : SourceRequest) (r : Request) (x : Reply) (new : State) (st : State) → is_active job.state.owners t ≡ true → ObservesRequest heard before job t r x new after
    → Passes before job t r (answer_of st a r x) after ⊎ Fails heard before job t r (answer_of st a r x) after
heard_said heard before after job t a r x new st active (inl h) = let said = done_said st job.state new t a r x h.2 in inl (h.0, h.1, said.0, said.1)
heard_said heard before after job t a r x new st active (inr h) =
    let made = made_by (form_of r) (obtains r) h.0 (not_inactive job.state t r h.0 active h.2) in
    let said = settled_said st job.state new t a r (reply_to r h.0) x made h.4 in
    inr (h.0, h.1, h.2, h.3, said.0, said.1, h.5)

-- what is settled gives no place
settled_none : (st new : State) (t : Name) (c : Consequence) (x : Reply) → Settles st t c x new → places_in x ≡ []
settled_none st new t consequence.NotRun x s = ap places_in s.0
settled_none st new t consequence.Rc4 x s = ap places_in s.0
settled_none st new t consequence.NoCell x s = ap places_in s.0
settled_none st new t (consequence.Abend code) x s = ap places_in s.1

-- of a request that is answered with a place nothing is heard
pub unheard : {O : Type 0} (heard : Hearing O) (before after : O) (job : JobValue) (t : Name) (r : Request) (x : Reply) (new : State) → ObservesRequest heard before job t r x new after → (places_in x ≡ [] → ⊥) → after ≡ before
unheard heard before after job t r x new (inl h) some = h.0
unheard heard before after job t r x new (inr h) some = absurd (some (settled_none job.state new t (reply_to r h.0) x h.4))
