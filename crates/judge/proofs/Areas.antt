-- A request for an area, and a question after it where the area lies.
use Rattle.std.proofs.Common.{◌≡◌, ℕ, ◌<◌, ◌⊎◌, inl, inr, Bool, true, false, cond, List, [], ◌∷◌, ◌++◌, length, codes, Some, arith, refl, sym, ap, ◌∙◌, subst}
use Rattle.std.specs.Prelude.{not, ◌||◌, ◌^◌}
use Rattle.std.specs.Bool.{MatchBool}
use Rattle.std.specs.FinMap.{FinMap, get, insert, get-insert, contains_key}
use Rattle.std.proofs.lemmas.Bool.{cases_lt}
use Rattle.mvs_model.specs.declared.name.Name.{Name}
use Rattle.mvs_model.specs.declared.code.Form.{Form}
use Rattle.mvs_model.specs.declared.line.Statement.TheVariants as says
use Rattle.mvs_model.specs.declared.line.SourceRequest.{SourceRequest}
use Rattle.mvs_model.specs.declared.line.SourceRequest.TheVariants as written
use Rattle.mvs_model.specs.declared.request.Request.TheVariants as request
use Rattle.mvs_model.specs.declared.request.Reply.TheVariants.{Obtained}
use Rattle.mvs_model.specs.Place.{PlaceValue}
use Rattle.mvs_model.specs.Want.{AskValue, WantValue, IsAsk, want_of}
use Rattle.mvs_model.specs.Name.{name_cmp}
use Rattle.mvs_model.specs.Texts.{answer_text, hex}
use Rattle.mvs_model.specs.Owners.{is_active, effective_task}
use Rattle.mvs_model.specs.Storage.{Chosen, InRegion, Regions}
use Rattle.mvs_model.specs.State.{State, holder}
use Rattle.mvs_model.specs.Codes.{family, is_conditional, short}
use Rattle.mvs_model.specs.Changes.{GrantTo, ShortOf}
use Rattle.mvs_model.proofs.ByCase.{Fails}
use Rattle.mvs_model.specs.Requests.{side_for, is_invalid}
use Rattle.mvs_model.specs.Replies.{answer_of, grant_answer, is_abend, where_answer}
use Rattle.mvs_model.specs.Resolving.{all_set, names_set, places_in}
use Rattle.mvs_model.specs.Answers as tells
use Rattle.mvs_model.specs.Answers.{Answer, Event, AnswerTo, At}
use Rattle.mvs_model.specs.Job.{JobValue}
use Rattle.mvs_model.specs.Runs.{Condition, Any, Makes, Does}
use Rattle.mvs_model.specs.View.{IsBounded}
use Rattle.mvs_model.specs.Determined.{granted_at, FollowsHint}
use Rattle.mvs_laws.proofs.Kept.{enters_tasks}
use Rattle.mvs_model.proofs.OneOwners.{one_subpool}
use Rattle.mvs_model.proofs.OneSteps.{by_two, none_granted, one_grant, one_step}
use Rattle.mvs_model.proofs.StepCases.{no_grant, step_cases}
use Rattle.mvs_model.proofs.StorageLaws.{round8_some}
use Rattle.mvs_model.proofs.Orders.{name_cmp_total, same_name_self}
use Rattle.mvs_laws.proofs.RegionsKept.{grant_inside}
use Rattle.judge.specs.Deciding.{no_bytes}
use Rattle.request_forms.specs.Lists.{first_of}
use Rattle.request_forms.specs.Taking.{Takes}
use Rattle.judge.proofs.Opening.{digits_long, front_long, line_long}
use Rattle.judge.proofs.Settled.{made_same}

-- two places that are chosen have one length
same_length : (old : State) (s : ℕ) (want : WantValue) (p q : PlaceValue) → Chosen old.regions (holder old) s want p → Chosen old.regions (holder old) s want q → p.len ≡ q.len
same_length old s want p q x y =
    elim (cases_lt p.len q.len) [
      | inl l ↦ absurd (x.greatest q.len q.addr l y.length y.placed)
      | inr g ↦ elim (cases_lt q.len p.len) [ inl l ↦ absurd (y.greatest p.len p.addr l x.length x.placed) | inr f ↦ omega (arith, g, f) ]
    ]

-- by whether a task is active
pub by_active : {P Q S U R : Type 0} (active : Bool) → MatchBool (not active) P Q → MatchBool (not active) S U → (P → S → R) → (active ≡ true → Q → U → R) → R
by_active true x y f g = g refl x y
by_active false x y f g = f x y

-- ---- how long the answers are

-- The answer is as long as that to a grant of no bytes.
abbrev pub IsLong : Bool → Answer → Type 0
IsLong v answer = (number : ℕ) (t : Name) → length (answer_text number t answer) ≡ length (answer_text number t (no_bytes v))

grant_long : (form : Form) (number : ℕ) (ask : AskValue) (v : Bool) (area : Name) (p : PlaceValue) → IsLong v (grant_answer (written.Obtain form number ask v area) p)
grant_long form n ask true area p number t = line_long number t (codes "RC 0 LENGTH " ++ hex 8 p.len) (codes "RC 0 LENGTH " ++ hex 8 0) (front_long (codes "RC 0 LENGTH ") (hex 8 p.len) (hex 8 0) (digits_long 16 8 p.len ∙ sym (digits_long 16 8 0)))
grant_long form n ask false area p number t = refl

-- ---- the grant

-- Both are granted an area, at places of their own, and answered so.
pub record Apart (hints : List ℕ) (old a b : JobValue) (t area : Name) (v : Bool) (answer : Answer) : Type 0 where
  pub long : IsLong v answer
  active : is_active old.state.owners t ≡ true
  keeps : Name
  number : ℕ
  want : WantValue
  one : PlaceValue
  other : PlaceValue
  granted : GrantTo old.state keeps number want one a.state
  granted_other : GrantTo old.state keeps number want other b.state
  names : a.names ≡ insert old.names area one
  names_other : b.names ≡ insert old.names area other
  abended : a.abended ≡ b.abended
  former : a.former ≡ b.former
  takes : (k : ℕ) → hints ≡ k ∷ [] → FollowsHint old.state keeps number want k one

module _ (hints : List ℕ) (old : JobValue) (t : Name) (answer other : Answer) (a b : JobValue) (form : Form) (number : ℕ) (ask : AskValue) (v : Bool) (area : Name) (ranged : IsAsk ask) where
  abbrev k : SourceRequest
  k = written.Obtain form number ask v area

  abbrev keeps : Name
  keeps = effective_task old.state.owners t number

  abbrev want : WantValue
  want = want_of ask (side_for old.state t form ask.loc)

  abbrev Alike : Type 0
  Alike = (answer ≡ other) × ((a ≡ b) ⊎ Apart hints old a b t area v answer)

  same_answer : (v : Bool) (p q : PlaceValue) → p.len ≡ q.len → grant_answer (written.Obtain form number ask v area) p ≡ grant_answer (written.Obtain form number ask v area) q
  same_answer true p q e = ap tells.Granted e
  same_answer false p q e = refl

  obtains : Makes (Takes hints) old t k (request.Obtain form number ask) answer a → Makes Any old t k (request.Obtain form number ask) other b → Alike
  obtains x y = by_active (is_active old.state.owners t) (step_cases old.state t (request.Obtain form number ask) x.reply a.state x.step) (step_cases old.state t (request.Obtain form number ask) y.reply b.state y.step) (λ p q. none (ap granted_at p.0) (ap granted_at q.0))
      (λ active p q. by_two (is_invalid number) p q (λ u v. none (ap granted_at u.1) (ap granted_at v.1)) (at active)) where
        none : granted_at x.reply ≡ [] → granted_at y.reply ≡ [] → Alike
        none e f =
            let s = one_step old.state t (request.Obtain form number ask) x.reply y.reply a.state b.state x.step y.step (e ∙ sym f) in
            let m = made_same (Takes hints) old t answer other a b k (request.Obtain form number ask) x y s.0 s.1 in
            (m.0, inl m.1)

        both : is_active old.state.owners t ≡ true → (p q : PlaceValue) → x.reply ≡ Obtained p → y.reply ≡ Obtained q → GrantTo old.state keeps number want p a.state → GrantTo old.state keeps number want q b.state → Alike
        both active p q d e g h =
            let s = one_subpool old.state.owners keeps number g.subpool h.subpool g.is_subpool h.is_subpool in
            let len = same_length old.state h.subpool want p q (subst (λ s. Chosen old.state.regions (holder old.state) s want p) s g.chosen) h.chosen in (
              x.answer_is ∙ ap (answer_of old.state k (request.Obtain form number ask)) d ∙ same_answer v p q len ∙ sym (y.answer_is ∙ ap (answer_of old.state k (request.Obtain form number ask)) e),
              inr (record {
                long = subst (IsLong v) (sym (x.answer_is ∙ ap (answer_of old.state k (request.Obtain form number ask)) d)) (grant_long form number ask v area p);
                active = active;
                keeps = keeps;
                number = number;
                want = want;
                one = p;
                other = q;
                granted = g;
                granted_other = h;
                names = x.names ∙ ap (λ reply. all_set old.names (names_set k) (places_in reply)) d;
                names_other = y.names ∙ ap (λ reply. all_set old.names (names_set k) (places_in reply)) e;
                abended = x.abended ∙ ap (λ reply. old.abended || is_abend reply) d ∙ sym (y.abended ∙ ap (λ reply. old.abended || is_abend reply) e);
                former = x.former ∙ sym y.former;
                takes = λ n e. (subst (λ reply. Takes hints old.state t (request.Obtain form number ask) reply a.state) d x.meets) n (ap first_of e);
              }),
            )

        at : is_active old.state.owners t ≡ true → (ShortOf old.state keeps number want × Fails (is_conditional form) old.state t (short (family form)) x.reply a.state) ⊎ ((p : PlaceValue) × (x.reply ≡ Obtained p) × GrantTo old.state keeps number want p a.state)
            → (ShortOf old.state keeps number want × Fails (is_conditional form) old.state t (short (family form)) y.reply b.state) ⊎ ((p : PlaceValue) × (y.reply ≡ Obtained p) × GrantTo old.state keeps number want p b.state) → Alike
        at active (inl u) (inl v) = none (none_granted (is_conditional form) old.state t _ x.reply a.state u.1) (none_granted (is_conditional form) old.state t _ y.reply b.state v.1)
        at active (inl u) (inr v) = absurd (no_grant old.state keeps number want v.0 b.state (round8_some ask.least ranged.some) u.0 v.2)
        at active (inr u) (inl v) = absurd (no_grant old.state keeps number want u.0 a.state (round8_some ask.least ranged.some) v.0 u.2)
        at active (inr u) (inr v) = both active u.0 v.0 u.1 v.1 u.2 v.2

  pub asked : Does (Takes hints) old t (says.Request k) answer a → Does Any old t (says.Request k) other b → Alike
  asked x y = by_two (not (is_active old.state.owners t)) x y (λ p q. (p.0 ∙ sym q.0, inl (p.1 ∙ sym q.1))) obtains

-- a task is active after a grant
pub task_stays : (old new : State) (t holds : Name) (number : ℕ) (wanted : WantValue) (p : PlaceValue) → GrantTo old holds number wanted p new → is_active old.owners t ≡ true → is_active new.owners t ≡ true
task_stays old new t holds number wanted p g e = ap (λ tasks. contains_key tasks t) (enters_tasks old.owners holds number g.subpool new.owners g.owners) ∙ e

-- ---- the question

-- an address in a region has 31 bits
pub small : (r : Regions) (p : PlaceValue) → IsBounded r → InRegion r p → p.addr < 2 ^ 31
small r p bounded (inl i) = let b = bounded.below in omega (arith, i.0, i.1, b)
small r p bounded (inr i) = let b = bounded.above in omega (arith, i.0, i.1, b)

pub name_put : (names : FinMap name_cmp PlaceValue) (area : Name) (p : PlaceValue) → get (insert names area p) area ≡ Some p
name_put names area p = get-insert name_cmp_total names area p area ∙ ap (λ b. cond b (Some p) (get names area)) (same_name_self area)

-- What is known of where the two are, and what follows if they are at one address.
pub record Located (hints : List ℕ) (a b : JobValue) (answer other : Answer) : Type 0 where
  pub one : ℕ
  pub another : ℕ
  pub answer_is : answer ≡ At one
  pub other_is : other ≡ At another
  pub small_one : one < 2 ^ 31
  pub small_another : another < 2 ^ 31
  pub same : one ≡ another → a ≡ b
  pub takes : (k : ℕ) → hints ≡ k ∷ [] → another ≡ k → one ≡ k

module _ (hints : List ℕ) (old a b : JobValue) (t area : Name) (v : Bool) (first : Answer) (h : Apart hints old a b t area v first) where
  active_then : (new : State) (holds : Name) (number : ℕ) (wanted : WantValue) (p : PlaceValue) → GrantTo old.state holds number wanted p new → is_active new.owners t ≡ true
  active_then new holds number wanted p g = task_stays old.state new t holds number wanted p g h.active

  when_active : (P Q : Type 0) (active : Bool) → active ≡ true → MatchBool (not active) P Q → Q
  when_active P Q true e x = x
  when_active P Q false e x = absurd (let f : false ≡ true = e in cc)

  apart_same : h.one.addr ≡ h.other.addr → a ≡ b
  apart_same e =
      let s = one_grant old.state h.keeps h.number h.want h.one h.other a.state b.state h.granted h.granted_other e in
      let names : a.names ≡ b.names = h.names ∙ ap (insert old.names area) s.0 ∙ sym h.names_other in
      λ i. record { state = s.1 i; names = names i; abended = h.abended i; former = h.former i }

  pub located : (P : Condition) (answer other : Answer) (c d : JobValue) → IsBounded old.state.regions → Does P a t (says.Where area) answer c → Does Any b t (says.Where area) other d → Located hints c d answer other
  located P answer other c d bounded x y =
      let p = when_active _ _ (is_active a.state.owners t) (active_then a.state h.keeps h.number h.want h.one h.granted) x in
      let q = when_active _ _ (is_active b.state.owners t) (active_then b.state h.keeps h.number h.want h.other h.granted_other) y in
      record {
        one = h.one.addr;
        another = h.other.addr;
        answer_is = p.0 ∙ ap where_answer (ap (λ names. get names area) h.names ∙ name_put old.names area h.one);
        other_is = q.0 ∙ ap where_answer (ap (λ names. get names area) h.names_other ∙ name_put old.names area h.other);
        small_one = small old.state.regions h.one bounded (grant_inside old.state h.keeps h.number h.want h.one a.state h.granted);
        small_another = small old.state.regions h.other bounded (grant_inside old.state h.keeps h.number h.want h.other b.state h.granted_other);
        same = λ e. p.1 ∙ apart_same e ∙ sym q.1;
        takes = λ k e f. h.takes k e h.other b.state h.granted_other f;
      }
