-- A request for a list, and questions after it where its areas lie.
use Rattle.std.proofs.Common.{◌≡◌, ℕ, ◌<◌, ◌⊎◌, inl, inr, Bool, true, false, cond, List, [], ◌∷◌, ◌++◌, length, map, codes, decimal, Some, append_assoc, arith, refl, sym, ap, ◌∙◌, subst}
use Rattle.std.specs.Prelude.{◌≢◌, not, ◌^◌}
use Rattle.std.specs.List.{AllByRecursion}
use Rattle.std.specs.FinMap.{FinMap, get, insert, get-insert}
use Rattle.std.proofs.lemmas.List.{append_cancel_left}
use Rattle.mvs_model.proofs.StepCases.{step_cases}
use Rattle.mvs_model.specs.declared.name.Name.{Name}
use Rattle.mvs_model.specs.declared.code.Form.{Form}
use Rattle.mvs_model.specs.declared.want.Side.TheVariants.{Below}
use Rattle.mvs_model.specs.declared.line.Statement.TheVariants as says
use Rattle.mvs_model.specs.declared.line.SourceRequest.{SourceRequest}
use Rattle.mvs_model.specs.declared.line.SourceRequest.TheVariants as written
use Rattle.mvs_model.specs.declared.request.Request.{Request}
use Rattle.mvs_model.specs.declared.request.Request.TheVariants as request
use Rattle.mvs_model.specs.declared.request.Reply.{Reply}
use Rattle.mvs_model.specs.declared.request.Reply.TheVariants.{Listed}
use Rattle.mvs_model.specs.Place.{PlaceValue}
use Rattle.mvs_model.specs.Want.{WantValue, fixed_want}
use Rattle.mvs_model.specs.Name.{name_cmp, trimmed}
use Rattle.mvs_model.specs.Texts.{answer_text, code_text, reply_line}
use Rattle.mvs_model.specs.Owners.{is_active, effective_task}
use Rattle.mvs_model.specs.Storage.{InRegion, Regions}
use Rattle.mvs_model.specs.State.{State}
use Rattle.mvs_model.specs.declared.code.Family.{Family}
use Rattle.mvs_model.specs.Codes.{family, is_conditional, short}
use Rattle.mvs_model.specs.Changes.{ListGrant}
use Rattle.mvs_model.proofs.ByCase.{ListShort}
use Rattle.mvs_model.proofs.ByCase.{Fails}
use Rattle.mvs_model.specs.Requests.{is_invalid}
use Rattle.mvs_model.specs.Replies.{answer_of}
use Rattle.mvs_model.specs.Resolving.{all_set, places_in}
use Rattle.mvs_model.specs.Answers.{Answer, Abended, Rc0, Rc4}
use Rattle.mvs_model.specs.Job.{JobValue}
use Rattle.mvs_model.specs.Runs.{Any, Makes, Does}
use Rattle.mvs_model.specs.View.{IsBounded}
use Rattle.mvs_model.specs.Determined.{granted_at, ListFollowsHints}
use Rattle.mvs_model.proofs.OneSteps.{by_two, head_of, none_granted, one_grant, one_step, tail_of}
use Rattle.mvs_model.proofs.Orders.{name_cmp_total, names_differ}
use Rattle.mvs_laws.proofs.RegionsKept.{list_inside}
use Rattle.request_forms.specs.Taking.{Takes}
use Rattle.judge.specs.Judging.{AnswersList, AreApart}
use Rattle.judge.proofs.Areas.{by_active, name_put, small, task_stays}
use Rattle.judge.proofs.Settled.{made_same}

-- ---- the names of a list

set_apart : (names : FinMap name_cmp PlaceValue) (area : Name) (areas : List Name) (ps : List PlaceValue) → AllByRecursion (λ other. area ≢ other) areas → get (all_set names areas ps) area ≡ get names area
set_apart names area [] ps x = refl
set_apart names area (b ∷ areas) [] x = refl
set_apart names area (b ∷ areas) (p ∷ ps) x = set_apart (insert names b p) area areas ps x.1 ∙ get-insert name_cmp_total names b p area ∙ ap (λ t. cond t (Some p) (get names area)) (names_differ area b x.0)

-- The names are set to these places.
abbrev pub AreAt : FinMap name_cmp PlaceValue → List Name → List PlaceValue → Type 0
AreAt names [] [] = Unit {0}
AreAt names [] (p ∷ ps) = ⊥
AreAt names (area ∷ areas) [] = ⊥
AreAt names (area ∷ areas) (p ∷ ps) = (get names area ≡ Some p) × AreAt names areas ps

all_at : (names : FinMap name_cmp PlaceValue) (areas : List Name) (ps : List PlaceValue) → AreApart areas → length ps ≡ length areas → AreAt (all_set names areas ps) areas ps
all_at names [] [] apart e = tt
all_at names [] (p ∷ ps) apart e = absurd (omega (arith, e))
all_at names (area ∷ areas) [] apart e = absurd (omega (arith, e))
all_at names (area ∷ areas) (p ∷ ps) apart e = (set_apart (insert names area p) area areas ps apart.0 ∙ name_put names area p, all_at (insert names area p) areas ps apart.1 (omega (arith, e)))

-- ---- what a list is granted

list_long : (t : Name) (number : ℕ) (wants : List WantValue) (ps : List PlaceValue) (old new : State) → ListGrant old t number wants ps new → length ps ≡ length wants
list_long t number [] [] old new x = refl
list_long t number [] (p ∷ ps) old new x = absurd x
list_long t number (want ∷ wants) [] old new x = absurd x
list_long t number (want ∷ wants) (p ∷ ps) old new x = let e = list_long t number wants ps x.0 new x.2 in omega (arith, e)

map_long : {A B : Type 0} (f : A → B) (xs : List A) → length (map f xs) ≡ length xs
map_long f [] = refl
map_long f (x ∷ xs) = let e = map_long f xs in omega (arith, e)

-- a list that takes the addresses of another one is that
taken_same : (t : Name) (number : ℕ) (wants : List WantValue) (hints : List ℕ) (ps qs : List PlaceValue) (old a b : State) → ListFollowsHints old t number wants hints ps a → ListGrant old t number wants qs b → hints ≡ map (λ q. q.addr) qs → (ps ≡ qs) × (a ≡ b)
taken_same t number [] hints [] [] old a b x y e = (refl, x ∙ sym y)
taken_same t number [] hints [] (q ∷ qs) old a b x y e = absurd y
taken_same t number [] hints (p ∷ ps) qs old a b x y e = absurd x
taken_same t number (want ∷ wants) hints [] qs old a b x y e = absurd x
taken_same t number (want ∷ wants) [] (p ∷ ps) qs old a b x y e = absurd x
taken_same t number (want ∷ wants) (n ∷ hints) (p ∷ ps) [] old a b x y e = absurd y
taken_same t number (want ∷ wants) (n ∷ hints) (p ∷ ps) (q ∷ qs) old a b x y e =
    let here = x.2 q y.0 y.1 (sym (ap head_of e)) in
    let same = one_grant old t number want p q x.0 y.0 x.1 y.1 (here ∙ ap head_of e) in
    let rest = taken_same t number wants hints ps qs y.0 a b (subst (λ m. ListFollowsHints m t number wants hints ps a) same.1 x.3) y.2 (ap tail_of e) in
    ((λ i. same.0 i ∷ rest.0 i), rest.1)

list_active : (t : Name) (holds : Name) (number : ℕ) (wants : List WantValue) (ps : List PlaceValue) (old new : State) → ListGrant old holds number wants ps new → is_active old.owners t ≡ true → is_active new.owners t ≡ true
list_active t holds number [] [] old new x e = ap (λ st. is_active st.owners t) x ∙ e
list_active t holds number [] (p ∷ ps) old new x e = absurd x
list_active t holds number (want ∷ wants) [] old new x e = absurd x
list_active t holds number (want ∷ wants) (p ∷ ps) old new x e = list_active t holds number wants ps x.0 new x.2 (task_stays old x.0 t holds number want p x.1 e)

all_small : (r : Regions) (ps : List PlaceValue) → IsBounded r → AllByRecursion (InRegion r) ps → AllByRecursion (λ addr. addr < 2 ^ 31) (map (λ p. p.addr) ps)
all_small r [] bounded x = tt
all_small r (p ∷ ps) bounded x = (small r p bounded x.0, all_small r ps bounded x.1)

-- ---- the texts of a grant and of a refusal

-- The list is refused.
abbrev pub IsFailure : Answer → Type 0
IsFailure answer = (answer ≡ Rc4) ⊎ ((kin : Family) × (fallen : List Name) × (answer ≡ Abended (short kin) fallen))

front_parts : (d s x u : List ℕ) → (d ++ codes " " ++ s ++ codes " " ++ x ++ codes "\n") ++ u ≡ (d ++ codes " " ++ s ++ codes " ") ++ (x ++ (codes "\n" ++ u))
front_parts d s x u = search (append_assoc)

after_front : (number : ℕ) (t : Name) (x y u v : List ℕ) → reply_line number t x ++ u ≡ reply_line number t y ++ v → x ++ (codes "\n" ++ u) ≡ y ++ (codes "\n" ++ v)
after_front number t x y u v e = append_cancel_left (decimal number ++ codes " " ++ trimmed t ++ codes " ") _ _ (sym (front_parts (decimal number) (trimmed t) x u) ∙ e ∙ front_parts (decimal number) (trimmed t) y v)

pub texts_part : (number : ℕ) (t : Name) (answer : Answer) (u v : List ℕ) → IsFailure answer → answer_text number t Rc0 ++ u ≡ answer_text number t answer ++ v → ⊥
texts_part number t answer u v (inl is) e =
    let f = after_front number t (codes "RC 0") (codes "RC 4") u v (e ∙ ap (λ a. answer_text number t a ++ v) is) in
    let g : 48 ≡ 52 = ap (λ x. head_of (tail_of (tail_of (tail_of x)))) f in
    omega (arith, g)
texts_part number t answer u v (inr (kin, fallen, is)) e =
    let f = after_front number t (codes "RC 0") (codes "ABEND " ++ code_text (short kin)) u _ (e ∙ ap (λ a. answer_text number t a ++ v) is ∙ append_assoc (reply_line number t (codes "ABEND " ++ code_text (short kin))) _ v) in
    let g : 82 ≡ 65 = ap head_of f in
    omega (arith, g)

-- ---- the list

-- Both are granted the list, at places of their own.
pub record ListApart (hints : List ℕ) (a b : JobValue) (t : Name) (areas : List Name) : Type 0 where
  pub places : List PlaceValue
  pub are_at : AreAt b.names areas places
  pub active : is_active b.state.owners t ≡ true
  pub long : length (map (λ p. p.addr) places) ≡ length areas
  pub small : AllByRecursion (λ addr. addr < 2 ^ 31) (map (λ p. p.addr) places)
  pub same : hints ≡ map (λ p. p.addr) places → a ≡ b

-- One is granted it, and the other one refused.
abbrev pub AreOtherwise : Answer → Answer → Type 0
AreOtherwise answer other = ((answer ≡ Rc0) × IsFailure other) ⊎ (IsFailure answer × (other ≡ Rc0))

module _ (hints : List ℕ) (old : JobValue) (t : Name) (answer other : Answer) (a b : JobValue) (form : Form) (number : ℕ) (lengths : List ℕ) (start : ℕ) (areas : List Name) (long : length lengths ≡ length areas) (apart : AreApart areas) (bounded : IsBounded old.state.regions) where
  abbrev k : SourceRequest
  k = written.ObtainList form number lengths start areas

  abbrev r : Request
  r = request.ObtainList form number lengths start

  abbrev keeps : Name
  keeps = effective_task old.state.owners t number

  abbrev wants : List WantValue
  wants = map (λ n. fixed_want n start Below) lengths

  abbrev Alike : Type 0
  Alike = ((answer ≡ other) × (a ≡ b)) ⊎ (AreOtherwise answer other ⊎ ((answer ≡ other) × (answer ≡ Rc0) × ListApart hints a b t areas))

  fails : (c : Bool) (kin : Family) (reply : Reply) (new : State) (said : Answer) → Fails c old.state t (short kin) reply new → said ≡ answer_of old.state k r reply → IsFailure said
  fails true kin reply new said x e = inl (e ∙ ap (answer_of old.state k r) x.0)
  fails false kin reply new said x e = inr (kin, x.0.fallen, e ∙ ap (answer_of old.state k r) x.1)

  obtains : Makes (Takes hints) old t k r answer a → Makes Any old t k r other b → Alike
  obtains x y = by_active (is_active old.state.owners t) (step_cases old.state t r x.reply a.state x.step) (step_cases old.state t r y.reply b.state y.step) (λ p q. none (ap granted_at p.0) (ap granted_at q.0))
      (λ active p q. by_two (is_invalid number) p q (λ u v. none (ap granted_at u.1) (ap granted_at v.1)) (at active)) where
        same_at : granted_at x.reply ≡ granted_at y.reply → (answer ≡ other) × (a ≡ b)
        same_at e =
            let s = one_step old.state t r x.reply y.reply a.state b.state x.step y.step e in
            made_same (Takes hints) old t answer other a b k r x y s.0 s.1

        none : granted_at x.reply ≡ [] → granted_at y.reply ≡ [] → Alike
        none e f = inl (same_at (e ∙ sym f))

        takes : (ps qs : List PlaceValue) → x.reply ≡ Listed ps → y.reply ≡ Listed qs → ListGrant old.state keeps number wants qs b.state → length hints ≡ length lengths → hints ≡ map (λ q. q.addr) qs → a ≡ b
        takes ps qs d e h many at_qs =
            let taken = (subst (λ reply. Takes hints old.state t r reply a.state) d x.meets) many in
            let s = taken_same keeps number wants hints ps qs old.state a.state b.state taken h at_qs in
            (made_same (Takes hints) old t answer other a b k r x y (d ∙ ap Listed s.0 ∙ sym e) s.1).1

        both : is_active old.state.owners t ≡ true → (ps qs : List PlaceValue) → x.reply ≡ Listed ps → y.reply ≡ Listed qs → ListGrant old.state keeps number wants ps a.state → ListGrant old.state keeps number wants qs b.state → Alike
        both active ps qs d e g h =
            let many = list_long keeps number wants qs old.state b.state h ∙ map_long (λ n. fixed_want n start Below) lengths in
            inr (inr (
              x.answer_is ∙ ap (answer_of old.state k r) d ∙ sym (y.answer_is ∙ ap (answer_of old.state k r) e),
              x.answer_is ∙ ap (answer_of old.state k r) d,
              record {
                places = qs;
                are_at = subst (λ names. AreAt names areas qs) (sym (y.names ∙ ap (λ reply. all_set old.names areas (places_in reply)) e)) (all_at old.names areas qs apart (many ∙ long));
                active = list_active t keeps number wants qs old.state b.state h active;
                long = map_long (λ p. p.addr) qs ∙ many ∙ long;
                small = all_small old.state.regions qs bounded (list_inside old.state.regions keeps number wants qs old.state b.state refl h);
                same = λ f. takes ps qs d e h (ap length f ∙ map_long (λ p. p.addr) qs ∙ many) f;
              },
            ))

        at : is_active old.state.owners t ≡ true → (ListShort old.state keeps number wants × Fails (is_conditional form) old.state t (short (family form)) x.reply a.state) ⊎ ((ps : List PlaceValue) × (x.reply ≡ Listed ps) × ListGrant old.state keeps number wants ps a.state)
            → (ListShort old.state keeps number wants × Fails (is_conditional form) old.state t (short (family form)) y.reply b.state) ⊎ ((ps : List PlaceValue) × (y.reply ≡ Listed ps) × ListGrant old.state keeps number wants ps b.state) → Alike
        at active (inl u) (inl v) = none (none_granted (is_conditional form) old.state t _ x.reply a.state u.1) (none_granted (is_conditional form) old.state t _ y.reply b.state v.1)
        at active (inl u) (inr v) = inr (inl (inr (fails (is_conditional form) (family form) x.reply a.state answer u.1 x.answer_is, y.answer_is ∙ ap (answer_of old.state k r) v.1)))
        at active (inr u) (inl v) = inr (inl (inl (x.answer_is ∙ ap (answer_of old.state k r) u.1, fails (is_conditional form) (family form) y.reply b.state other v.1 y.answer_is)))
        at active (inr u) (inr v) = both active u.0 v.0 u.1 v.1 u.2 v.2

  pub listed : Does (Takes hints) old t (says.Request k) answer a → Does Any old t (says.Request k) other b → Alike
  listed x y = by_two (not (is_active old.state.owners t)) x y (λ p q. inl (p.0 ∙ sym q.0, p.1 ∙ sym q.1)) obtains

-- so a list is answered what it may be
pub answers_list : (answer : Answer) → IsFailure answer → AnswersList answer
answers_list answer x = inr x
