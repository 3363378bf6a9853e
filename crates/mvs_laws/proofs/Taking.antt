-- A request that takes the hinted addresses obeys.
use Rattle.std.proofs.Common.{◌≡◌, ◌≤◌, ◌⊎◌, ℕ, inl, inr, true, List, [], ◌∷◌, map, arith, sym, ap, ◌∙◌, subst}
use Rattle.std.specs.Prelude.{not, ◌≢◌, nat_le}
use Rattle.std.specs.List.{list_all}
use Rattle.std.proofs.lemmas.Bool.{and_parts}
use Rattle.std.proofs.lemmas.Bool.Decides.{nat_tests}
use Rattle.mvs_model.specs.declared.name.Name.{Name}
use Rattle.mvs_model.specs.declared.want.Side.TheVariants.{Below}
use Rattle.mvs_model.specs.declared.code.Form.{Form}
use Rattle.mvs_model.specs.declared.request.Request.TheVariants.{Obtain, ObtainList}
use Rattle.mvs_model.specs.declared.request.Reply.{Reply}
use Rattle.mvs_model.specs.declared.request.Reply.TheVariants.{Obtained, Listed}
use Rattle.mvs_model.specs.Place.{PlaceValue, round8}
use Rattle.mvs_model.specs.Want.{AskValue, WantValue, want_of, fixed_want}
use Rattle.mvs_model.specs.Owners.{is_active, effective_task}
use Rattle.mvs_model.specs.State.{State}
use Rattle.mvs_model.specs.Codes.{family, is_conditional, short}
use Rattle.mvs_model.specs.Changes.{GrantTo, ShortOf, ListGrant}
use Rattle.mvs_model.proofs.ByCase.{ListShort}
use Rattle.mvs_model.specs.Steps.{Step}
use Rattle.mvs_model.proofs.ByCase.{Fails}
use Rattle.mvs_model.specs.Requests.{side_for, is_invalid}
use Rattle.mvs_model.specs.Determined.{granted_at, Obeys, FollowsHint, ListFollowsHints, ListStops, TakingObeys}
use Rattle.mvs_model.proofs.OneSteps.{by_two, one_grant, none_granted, head_of, tail_of}
use Rattle.mvs_model.proofs.StepCases.{no_grant, step_cases}

-- what a step of a request for an area says, where it grants something
abbrev pub Granting : State → Name → ℕ → WantValue → List ℕ → Type 0
Granting old t number want hints = (q : PlaceValue) × (later : State) × GrantTo old t number want q later × (q.addr ∷ [] ≡ hints)

granting : (old : State) (t : Name) (form : Form) (number : ℕ) (ask : AskValue) (hints : List ℕ) (reply : Reply) (new : State) → hints ≢ [] → Step old t (Obtain form number ask) reply new → granted_at reply ≡ hints
    → Granting old (effective_task old.owners t number) number (want_of ask (side_for old t form ask.loc)) hints
granting old t form number ask hints reply new some step e =
    let x = step_cases old t (Obtain form number ask) reply new step in
    by_two (not (is_active old.owners t)) x x (λ p q. absurd (some (sym e ∙ ap granted_at q.0)))
    (λ p q. by_two (is_invalid number) q q (λ u v. absurd (some (sym e ∙ ap granted_at v.1))) (λ u v. at v)) where
      at : (ShortOf old (effective_task old.owners t number) number (want_of ask (side_for old t form ask.loc)) × Fails (is_conditional form) old t (short (family form)) reply new)
          ⊎ ((p : PlaceValue) × (reply ≡ Obtained p) × GrantTo old (effective_task old.owners t number) number (want_of ask (side_for old t form ask.loc)) p new)
          → Granting old (effective_task old.owners t number) number (want_of ask (side_for old t form ask.loc)) hints
      at (inl y) = absurd (some (sym e ∙ none_granted (is_conditional form) old t _ reply new y.1))
      at (inr y) = (y.0, new, y.2, sym (ap granted_at y.1) ∙ e)

area : (old : State) (t : Name) (form : Form) (number : ℕ) (ask : AskValue) (a : ℕ) (p : PlaceValue) (new : State)
    → FollowsHint old (effective_task old.owners t number) number (want_of ask (side_for old t form ask.loc)) a p → Obeys (a ∷ []) old t (Obtain form number ask) (Obtained p) new
area old t form number ask a p new takes some other later x e =
    let g = granting old t form number ask (a ∷ []) other later some x e in
    ap (λ n. n ∷ []) (takes g.0 g.1 g.2 (ap head_of g.3))

-- the same of a list
abbrev pub ListGranting : State → Name → ℕ → List WantValue → List ℕ → Type 0
ListGranting old t number wants hints = (qs : List PlaceValue) × (later : State) × ListGrant old t number wants qs later × (map (λ q. q.addr) qs ≡ hints)

list_granting : (old : State) (t : Name) (form : Form) (number : ℕ) (lengths : List ℕ) (start : ℕ) (hints : List ℕ) (reply : Reply) (new : State) → hints ≢ [] → Step old t (ObtainList form number lengths start) reply new → granted_at reply ≡ hints
    → ListGranting old (effective_task old.owners t number) number (map (λ n. fixed_want n start Below) lengths) hints
list_granting old t form number lengths start hints reply new some step e =
    let x = step_cases old t (ObtainList form number lengths start) reply new step in
    by_two (not (is_active old.owners t)) x x (λ p q. absurd (some (sym e ∙ ap granted_at q.0)))
    (λ p q. by_two (is_invalid number) q q (λ u v. absurd (some (sym e ∙ ap granted_at v.1))) (λ u v. at v)) where
      at : (ListShort old (effective_task old.owners t number) number (map (λ n. fixed_want n start Below) lengths) × Fails (is_conditional form) old t (short (family form)) reply new)
          ⊎ ((ps : List PlaceValue) × (reply ≡ Listed ps) × ListGrant old (effective_task old.owners t number) number (map (λ n. fixed_want n start Below) lengths) ps new)
          → ListGranting old (effective_task old.owners t number) number (map (λ n. fixed_want n start Below) lengths) hints
      at (inl y) = absurd (some (sym e ∙ none_granted (is_conditional form) old t _ reply new y.1))
      at (inr y) = (y.0, new, y.2, sym (ap granted_at y.1) ∙ e)

-- each takes the address of a grant that there is
list_takes : (t : Name) (number : ℕ) (wants : List WantValue) (hints : List ℕ) (ps qs : List PlaceValue) (old a b : State) → ListFollowsHints old t number wants hints ps a → ListGrant old t number wants qs b → map (λ q. q.addr) qs ≡ hints → map (λ p. p.addr) ps ≡ hints
list_takes t number [] hints [] [] old a b x y e = e
list_takes t number [] hints [] (q ∷ qs) old a b x y e = absurd y
list_takes t number [] hints (p ∷ ps) qs old a b x y e = absurd x
list_takes t number (want ∷ wants) hints [] qs old a b x y e = absurd x
list_takes t number (want ∷ wants) [] (p ∷ ps) qs old a b x y e = absurd x
list_takes t number (want ∷ wants) (n ∷ hints) (p ∷ ps) [] old a b x y e = absurd y
list_takes t number (want ∷ wants) (n ∷ hints) (p ∷ ps) (q ∷ qs) old a b x y e =
    let here : p.addr ≡ n = x.2 q y.0 y.1 (ap head_of e) in
    let same = one_grant old t number want p q x.0 y.0 x.1 y.1 (here ∙ sym (ap head_of e)) in
    let rest = list_takes t number wants hints ps qs y.0 a b (subst (λ m. ListFollowsHints m t number wants hints ps a) same.1 x.3) y.2 (ap tail_of e) in
    λ i. here i ∷ rest i

areas : (old : State) (t : Name) (form : Form) (number : ℕ) (lengths : List ℕ) (start : ℕ) (hints : List ℕ) (ps : List PlaceValue) (new : State)
    → ListFollowsHints old (effective_task old.owners t number) number (map (λ n. fixed_want n start Below) lengths) hints ps new → Obeys hints old t (ObtainList form number lengths start) (Listed ps) new
areas old t form number lengths start hints ps new takes some other later x e =
    let g = list_granting old t form number lengths start hints other later some x e in
    list_takes (effective_task old.owners t number) number (map (λ n. fixed_want n start Below) lengths) hints ps g.0 old new g.1 takes g.2 g.3

-- and stops nowhere
some_length : (n : ℕ) → nat_le 1 n ≡ true → 1 ≤ round8 n
some_length n e = let l : 1 ≤ n = grind (arith, nat_tests) in omega arith

list_goes_on : (t : Name) (number start : ℕ) (lengths hints : List ℕ) (qs : List PlaceValue) (old b : State) → list_all (λ n. nat_le 1 n) lengths ≡ true → ListStops old t number (map (λ n. fixed_want n start Below) lengths) hints
    → ListGrant old t number (map (λ n. fixed_want n start Below) lengths) qs b → map (λ q. q.addr) qs ≡ hints → ⊥
list_goes_on t number start [] hints qs old b some x y e = x
list_goes_on t number start (n ∷ lengths) [] qs old b some x y e = x
list_goes_on t number start (n ∷ lengths) (a ∷ hints) [] old b some x y e = y
list_goes_on t number start (n ∷ lengths) (a ∷ hints) (q ∷ qs) old b some (inl x) y e = no_grant old t number (fixed_want n start Below) q y.0 (some_length n (and_parts _ _ some).0) x y.1
list_goes_on t number start (n ∷ lengths) (a ∷ hints) (q ∷ qs) old b some (inr x) y e =
    let here : x.0.addr ≡ a = x.3 q y.0 y.1 (ap head_of e) in
    let same = one_grant old t number (fixed_want n start Below) x.0 q x.1 y.0 x.2 y.1 (here ∙ sym (ap head_of e)) in
    list_goes_on t number start lengths hints qs y.0 b (and_parts (nat_le 1 n) _ some).1 (subst (λ m. ListStops m t number (map (λ n. fixed_want n start Below) lengths) hints) same.1 x.4) y.2 (ap tail_of e)

pub taking_obeys : TakingObeys
taking_obeys = record {
  area = area;
  areas = areas;
  stops = λ old t form number lengths start hints reply new each stop some other later x e.
      let g = list_granting old t form number lengths start hints other later some x e in
      absurd (list_goes_on (effective_task old.owners t number) number start lengths hints g.0 old g.1 each stop g.2 g.3);
}
