-- What is so of a request that is refused.
use Rattle.std.proofs.Common.{◌≡◌, ℕ, arith, inl, inr, Bool, true, false, List, [], ◌∷◌, length, map, Option, Some, None, refl, sym, ap, ◌∙◌, subst, not}
use Rattle.std.specs.Prelude.{◌&&◌, ◌+◌, ◌≤◌, MatchOption, is_some}
use Rattle.std.specs.List.{list_all}
use Rattle.std.specs.FinMap.{get}
use Rattle.std.specs.FinSet as set
use Rattle.mvs_model.specs.declared.name.Name.{Name}
use Rattle.mvs_model.specs.declared.request.Request.{Request}
use Rattle.mvs_model.specs.declared.request.Request.TheVariants.{Obtain, ObtainList, Release, ReleaseList, ReleaseWhole, Build, Get, Free, Delete, Attach, Return, Abend, Show, Put, Move}
use Rattle.mvs_model.specs.declared.refusal.Refusal.{Refusal}
use Rattle.mvs_model.specs.Place.{PlaceValue, place_at}
use Rattle.mvs_model.specs.Want.{WantValue}
use Rattle.mvs_model.specs.Storage.{Chosen, NoPlace}
use Rattle.mvs_model.specs.Owners.{SubpoolOf, is_active, subpool_meant}
use Rattle.mvs_model.specs.Pools.{Pool}
use Rattle.mvs_model.specs.State.{State, granted, holder}
use Rattle.mvs_model.specs.Changes.{Disjoint, Granted, ShortOf}
use Rattle.mvs_model.specs.Requests.{all_granted, is_invalid, on_doubleword, whole}
use Rattle.mvs_model.specs.Causes.{HoldsEach, IsRefused, Refused, causes_of, cell_causes, free_causes, places_causes}
use Rattle.mvs_model.specs.Reasons.{FirstDenied, IsDeniedIn, number_of, released}
use Rattle.mvs_model.proofs.Below.{each_below}
use Rattle.mvs_model.proofs.OneOwners.{one_subpool}
use Rattle.mvs_model.proofs.StorageLaws.{none_chosen}
use Rattle.request_forms.specs.Refused.{Concerns, FurtherShort, SomeUnheld}

not_true : (b : Bool) → not b ≡ true → b ≡ false
not_true true e = absurd (let f : false ≡ true = e in cc)
not_true false e = refl

not_false : (b : Bool) → not b ≡ false → b ≡ true
not_false true e = refl
not_false false e = absurd (let f : true ≡ false = e in cc)

and_true : (b : Bool) → b && true ≡ b
and_true true = refl
and_true false = refl

module _ (st : State) (t : Name) where
  -- of places that a request releases
  of_places : (request : Request) (number : ℕ) (ps : List PlaceValue) (x : Refusal) → number_of request ≡ number → released request ≡ ps → is_active st.owners t ≡ true → Refused (places_causes st t number ps) x → Concerns st t request x
  of_places request number ps x n e active (inl h) = subst (Concerns st t request) (sym h.1) tt
  of_places request number ps x n e active (inr (valid, inl h)) = subst (Concerns st t request) (sym h.1) (ap (list_all on_doubleword) e ∙ not_true (list_all on_doubleword ps) h.0)
  of_places request number ps x n e active (inr (valid, inr (on, inl h))) = subst (Concerns st t request) (sym h.1) (active, ap is_invalid n ∙ valid)
  of_places request number ps x n e active (inr (valid, inr (on, inr (some, inl h)))) =
      subst (Concerns st t request) (sym h.1) (
        active,
        ap is_invalid n ∙ valid,
        ap (list_all on_doubleword) e ∙ not_false (list_all on_doubleword ps) on,
        subst (λ v. SomeUnheld st (subpool_meant st.owners t v) (map whole (released request))) (sym n) (subst (λ qs. SomeUnheld st (subpool_meant st.owners t number) (map whole qs)) (sym e) (at (subpool_meant st.owners t number) refl some h.0)),
      ) where
        at : (v : Option ℕ) → subpool_meant st.owners t number ≡ v → not (is_some v) ≡ false → (HoldsEach st v (map whole ps) → ⊥) → SomeUnheld st (subpool_meant st.owners t number) (map whole ps)
        at None is some lacks = absurd (let f : true ≡ false = some in cc)
        at (Some s) is some lacks = (s, is, lacks)
  of_places request number ps x n e active (inr (valid, inr (on, inr (some, inr (held, inl h))))) = subst (Concerns st t request) (sym h.1) (subst (λ qs. Disjoint (map whole qs) → ⊥) (sym e) h.0)
  of_places request number ps x n e active (inr (valid, inr (on, inr (some, inr (held, inr h))))) = absurd h.1

  of_cell : (name : Name) (conditional : Bool) (v : Option Pool) → get st.pools name ≡ v → is_active st.owners t ≡ true → (x : Refusal) → Refused (cell_causes st conditional v) x → Concerns st t (Get name conditional) x
  of_cell name conditional None is active x h = absurd h
  of_cell name conditional (Some pool) is active x (inl h) = subst (Concerns st t (Get name conditional)) (sym h.1) tt
  of_cell name conditional (Some pool) is active x (inr (other, inl h)) = subst (Concerns st t (Get name conditional)) (sym h.1) (active, subst (FurtherShort st) (sym is) h.0.1)
  of_cell name conditional (Some pool) is active x (inr (other, inr h)) = absurd h.1

  of_free : (name : Name) (c : ℕ) (v : Option Pool) → get st.pools name ≡ v → (x : Refusal) → Refused (free_causes c v) x → Concerns st t (Free name c) x
  of_free name c None is x h = absurd h
  of_free name c (Some pool) is x (inl h) = subst (Concerns st t (Free name c)) (sym h.1) (pool, is, not_true (set.contains pool.taken c) h.0)
  of_free name c (Some pool) is x (inr h) = absurd h.1

  concerns_of : (request : Request) (x : Refusal) → is_active st.owners t ≡ true → Refused (causes_of st t request) x → Concerns st t request x
  concerns_of (Obtain form number ask) x active (inl h) = subst (Concerns st t (Obtain form number ask)) (sym h.1) tt
  concerns_of (Obtain form number ask) x active (inr (valid, inl h)) = subst (Concerns st t (Obtain form number ask)) (sym h.1) (active, (valid, h.0))
  concerns_of (Obtain form number ask) x active (inr (valid, inr h)) = absurd h.1
  concerns_of (ObtainList form number lengths start) x active (inl h) = subst (Concerns st t (ObtainList form number lengths start)) (sym h.1) tt
  concerns_of (ObtainList form number lengths start) x active (inr (valid, inl h)) = subst (Concerns st t (ObtainList form number lengths start)) (sym h.2) refl
  concerns_of (ObtainList form number lengths start) x active (inr (valid, inr h)) = absurd h.1
  concerns_of (Release form number p) x active h = of_places (Release form number p) number (p ∷ []) x refl refl active h
  concerns_of (ReleaseList form number ps) x active h = of_places (ReleaseList form number ps) number ps x refl refl active h
  concerns_of (ReleaseWhole form number) x active (inl h) = subst (Concerns st t (ReleaseWhole form number)) (sym h.1) tt
  concerns_of (ReleaseWhole form number) x active (inr (valid, inl h)) = subst (Concerns st t (ReleaseWhole form number)) (sym h.1) tt
  concerns_of (ReleaseWhole form number) x active (inr (valid, inr h)) = absurd h.1
  concerns_of (Build name number size primary secondary loc) x active (inl h) = subst (Concerns st t (Build name number size primary secondary loc)) (sym h.1) tt
  concerns_of (Build name number size primary secondary loc) x active (inr (valid, inl h)) = subst (Concerns st t (Build name number size primary secondary loc)) (sym h.1) tt
  concerns_of (Build name number size primary secondary loc) x active (inr (valid, inr (new, inl h))) = subst (Concerns st t (Build name number size primary secondary loc)) (sym h.1) tt
  concerns_of (Build name number size primary secondary loc) x active (inr (valid, inr (new, inr (few, inl h)))) = subst (Concerns st t (Build name number size primary secondary loc)) (sym h.1) (active, (valid, h.0))
  concerns_of (Build name number size primary secondary loc) x active (inr (valid, inr (new, inr (few, inr h)))) = absurd h.1
  concerns_of (Get name conditional) x active (inl h) = subst (Concerns st t (Get name conditional)) (sym h.1) tt
  concerns_of (Get name conditional) x active (inr h) = of_cell name conditional (get st.pools name) refl active x h.1
  concerns_of (Free name c) x active (inl h) = subst (Concerns st t (Free name c)) (sym h.1) tt
  concerns_of (Free name c) x active (inr h) = of_free name c (get st.pools name) refl x h.1
  concerns_of (Delete name) x active (inl h) = subst (Concerns st t (Delete name)) (sym h.1) tt
  concerns_of (Delete name) x active (inr h) = absurd h.1
  concerns_of (Attach name gifts residence) x active (inl h) = subst (Concerns st t (Attach name gifts residence)) (sym h.1) tt
  concerns_of (Attach name gifts residence) x active (inr (new, inl h)) = subst (Concerns st t (Attach name gifts residence)) (sym h.1) tt
  concerns_of (Attach name gifts residence) x active (inr (new, inr (few, inl h))) = subst (Concerns st t (Attach name gifts residence)) (sym h.1) (active, h.0)
  concerns_of (Attach name gifts residence) x active (inr (new, inr (few, inr h))) = absurd h.1
  concerns_of Return x active (inl h) = subst (Concerns st t Return) (sym h.1) (active, h.0)
  concerns_of Return x active (inr h) = absurd h.1
  concerns_of (Abend n) x active (inl h) = subst (Concerns st t (Abend n)) (sym h.1) refl
  concerns_of (Abend n) x active (inr h) = absurd h.1
  concerns_of (Show a n) x active (inl h) = subst (Concerns st t (Show a n)) (sym h.1) (and_true (all_granted st (place_at a n)) ∙ not_true (all_granted st (place_at a n)) h.0)
  concerns_of (Show a n) x active (inr h) = absurd h.1
  concerns_of (Put a bytes) x active (inl h) = subst (Concerns st t (Put a bytes)) (sym h.1) (and_true (all_granted st (place_at a (length bytes))) ∙ not_true (all_granted st (place_at a (length bytes))) h.0)
  concerns_of (Put a bytes) x active (inr h) = absurd h.1
  concerns_of (Move to from n) x active (inl h) =
      subst (Concerns st t (Move to from n)) (sym h.1) (ap (λ b. all_granted st (place_at to n) && b) (and_true (all_granted st (place_at from n))) ∙ not_true (all_granted st (place_at to n) && all_granted st (place_at from n)) h.0)
  concerns_of (Move to from n) x active (inr h) = absurd h.1

  pub concerns : (request : Request) (x : Refusal) → IsRefused st t request x → Concerns st t request x
  concerns request x (inl h) = subst (Concerns st t request) (sym h.1) (not_true (is_active st.owners t) h.0)
  concerns request x (inr h) = concerns_of request x (not_false (is_active st.owners t) h.0) h.1

module _ (st : State) where
  granted_all : (p : PlaceValue) → Granted st p → all_granted st p ≡ true
  granted_all p h = each_below (λ i. granted st (p.addr + i)) p.len (λ i l. h (p.addr + i) (omega arith) (omega arith))

  -- one place, and two, of which the first is looked at first
  pub denied_one : (p : PlaceValue) (v : Option ℕ) → MatchOption v (Granted st p) (IsDeniedIn st p) → MatchOption v (list_all (all_granted st) (p ∷ []) ≡ true) (FirstDenied st (p ∷ []))
  denied_one p None h = and_true (all_granted st p) ∙ granted_all p h
  denied_one p (Some a) h = inl h

  pub denied_first : (p q : PlaceValue) (a : ℕ) → IsDeniedIn st p a → FirstDenied st (p ∷ q ∷ []) a
  denied_first p q a h = inl h

  pub denied_second : (p q : PlaceValue) (v : Option ℕ) → Granted st p → MatchOption v (Granted st q) (IsDeniedIn st q) → MatchOption v (list_all (all_granted st) (p ∷ q ∷ []) ≡ true) (FirstDenied st (p ∷ q ∷ []))
  denied_second p q None g h = ap (λ b. b && list_all (all_granted st) (q ∷ [])) (granted_all p g) ∙ and_true (all_granted st q) ∙ granted_all q h
  denied_second p q (Some a) g h = inr (g, inl h)

  -- what has a place is not short
  pub not_short : (o : Name) (number s : ℕ) (want : WantValue) → 1 ≤ want.least → SubpoolOf st.owners o number s → ShortOf st o number want → (p : PlaceValue) × Chosen st.regions (holder st) s want p → ⊥
  not_short o number s want some is short c =
      none_chosen st.regions (holder st) s want c.0 some (subst (λ x. NoPlace st.regions (holder st) x want) (sym (one_subpool st.owners o number s short.0 is short.1)) short.2) c.1
