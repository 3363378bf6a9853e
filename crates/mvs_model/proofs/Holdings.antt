-- Whether a subpool holds places can be decided.
use Rattle.std.proofs.Common.{◌≡◌, ℕ, ◌+◌, ◌*◌, ◌<◌, inl, inr, Bool, List, [], ◌∷◌, Option, Some, None, arith}
use Rattle.std.specs.List.{AllByRecursion}
use Rattle.std.proofs.lemmas.Bool.Decides.{nat_tests}
use Rattle.std.specs.FinMap.{get}
use Rattle.mvs_model.specs.Place.{PlaceValue}
use Rattle.mvs_model.specs.Storage.{Covers}
use Rattle.mvs_model.specs.State.{State, Holding, plain}
use Rattle.mvs_model.specs.Changes.{HeldPlain, Misses, Disjoint}
use Rattle.mvs_model.proofs.Decide.{Decided, decided_and, decided_implies, decided_like, decided_lt, decided_all}

pooled_in : Option Holding → Option Bool
pooled_in None = None
pooled_in (Some h) = Some h.pooled

-- whether a place may be released
pub decided_is : (o : Option Holding) (s : ℕ) → Decided (o ≡ Some (plain s))
unfolding pooled_in
decided_is o s = grind (arith, nat_tests)

pub decided_covers : (p : PlaceValue) (d : ℕ) → Decided (Covers p d)
decided_covers p d = decided_and (decided_lt p.addr (8 * d + 8)) (decided_lt (8 * d) (p.addr + p.len))

pub decided_held : (st : State) (s : ℕ) (p : PlaceValue) → Decided (HeldPlain st s p)
decided_held st s p =
    decided_like (λ h d c. h d (let l : 8 * d < p.addr + p.len = c.1 in omega arith) c) (λ h d l c. h d c)
    (decided_all (λ d. Covers p d → get st.held d ≡ Some (plain s)) (λ d. decided_implies (decided_covers p d) (decided_is (get st.held d) s)) (p.addr + p.len))

pub decided_misses : (p q : PlaceValue) → Decided (Misses p q)
decided_misses p q =
    decided_like (λ h d c e. h d (let l : 8 * d < p.addr + p.len = c.1 in omega arith) c e) (λ h d l c e. h d c e)
    (decided_all (λ d. Covers p d → Covers q d → ⊥) (λ d. decided_implies (decided_covers p d) (decided_implies (decided_covers q d) (inr (λ f. f)))) (p.addr + p.len))

pub decided_each : {X : Type 0} → (P : X → Type 0) → ((x : X) → Decided (P x)) → (xs : List X) → Decided (AllByRecursion P xs)
decided_each P decide [] = inl tt
decided_each P decide (x ∷ xs) = decided_and (decide x) (decided_each P decide xs)

pub decided_disjoint : (ps : List PlaceValue) → Decided (Disjoint ps)
decided_disjoint [] = inl tt
decided_disjoint (p ∷ ps) = decided_and (decided_each (Misses p) (decided_misses p) ps) (decided_disjoint ps)
