-- The first of some places that is not held, and the first that another one meets.
use Rattle.std.proofs.Common.{◌≡◌, ℕ, ◌*◌, inl, inr, List, ◌∷◌, map, Option, Some, None, is_some, true, false, refl, sym, ap, ◌∙◌, subst, []}
use Rattle.std.specs.Prelude.{MatchOption, ◌&&◌}
use Rattle.std.specs.List.{AllByRecursion, list_all}
use Rattle.mvs_model.specs.Place.{PlaceValue}
use Rattle.mvs_model.specs.Changes.{HeldPlain, Misses}
use Rattle.mvs_model.specs.State.{State}
use Rattle.mvs_model.specs.Requests.{on_doubleword, whole}
use Rattle.mvs_model.specs.Reasons.{IsFirstOff, IsUnheld, IsUnheldIn, Meets}
use Rattle.request_forms.specs.declared.unreleased.Met.{Met}

-- where one place is off a doubleword, not all are on one
pub off_not_all : (ps : List PlaceValue) (a : ℕ) → IsFirstOff ps a → list_all on_doubleword ps ≡ false
off_not_all [] a h = absurd h
off_not_all (p ∷ ps) a (inl h) = ap (λ b. b && list_all on_doubleword ps) h.0
off_not_all (p ∷ ps) a (inr h) = ap (λ b. b && list_all on_doubleword ps) h.0 ∙ off_not_all ps a h.1

pub is_none : {X : Type 0} (v : Option X) → is_some v ≡ false → v ≡ None
is_none None e = refl
is_none (Some x) e = absurd (let f : true ≡ false = e in cc)

module _ (st : State) (s : ℕ) where
  abbrev pub Unheld : List PlaceValue → Option ℕ → Type 0
  Unheld ps v = MatchOption v (AllByRecursion (HeldPlain st s) ps) (λ a. (d : ℕ) × (a ≡ 8 * d) × IsUnheld st s ps d)

  -- what is known of the first place
  abbrev pub UnheldIn : PlaceValue → Option ℕ → Type 0
  UnheldIn p v = MatchOption v (HeldPlain st s p) (λ a. (d : ℕ) × (a ≡ 8 * d) × IsUnheldIn st s p d)

  pub unheld_first : (xs rest : List PlaceValue) (p : PlaceValue) (v : Option ℕ) → xs ≡ p ∷ rest → (v ≡ None → ⊥) → UnheldIn (whole p) v → Unheld (map whole xs) v
  unheld_first xs rest p v e some h = subst (λ l. Unheld (map whole l) v) (sym e) (at v some h) where
    at : (v : Option ℕ) → (v ≡ None → ⊥) → UnheldIn (whole p) v → Unheld (map whole (p ∷ rest)) v
    at None some h = absurd (some refl)
    at (Some a) some h = (h.0, h.1, inl h.2)

  pub unheld_later : (xs rest : List PlaceValue) (p : PlaceValue) (u v : Option ℕ) → xs ≡ p ∷ rest → u ≡ None → UnheldIn (whole p) u → Unheld (map whole rest) v → Unheld (map whole xs) v
  unheld_later xs rest p u v e none first h = subst (λ l. Unheld (map whole l) v) (sym e) (at v h) where
    held : HeldPlain st s (whole p)
    held = subst (UnheldIn (whole p)) none first

    at : (v : Option ℕ) → Unheld (map whole rest) v → Unheld (map whole (p ∷ rest)) v
    at None h = (held, h)
    at (Some a) h = (h.0, h.1, inr (held, h.2))

-- the first place that is met, where it is a later one
abbrev pub Meeting : PlaceValue → List PlaceValue → Option Met → Type 0
Meeting p xs v = MatchOption v (AllByRecursion (Misses (whole p)) (map whole xs)) (λ m. (d : ℕ) × (m.one ≡ p.addr) × (m.at ≡ 8 * d) × Meets (whole p) (map whole xs) m.other d)

pub met_later : (p : PlaceValue) (xs rest : List PlaceValue) (q : PlaceValue) (v : Option Met) → xs ≡ q ∷ rest → Misses (whole p) (whole q) → Meeting p rest v → Meeting p xs v
met_later p xs rest q v e none h = subst (λ l. Meeting p l v) (sym e) (at v h) where
  at : (v : Option Met) → Meeting p rest v → Meeting p (q ∷ rest) v
  at None h = (none, h)
  at (Some m) h = (h.0, h.1, h.2, inr (none, h.3))
