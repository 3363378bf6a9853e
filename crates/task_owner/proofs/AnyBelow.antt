-- Tests of the numbers below a bound.
use Rattle.std.proofs.Common.{◌≡◌, ℕ, zero, suc, ◌+◌, ◌<◌, ◌≤◌, ◌≢◌, ◌==◌, Bool, true, false, ◌||◌, sym, ap, refl, ◌∙◌, arith, ◌⊎◌, inl, inr}
use Rattle.std.proofs.lemmas.Bool.{cases_lt, or_right}
use Rattle.mvs_model.specs.Finite.{any_below}
use Rattle.mvs_model.proofs.Below.{below_some}
use Rattle.std.proofs.lemmas.Bool.Decides.{eqb_tells}

module _ (test : ℕ → Bool) where
  pub none_below : any_below test 0 ≡ false
  unfolding any_below
  none_below = refl

  pub none_more : (n : ℕ) → any_below test n ≡ false → test n ≡ false → any_below test (n + 1) ≡ false
  unfolding any_below
  none_more n h e = let s : n + 1 ≡ suc n = omega arith in ap (any_below test) s ∙ (λ i. e i || h i)

  -- one that passes is found; what is found passes
  pub found_below : (n m : ℕ) → n < m → test n ≡ true → any_below test m ≡ true
  unfolding any_below
  found_below n zero l e = absurd (omega arith)
  found_below n (suc m) l e = by (eqb_tells n m) (λ h. found_below n m h e) where
    by : ((n == m) ≡ true) × (n ≡ m) ⊎ ((n == m) ≡ false) × (n ≢ m) → (n < m → any_below test m ≡ true) → (test m || any_below test m) ≡ true
    by (inl p) f = ap (λ j. test j || any_below test m) (sym p.1) ∙ ap (λ b. b || any_below test m) e
    by (inr p) f = let d : n ≢ m = p.1 in ap (λ b. test m || b) (f (omega arith)) ∙ or_right (test m) true refl

  -- where none passes, each fails
  pub fails_below : (n m : ℕ) → n < m → any_below test m ≡ false → test n ≡ false
  fails_below n m l h = by (test n) refl where
    by : (b : Bool) → test n ≡ b → b ≡ false
    by false e = refl
    by true e = absurd (let f : true ≡ false = sym (found_below n m l e) ∙ h in cc)

  -- a bound passes numbers that fail
  pub none_to : (from to : ℕ) → from ≤ to → any_below test from ≡ false → ((n : ℕ) → from ≤ n → n < to → test n ≡ false) → any_below test to ≡ false
  none_to from to le h fails = by (any_below test to) refl where
    by : (b : Bool) → any_below test to ≡ b → b ≡ false
    by false e = refl
    by true e =
        let p = below_some test to e in
        elim (cases_lt p.0 from) [
          | inl low ↦ absurd (let f : true ≡ false = sym p.2 ∙ fails_below p.0 from low h in cc)
          | inr high ↦ absurd (let f : true ≡ false = sym p.2 ∙ fails p.0 high p.1 in cc)
        ]
