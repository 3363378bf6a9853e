-- What the reports say of a store and the owners.
use Rattle.std.proofs.Common.{◌≡◌, ℕ, zero, suc, ◌+◌, ◌<◌, ◌≤◌, inl, inr, Bool, true, false, cond, Option, Some, None, refl, sym, ap, ◌∙◌, arith, ◌==◌}
use Rattle.std.proofs.lemmas.Bool.{cases_lt}
use Rattle.std.proofs.lemmas.Bool.Decides.{nat_tests}
use Rattle.mvs_model.proofs.Types.{Name}
use Rattle.mvs_model.specs.Finite.{has}
use Rattle.mvs_model.specs.Owners.{Owners, entry}
use Rattle.mvs_model.specs.Consistent.{OwnersConsistent}
use Rattle.mvs_model.proofs.Keepers.{number_low}
use Rattle.mvs_model.specs.Reports.{first_from, number_of}
use Rattle.mvs_model.proofs.Tests.{none_some}

-- the first of the values that a function has
module _ {X : Type 0} where
  first_empty : (k : ℕ) (f : ℕ → Option X) → first_from k zero f ≡ None
  unfolding first_from
  first_empty k f = refl

  first_here : (k n : ℕ) (f : ℕ → Option X) (x : X) → f k ≡ Some x → first_from k (suc n) f ≡ Some x
  unfolding first_from
  first_here k n f x is = rw (is) refl

  first_later : (k n : ℕ) (f : ℕ → Option X) → f k ≡ None → first_from k (suc n) f ≡ first_from (k + 1) n f
  unfolding first_from
  first_later k n f is = rw (is) refl

  pub first_none : (k n : ℕ) (f : ℕ → Option X) → ((d : ℕ) → k ≤ d → d < k + n → f d ≡ None) → first_from k n f ≡ None
  first_none k zero f h = first_empty k f
  first_none k (suc n) f h = first_later k n f (h k (omega arith) (omega arith)) ∙ first_none (k + 1) n f (λ d low high. h d (omega arith) (omega arith))

  -- where there is but one
  pub first_only : (k n d : ℕ) (f : ℕ → Option X) (x : X) → k ≤ d → d < k + n → f d ≡ Some x → ((e : ℕ) (y : X) → k ≤ e → e < k + n → f e ≡ Some y → y ≡ x) → first_from k n f ≡ Some x
  first_only k zero d f x low high is only = absurd (omega arith)
  first_only k (suc n) d f x low high is only = at (f k) refl (λ less. first_only (k + 1) n d f x (omega (arith, less)) (omega arith) is (λ e y low high. only e y (omega arith) (omega arith))) where
    at : (v : Option X) → f k ≡ v → (k < d → first_from (k + 1) n f ≡ Some x) → first_from k (suc n) f ≡ Some x
    at (Some y) e more = first_here k n f y e ∙ ap Some (only k y (omega arith) (omega arith) e)
    at None e more =
        elim (cases_lt k d) [
          | inl less ↦ first_later k n f e ∙ more less
          | inr same ↦ (let s : d ≡ k = omega arith in none_some (sym e ∙ ap f (sym s) ∙ is))
        ]

-- the number under which a subpool stands is the one that its owner has for it
pub number_kept : (o : Owners) (t : Name) (n s : ℕ) → OwnersConsistent o → entry o t n ≡ Some s → number_of o t s ≡ Some n
number_kept o t n s kept is =
    first_only 0 133 n (λ m. cond (has (λ r. r == s) (entry o t m)) (Some m) None) n (omega arith) (number_low n (kept.numbers t n s is))
    (ap (λ v. cond (has (λ r. r == s) v) (Some n) None) is ∙ ap (λ b. cond b (Some n) None) (let e : (s == s) ≡ true = grind (arith, nat_tests) in e))
    (λ m y low high e. at (entry o t m) m y refl e) where
      at : (v : Option ℕ) (m y : ℕ) → entry o t m ≡ v → cond (has (λ r. r == s) v) (Some m) None ≡ Some y → y ≡ n
      at None m y has e = none_some e
      at (Some r) m y has e = by (r == s) refl e where
        by : (b : Bool) → (r == s) ≡ b → cond b (Some m) None ≡ Some y → y ≡ n
        by true same f =
            let r_is : r ≡ s = grind (arith, nat_tests) in
            let m_is : m ≡ n = kept.one_number t t m n s (has ∙ ap Some r_is) is in
            let y_is : m ≡ y = cc in
            sym y_is ∙ m_is
        by false same f = none_some f
