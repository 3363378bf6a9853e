-- Numbers below a bound.
use Rattle.std.proofs.Common.{◌≡◌, ℕ, zero, suc, ◌+◌, ◌<◌, Bool, true, false, cond, List, [], ◌∷◌, ◌++◌, map, eqb, ltb, refl, sym, ap, ◌∙◌, arith, inl, inr}
use Rattle.std.specs.Prelude.{◌||◌, ◌&&◌}
use Rattle.std.specs.List.{range_with_len, list_any}
use Rattle.std.specs.Ordering.{nat_cmp, eq_by_cmp}
use Rattle.std.proofs.lemmas.Bool.{cases_eq}
use Rattle.std.proofs.lemmas.Bool.Decides.{nat_tests}
use Rattle.std.proofs.lemmas.List.FromFn.{map-range_with_len_more}
use Rattle.mvs_model.specs.Finite.{any_below}
use Rattle.mvs_model.proofs.Tables.{eq_by_cmp_is}
use Rattle.cell_pool.specs.Roots.{passing}

-- tests that agree below the bound
pub any_same : (f g : ℕ → Bool) (n : ℕ) → ((i : ℕ) → i < n → f i ≡ g i) → any_below f n ≡ any_below g n
unfolding any_below
any_same f g zero h = refl
any_same f g (suc n) h = λ k. h n (omega arith) k || any_same f g n (λ i l. h i (omega arith)) k

-- functions that agree below the bound
pub map_same : {X : Type 0} → (f g : ℕ → X) (n : ℕ) → ((i : ℕ) → i < n → f i ≡ g i) → map f (range_with_len 0 n) ≡ map g (range_with_len 0 n)
map_same f g zero h = refl
map_same f g (suc n) h =
    let s : suc n ≡ n + 1 = omega arith in
    let z : 0 + n ≡ n = omega arith in
    ap (λ k. map f (range_with_len 0 k)) s
    ∙ map-range_with_len_more f 0 n n z
    ∙ (λ k. map_same f g n (λ i l. h i (omega arith)) k ++ h n (omega arith) k ∷ [])
    ∙ sym (map-range_with_len_more g 0 n n z)
    ∙ ap (λ k. map g (range_with_len 0 k)) (sym s)

-- the numbers that pass
step : (q n : ℕ) (b c : Bool) (ks : List ℕ) → (q ≡ n → c ≡ b) → list_any (eq_by_cmp nat_cmp q) ks ≡ (ltb q n && c) → list_any (eq_by_cmp nat_cmp q) (cond b (n ∷ ks) ks) ≡ (ltb q (suc n) && c)
step q n true c ks same rest = (λ i. eq_by_cmp_is q n i || rest i) ∙ more same where
  more : (q ≡ n → c ≡ true) → (eqb q n || (ltb q n && c)) ≡ (ltb q (suc n) && c)
  more same = elim (cases_eq q n) [
    | inl e ↦ let t = same e in ap (λ b. eqb q n || (ltb q n && b)) t ∙ (let g : (eqb q n || (ltb q n && true)) ≡ (ltb q (suc n) && true) = grind (arith, nat_tests) in g) ∙ ap (λ b. ltb q (suc n) && b) (sym t)
    | inr ne ↦ grind (arith, nat_tests)
  ]
step q n false c ks same rest = rest ∙ more same where
  more : (q ≡ n → c ≡ false) → (ltb q n && c) ≡ (ltb q (suc n) && c)
  more same = elim (cases_eq q n) [
    | inl e ↦ let t = same e in ap (λ b. ltb q n && b) t ∙ (let g : (ltb q n && false) ≡ (ltb q (suc n) && false) = grind (arith, nat_tests) in g) ∙ ap (λ b. ltb q (suc n) && b) (sym t)
    | inr ne ↦ ap (λ b. b && c) (let g : ltb q n ≡ ltb q (suc n) = grind (arith, nat_tests) in g)
  ]

pub any-passing : (n : ℕ) (test : ℕ → Bool) (q : ℕ) → list_any (eq_by_cmp nat_cmp q) (passing n test) ≡ (ltb q n && test q)
unfolding passing
any-passing zero test q = (let g : false ≡ (ltb q 0 && test q) = grind (arith, nat_tests) in g)
any-passing (suc n) test q = step q n (test n) (test q) (passing n test) (λ e. ap test e) (any-passing n test q)
