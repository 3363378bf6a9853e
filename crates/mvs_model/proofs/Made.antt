-- For each change that is asked of a finite map there is a map with this change.
use Rattle.std.proofs.Common.{◌≡◌, ℕ, zero, suc, ◌<◌, Bool, true, false, cond, List, Option, Some, None, eqb, ltb, arith, refl, sym, ap, ◌∙◌, not, Ordering, nat_cmp}
use Rattle.std.proofs.lemmas.Bool.Decides.{nat_tests}
use Rattle.std.specs.Cmp.{nat_cmp_total}
use Rattle.std.specs.FinMap.{FinMap, get, insert, remove, retain_keys, get-insert, get-remove, get-retain_keys, IsAntisymmetric}
use Rattle.mvs_model.specs.Finite.{Changes, Keeps, kept}
use Rattle.mvs_model.specs.Name.{name_cmp, same_name}
use Rattle.mvs_model.proofs.Tables.{eq_by_cmp_is}
use Rattle.mvs_model.proofs.Orders.{name_cmp_total, name_cmp-IsAntisymmetric}

-- a value or none put at a number
put : {X : Type 0} → Option X → FinMap nat_cmp X → ℕ → FinMap nat_cmp X
put (Some x) m k = insert m k x
put None m k = remove m k

get-put : {X : Type 0} → (v : Option X) (m : FinMap nat_cmp X) (k q : ℕ) → get (put v m k) q ≡ cond (eqb q k) v (get m q)
unfolding put
get-put (Some x) m k q = get-insert nat_cmp_total m k x q ∙ ap (λ b. cond b (Some x) (get m q)) (eq_by_cmp_is q k)
get-put None m k q = get-remove nat_cmp_total m k q ∙ ap (λ b. cond b None (get m q)) (eq_by_cmp_is q k)

put_if : {X : Type 0} → Bool → FinMap nat_cmp X → ℕ → Option X → FinMap nat_cmp X
put_if true m k v = put v m k
put_if false m k v = m

get-put_if : {X : Type 0} → (b : Bool) (m : FinMap nat_cmp X) (k : ℕ) (v : Option X) (q : ℕ) → get (put_if b m k v) q ≡ cond b (cond (eqb q k) v (get m q)) (get m q)
unfolding put_if
get-put_if b m k v q = grind (arith, nat_tests, get-put)

filled : {X : Type 0} → FinMap nat_cmp X → (ℕ → Bool) → (ℕ → Option X) → ℕ → FinMap nat_cmp X
filled m test f zero = m
filled m test f (suc n) = put_if (test n) (filled m test f n) n (f n)

step : {X : Type 0} → (n q : ℕ) (a b : Bool) (o was v w : Option X) → (q ≡ n → b ≡ a) → (q ≡ n → w ≡ v) → o ≡ cond (ltb q n) (cond b w was) was → cond a (cond (eqb q n) v o) o ≡ cond (ltb q (suc n)) (cond b w was) was
step n q true true o was v w same values e = grind (arith, nat_tests)
step n q true false o was v w same values e = grind (arith, nat_tests)
step n q false true o was v w same values e = grind (arith, nat_tests)
step n q false false o was v w same values e = grind (arith, nat_tests)

get-filled : {X : Type 0} → (m : FinMap nat_cmp X) (test : ℕ → Bool) (f : ℕ → Option X) (n q : ℕ) → get (filled m test f n) q ≡ cond (ltb q n) (cond (test q) (f q) (get m q)) (get m q)
unfolding filled
get-filled m test f zero q = grind (arith, nat_tests)
get-filled m test f (suc n) q = get-put_if (test n) (filled m test f n) n (f n) q ∙ step n q (test n) (test q) _ (get m q) (f n) (f q) (λ e. ap test e) (λ e. ap f e) (get-filled m test f n q)

-- where no key past a bound passes the test, any values can be set at those that do
pub made_values : {X : Type 0} → (m : FinMap nat_cmp X) (n : ℕ) (test : ℕ → Bool) (f : ℕ → Option X) → ((k : ℕ) → test k ≡ true → k < n) → (new : FinMap nat_cmp X) × ((q : ℕ) → get new q ≡ cond (test q) (f q) (get m q))
made_values m n test f low = (filled m test f n, λ q. get-filled m test f n q ∙ at q (test q) (low q)) where
  at : (q : ℕ) (b : Bool) → (b ≡ true → q < n) → cond (ltb q n) (cond b (f q) (get m q)) (get m q) ≡ cond b (f q) (get m q)
  at q true l = grind (arith, nat_tests)
  at q false l = grind (arith, nat_tests)

pub made_changes : {X : Type 0} → (m : FinMap nat_cmp X) (n : ℕ) (test : ℕ → Bool) (x : X) → ((k : ℕ) → test k ≡ true → k < n) → (new : FinMap nat_cmp X) × Changes (get m) test (Some x) (get new)
made_changes m n test x low = made_values m n test (λ _. Some x) low

module _ {K X : Type 0} {R : K → K → Ordering} (same : IsAntisymmetric R) where
  pub get-retained : (m : FinMap R X) (p : K → Bool) (q : K) → get (retain_keys m p) q ≡ cond (p q) (get m q) None
  get-retained m p q = get-retain_keys m p q (λ x e. ap p (sym (same q x e)))

  -- the entries that pass a test can be taken away
  pub made_without : (m : FinMap R X) (test : K → Bool) → (new : FinMap R X) × Changes (get m) test None (get new)
  made_without m test = (retain_keys m (λ k. not (test k)), λ q. get-retained m (λ k. not (test k)) q ∙ at (test q) (get m q)) where
    at : (b : Bool) (o : Option X) → cond (not b) o None ≡ cond b None o
    at true o = refl
    at false o = refl

  passes : (X → Bool) → Option X → Bool
  passes test None = true
  passes test (Some x) = test x

  -- those that fail it
  pub made_keeps : (m : FinMap R X) (test : K → X → Bool) → (new : FinMap R X) × Keeps (get m) test (get new)
  unfolding passes
  made_keeps m test = (retain_keys m (λ k. passes (test k) (get m k)), λ q. get-retained m (λ k. passes (test k) (get m k)) q ∙ at (test q) (get m q)) where
    at : (t : X → Bool) (o : Option X) → cond (passes t o) o None ≡ kept t o
    at t None = refl
    at t (Some x) = refl

-- a value can be set at a name, or taken away
pub made_at : {X : Type 0} → (m : FinMap name_cmp X) (name : List ℕ) (x : X) → Changes (get m) (λ n. same_name n name) (Some x) (get (insert m name x))
made_at m name x q = get-insert name_cmp_total m name x q

pub made_gone : {X : Type 0} → (m : FinMap name_cmp X) (name : List ℕ) → (new : FinMap name_cmp X) × Changes (get m) (λ n. same_name n name) None (get new)
made_gone m name = made_without name_cmp-IsAntisymmetric m (λ n. same_name n name)
