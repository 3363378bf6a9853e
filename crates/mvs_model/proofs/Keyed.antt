-- What a map made of a list of keys has at a key.
use Rattle.std.proofs.Common.{◌≡◌, ℕ, zero, suc, Bool, true, false, cond, ◌&&◌, ◌||◌, List, [], ◌∷◌, map, Option, Some, None, eqb, ltb, ap, refl, ◌∙◌, arith, Ordering}
use Rattle.std.proofs.lemmas.Bool.Decides.{nat_tests}
use Rattle.std.proofs.lemmas.List.Folds.{list_any-append}
use Rattle.std.specs.List.{list_any}
use Rattle.std.specs.Ordering.{eq_by_cmp}
use Rattle.std.specs.Cmp.{IsTotalOrder}
use Rattle.std.specs.FinMap.{FinMap, get, get-insert, get-empty, IsAntisymmetric}
use Rattle.std.proofs.lemmas.Grind.{common_steps}
use Rattle.mvs_model.specs.Keyed.{put_in, keyed, pairs_below}
use Rattle.mvs_model.specs.Name.{name_cmp}
use Rattle.mvs_model.specs.Owners.{entry_cmp}
use Rattle.mvs_model.proofs.Orders.{equal_keys, tied_pair}

module _ {K X : Type 0} {R : K → K → Ordering} (o : IsTotalOrder R) (same : IsAntisymmetric R) where
  at_first : (b c : Bool) (u v : Option X) → (b ≡ true → v ≡ u) → cond b u (cond c v None) ≡ cond (b || c) v None
  at_first b c u v h1 = grind (arith, common_steps)

  without_first : (b c : Bool) (v : Option X) → (b ≡ true → v ≡ None) → cond c v None ≡ cond (b || c) v None
  without_first b c v h1 = grind (arith, nat_tests)

  step : (f : K → Option X) (k : K) (v : Option X) → f k ≡ v → (m : FinMap R X) (q : K) (c : Bool) → get m q ≡ cond c (f q) None → get (put_in R k v m) q ≡ cond (eq_by_cmp R q k || c) (f q) None
  step f k None e m q c h = h ∙ without_first (eq_by_cmp R q k) c (f q) (λ t. ap f (equal_keys same q k t) ∙ e)
  step f k (Some x) e m q c h = get-insert o m k x q ∙ ap (cond (eq_by_cmp R q k) (Some x)) h ∙ at_first (eq_by_cmp R q k) c (Some x) (f q) (λ t. ap f (equal_keys same q k t) ∙ e)

  -- at a key of the list the map has what the function has, and elsewhere nothing
  pub get-keyed : (ks : List K) (f : K → Option X) (q : K) → get (keyed R ks f) q ≡ cond (list_any (eq_by_cmp R q) ks) (f q) None
  unfolding keyed
  get-keyed [] f q = get-empty R q
  get-keyed (k ∷ ks) f q = step f k (f k) refl (keyed R ks f) q (list_any (eq_by_cmp R q) ks) (get-keyed ks f q)

  -- where the function has nothing at any other key, the map is the function
  pub get-keyed_all : (ks : List K) (f : K → Option X) (q : K) → (list_any (eq_by_cmp R q) ks ≡ false → f q ≡ None) → get (keyed R ks f) q ≡ f q
  get-keyed_all ks f q h1 = grind (arith, nat_tests, get-keyed)

both_or : (a b c : Bool) → ((a && c) || (b && c)) ≡ ((a || b) && c)
both_or a b c = grind (arith, nat_tests)

any_with : (t : List ℕ) (m n : ℕ) (ks : List (List ℕ)) → list_any (eq_by_cmp entry_cmp (t, m)) (map (λ k. (k, n)) ks) ≡ (list_any (eq_by_cmp name_cmp t) ks && eqb m n)
any_with t m n [] = refl
any_with t m n (k ∷ ks) = (λ i. tied_pair (name_cmp t k) m n i || any_with t m n ks i) ∙ both_or (eq_by_cmp name_cmp t k) (list_any (eq_by_cmp name_cmp t) ks) (eqb m n)

one_more : (b : Bool) (m n : ℕ) → ((b && eqb m n) || (b && ltb m n)) ≡ (b && ltb m (suc n))
one_more true m n = grind (arith, nat_tests)
one_more false m n = refl

nothing_below : (b : Bool) (m : ℕ) → false ≡ (b && ltb m 0)
nothing_below true m = grind (arith, nat_tests)
nothing_below false m = refl

pub any-pairs_below : (t : List ℕ) (m : ℕ) (ks : List (List ℕ)) (n : ℕ) → list_any (eq_by_cmp entry_cmp (t, m)) (pairs_below ks n) ≡ (list_any (eq_by_cmp name_cmp t) ks && ltb m n)
unfolding pairs_below
any-pairs_below t m ks zero = nothing_below (list_any (eq_by_cmp name_cmp t) ks) m
any-pairs_below t m ks (suc n) =
    list_any-append (eq_by_cmp entry_cmp (t, m)) (map (λ k. (k, n)) ks) (pairs_below ks n)
    ∙ (λ i. any_with t m n ks i || any-pairs_below t m ks n i)
    ∙ one_more (list_any (eq_by_cmp name_cmp t) ks) m n
