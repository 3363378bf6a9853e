-- What a table has at a key.
use Rattle.std.proofs.Common.{◌≡◌, ℕ, zero, suc, ◌<◌, ◌≤◌, Bool, true, cond, List, Option, Some, None, eqb, ltb, ap, ◌∙◌, arith, nat_cmp}
use Rattle.std.proofs.lemmas.Bool.Decides.{nat_tests}
use Rattle.std.specs.Ordering.{eq_by_cmp}
use Rattle.std.specs.Cmp.{nat_cmp_total}
use Rattle.std.specs.FinMap.{FinMap, get, find, get-from_entries, same_map, nat_cmp-IsAntisymmetric}
use Rattle.mvs_model.specs.Finite.{Changes}
use Rattle.mvs_model.specs.Table.{put_front, entries_below, table}

pub eq_by_cmp_is : (k n : ℕ) → eq_by_cmp nat_cmp k n ≡ eqb k n
eq_by_cmp_is k n = grind (arith, nat_tests)

step_some : {X : Type 0} → (k n : ℕ) (x : X) (v w : Option X) → (k ≡ n → v ≡ Some x) → w ≡ cond (ltb k n) v None → cond (eqb k n) (Some x) w ≡ cond (ltb k (suc n)) v None
step_some k n x v w same rest = grind (arith, nat_tests)

step : {X : Type 0} → (k n : ℕ) (o v : Option X) (es : List (ℕ × X)) → (k ≡ n → v ≡ o) → find nat_cmp k es ≡ cond (ltb k n) v None → find nat_cmp k (put_front n o es) ≡ cond (ltb k (suc n)) v None
step k n None v es same rest = grind (arith, nat_tests)
step k n (Some x) v es same rest = ap (λ b. cond b (Some x) (find nat_cmp k es)) (eq_by_cmp_is k n) ∙ step_some k n x v (find nat_cmp k es) same rest

pub find-entries_below : {X : Type 0} → (n : ℕ) (f : ℕ → Option X) (k : ℕ) → find nat_cmp k (entries_below n f) ≡ cond (ltb k n) (f k) None
unfolding entries_below
find-entries_below zero f k = grind (arith, nat_tests)
find-entries_below (suc n) f k = step k n (f n) (f k) (entries_below n f) (λ e. ap f e) (find-entries_below n f k)

-- at a key below the bound a table has what the function has, and elsewhere nothing
pub get-table : {X : Type 0} → (n : ℕ) (f : ℕ → Option X) (k : ℕ) → get (table n f) k ≡ cond (ltb k n) (f k) None
unfolding table
get-table n f k = get-from_entries nat_cmp_total (entries_below n f) k ∙ find-entries_below n f k

-- two maps with one value at each key are one
pub same_maps : {X : Type 0} → (m n : FinMap nat_cmp X) → ((k : ℕ) → get m k ≡ get n k) → m ≡ n
same_maps m n = same_map nat_cmp_total nat_cmp-IsAntisymmetric m n

-- where the function has nothing from the bound on, the table is the function
pub get-table_all : {X : Type 0} → (n : ℕ) (f : ℕ → Option X) → ((k : ℕ) → n ≤ k → f k ≡ None) → (k : ℕ) → get (table n f) k ≡ f k
get-table_all n f h1 k = grind (arith, nat_tests, get-table)

-- a change of the function is that change of the table
pub table_changes : {X : Type 0} → (n : ℕ) (f g : ℕ → Option X) (test : ℕ → Bool) (v : Option X) → ((k : ℕ) → test k ≡ true → k < n) → ((k : ℕ) → g k ≡ cond (test k) v (f k)) → Changes (get (table n f)) test v (get (table n g))
table_changes n f g test v h1 h2 = grind (arith, nat_tests, get-table)

-- what a table has is what the function has, below the bound
pub table_some : {X : Type 0} → (n : ℕ) (f : ℕ → Option X) (k : ℕ) (x : X) → get (table n f) k ≡ Some x → (k < n) × (f k ≡ Some x)
table_some n f k x e = grind (arith, nat_tests, get-table)
