-- What a list has at a place, after a write, and what a loop over places has made.
use Rattle.std.proofs.Common.{◌≡◌, ◌≢◌, ℕ, zero, suc, ◌<◌, ◌≤◌, Bool, true, false, List, [], ◌∷◌, map, length, Option, Some, None, IsSome, slice_index_or, slice_set, replicate, eqb, sym, ap, refl, ◌∙◌, arith, ◌⊎◌, inl, inr}
use Rattle.std.proofs.lemmas.Bool.Decides.{nat_tests}
use Rattle.std.specs.Option.{option_map}
use Rattle.task_owner.specs.Seats.{item_at}

pub same_or_not : (a b : ℕ) → (a ≡ b) ⊎ (a ≢ b)
same_or_not a b = by (eqb a b) refl where
  by : (c : Bool) → eqb a b ≡ c → (a ≡ b) ⊎ (a ≢ b)
  by true t = inl (grind (arith, nat_tests))
  by false t = inr (λ e. grind (arith, nat_tests))

-- the same with the test's answer
pub of_some : {A : Type 0} (o : Option A) → IsSome o → (x : A) × (o ≡ Some x)
of_some None h = absurd (let e : false ≡ true = h in cc)
of_some (Some x) h = (x, refl)

-- what an option was made of
pub of_mapped : {A B : Type 0} (f : A → B) (o : Option A) (y : B) → option_map f o ≡ Some y → (x : A) × (o ≡ Some x) × (f x ≡ y)
of_mapped {A} {B} f None y e = absurd (let h : ◌≡◌ {A = Option B} None (Some y) = e in cc)
of_mapped f (Some x) y e = (x, refl, (let h : Some (f x) ≡ Some y = e in cc))

pub at_map : {A B : Type 0} (f : A → B) (xs : List (Option A)) (k : ℕ) → item_at (map (option_map f) xs) k ≡ option_map f (item_at xs k)
at_map f [] k = refl
at_map f (x ∷ xs) zero = refl
at_map f (x ∷ xs) (suc k) = at_map f xs k

pub past_end : {X : Type 0} (xs : List (Option X)) (r : ℕ) → length xs ≤ r → item_at xs r ≡ None
past_end [] r h = refl
past_end (x ∷ xs) zero h = absurd (omega arith)
past_end (x ∷ xs) (suc r) h = past_end xs r (omega arith)

pub none_everywhere : {X : Type 0} (n : ℕ) (o : Option X) (k : ℕ) → o ≡ None → item_at (replicate n o) k ≡ None
none_everywhere zero o k e = refl
none_everywhere (suc n) o zero e = e
none_everywhere (suc n) o (suc k) e = none_everywhere n o k e

-- in range the default does not matter
pub same_default : {X : Type 0} (xs : List X) (n : ℕ) (d e : X) → n < length xs → slice_index_or xs n d ≡ slice_index_or xs n e
same_default [] n d e h = absurd (omega arith)
same_default (x ∷ xs) zero d e h = refl
same_default (x ∷ xs) (suc n) d e h = same_default xs n d e (omega arith)

-- what an index gave, at the number that it is
pub read_at : {X : Type 0} (xs : List (Option X)) (i j : ℕ) (r : Option X) → r ≡ slice_index_or xs i r → i ≡ j → i < length xs → item_at xs j ≡ r
read_at xs i j r e f h = ap (item_at xs) (sym f) ∙ same_default xs i None r h ∙ sym e

-- after a write at a place: there, and elsewhere
pub set_here : {X : Type 0} (xs : List (Option X)) (i : ℕ) (x : Option X) → i < length xs → item_at (slice_set xs i x) i ≡ x
set_here [] i x h = absurd (omega arith)
set_here (y ∷ ys) zero x h = refl
set_here (y ∷ ys) (suc i) x h = set_here ys i x (omega arith)

pub set_apart : {X : Type 0} (xs : List (Option X)) (i j : ℕ) (x : Option X) → j ≢ i → item_at (slice_set xs i x) j ≡ item_at xs j
set_apart [] i j x n = refl
set_apart (y ∷ ys) zero zero x n = absurd (n refl)
set_apart (y ∷ ys) zero (suc j) x n = refl
set_apart (y ∷ ys) (suc i) zero x n = refl
set_apart (y ∷ ys) (suc i) (suc j) x n = set_apart ys i j x (λ e. n (ap suc e))
