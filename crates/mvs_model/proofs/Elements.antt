-- Elements of lists.
use Rattle.std.proofs.Common.{◌≡◌, ℕ, suc, ◌<◌, ◌⊎◌, inl, inr, Bool, true, List, [], ◌∷◌, length, arith, ap, ◌∙◌, Contains}
use Rattle.std.specs.List.{list_any}
use Rattle.std.proofs.lemmas.Bool.Decides.{nat_tests}
use Rattle.std.proofs.lemmas.Bool.{or_right, or_left}
use Rattle.std.proofs.lemmas.Grind.{common_steps}
use Rattle.mvs_model.specs.Storage.{is_one_of}
use Rattle.mvs_model.proofs.Tests.{false_true}

-- an element of a list, after another one
pub later : {Y : Type 0} (x y : Y) (ys : List Y) → Contains ys x → Contains (y ∷ ys) x
later x y ys h = (suc h.0, (let l : h.0 < length ys = h.1 in omega arith), h.2)

pub first_or_later : {Y : Type 0} (x y : Y) (ys : List Y) → Contains (y ∷ ys) x → (y ≡ x) ⊎ Contains ys x
first_or_later x y ys h = grind (arith, common_steps)

-- what is in a list of numbers passes its test
pub one_of_contained : (xs : List ℕ) (s : ℕ) → Contains xs s → is_one_of xs s ≡ true
one_of_contained xs s h1 = grind (arith, common_steps, first_or_later, or_left, or_right)

pub contained_one_of : (xs : List ℕ) (s : ℕ) → is_one_of xs s ≡ true → Contains xs s
contained_one_of [] s h = false_true h
contained_one_of (x ∷ xs) s h = grind (arith, nat_tests, later, contained_one_of xs s)

-- a test that an element passes, and the element that passes it
pub any_found : {Y : Type 0} (test : Y → Bool) (ys : List Y) → list_any test ys ≡ true → (y : Y) × Contains ys y × (test y ≡ true)
any_found test [] e = false_true e
any_found test (y ∷ ys) e = grind (arith, nat_tests, later, any_found test ys)

pub any_from : {Y : Type 0} (test : Y → Bool) (ys : List Y) (y : Y) → Contains ys y → test y ≡ true → list_any test ys ≡ true
any_from test [] y h e = absurd (let l : h.0 < 0 = h.1 in omega arith)
any_from test (x ∷ ys) y h e = elim (first_or_later y x ys h) [ inl s ↦ or_left (test x) _ (ap test s ∙ e) | inr m ↦ or_right (test x) _ (any_from test ys y m e) ]
