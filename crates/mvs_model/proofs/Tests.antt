-- Small facts on tests, options and numbers that several files cite, beside those of std's pages Bool and Option.
use Rattle.std.proofs.Common.{◌≡◌, ℕ, ◌<◌, Bool, true, false, List, [], ◌∷◌, Option, Some, None, arith, refl, ◌==◌, bytes_eq, if◌then◌else◌, MatchBool}
use Rattle.std.proofs.lemmas.Bool.{and_from}
use Rattle.std.proofs.lemmas.Bool.Decides.{nat_tests}
use Rattle.mvs_model.specs.Finite.{kept}

-- ---- two variants are not one

pub true_false : {P : Type 0} → true ≡ false → P
true_false e = absurd cc

pub false_true : {P : Type 0} → false ≡ true → P
false_true e = absurd cc

pub none_some : {X P : Type 0} {x : X} → None ≡ Some x → P
none_some e = absurd cc

pub some_none : {X P : Type 0} {x : X} → Some x ≡ None → P
some_none e = absurd cc

-- ---- a test and what is said by its cases

pub by_test : {P Q R : Type 0} (b : Bool) → MatchBool b P Q → (b ≡ true → P → R) → (b ≡ false → Q → R) → R
by_test true h p q = p refl h
by_test false h p q = q refl h

pub by_case : {P Q R : Type 0} (b : Bool) → MatchBool b P Q → (P → R) → (Q → R) → R
by_case b h p q = by_test b h (λ _. p) (λ _. q)

pub match_true : (P Q : Type 0) (b : Bool) → b ≡ true → P → MatchBool b P Q
match_true P Q b h1 h2 = grind (arith, nat_tests)

pub match_false : (P Q : Type 0) (b : Bool) → b ≡ false → Q → MatchBool b P Q
match_false P Q b h1 h2 = grind (arith, nat_tests)

-- two tests are one that follow from each other
pub same_test : (a b : Bool) → (a ≡ true → b ≡ true) → (b ≡ true → a ≡ true) → a ≡ b
same_test a b h1 h2 = grind (arith, nat_tests)

-- ---- numbers and texts

pub same_self : (n : ℕ) → (n == n) ≡ true
same_self n = grind (arith, nat_tests)

pub less_other : (m n : ℕ) → m < n → (m == n) ≡ false
less_other m n l = grind (arith, nat_tests)

pub bytes_self : (xs : List ℕ) → bytes_eq xs xs ≡ true
bytes_self [] = refl
bytes_self (x ∷ xs) = and_from (x == x) _ (same_self x) (bytes_self xs)

-- ---- options

pub else_some : {X : Type 0} (b : Bool) (o : Option X) (x : X) → (if b then None else o) ≡ Some x → o ≡ Some x
else_some true o x e = none_some e
else_some false o x e = e

-- what a filter leaves was there, and passes
pub kept_is : {X : Type 0} (test : X → Bool) (o : Option X) (x : X) → kept test o ≡ Some x → (o ≡ Some x) × (test x ≡ true)
kept_is test None x e = none_some e
kept_is test (Some y) x e = grind (arith, nat_tests, none_some)

-- a test that fails nothing passes what a filter leaves only where it passes what was there
pub kept_passes : {X : Type 0} (p : Option X → Bool) → p None ≡ false → (test : X → Bool) (o : Option X) → p (kept test o) ≡ true → p o ≡ true
kept_passes p none test None e = e
kept_passes p none test (Some y) e = grind (arith, nat_tests, false_true)
