-- A byte of a line for which a test holds.
use Rattle.std.proofs.Common.{◌≡◌, ℕ, ◌+◌, ◌<◌, ◌||◌, Bool, true, false, not, cond, List, [], ◌∷◌, length, arith, Option, Some, None, is_some, position, refl, sym, ◌∙◌}
use Rattle.std.specs.List.{list_any, position_or_len}
use Rattle.std.proofs.lemmas.Bool.{ltb_from_iff}
use Rattle.std.proofs.lemmas.List.Folds.{list_any_at}
use Rattle.std.proofs.lemmas.List.Sums.{passes_at_first}

below : (p : ℕ → Bool) (xs : List ℕ) → list_any p xs ≡ true → position_or_len p xs < length xs
below p [] is = absurd (let e : false ≡ true = is in cc)
below p (x ∷ xs) is = at (p x) is (below p xs) where
  at : (f : Bool) → (f || list_any p xs) ≡ true → (list_any p xs ≡ true → position_or_len p xs < length xs) → cond (not f) (1 + position_or_len p xs) 0 < length (x ∷ xs)
  at true is rest = omega arith
  at false is rest = let h = rest is in omega (arith, h)

some_if : (f : Bool) (n : ℕ) → is_some (cond f (Some n) None) ≡ f
some_if true n = refl
some_if false n = refl

-- it has a place, if there is one
pub has_place : (p : ℕ → Bool) (xs : List ℕ) → list_any p xs ≡ is_some (position p xs)
has_place p xs =
    ltb_from_iff (below p xs, λ h. list_any_at p xs (position_or_len p xs) 0 h (passes_at_first p xs 0 h)) ∙ sym (some_if _ (position_or_len p xs))
