-- The items of lists.
use Rattle.std.proofs.Common.{◌≡◌, ℕ, suc, ◌<◌, List, [], ◌∷◌, length, map, arith, refl, ap, true, false, Bool, cond}
use Rattle.std.specs.Prelude.{◌==◌, ◌||◌}
use Rattle.std.specs.List.{list_any, slice_split, onto_first}
use Rattle.mvs_model.specs.Reading.{is_twice, number}

-- a text has at least one part, and where it has one that is all
some_part : (p : ℕ → Bool) (text : List ℕ) → 0 < length (slice_split p text)
some_part p [] = omega arith
some_part p (b ∷ bs) = at (p b) (slice_split p bs) where
  at : (t : Bool) (ps : List (List ℕ)) → 0 < length (cond t ([] ∷ ps) (onto_first b ps))
  at true ps = omega arith
  at false [] = omega arith
  at false (q ∷ ps) = omega arith

onto_one : (b : ℕ) (ps : List (List ℕ)) → 0 < length ps → length (onto_first b ps) ≡ 1 → length ps ≡ 1
onto_one b [] some one = absurd (omega arith)
onto_one b (q ∷ ps) some one = omega arith

pub only_part : (p : ℕ → Bool) (text : List ℕ) → length (slice_split p text) ≡ 1 → slice_split p text ≡ text ∷ []
only_part p [] one = refl
only_part p (b ∷ bs) one =
    (elim (p b) as (λ t. length (cond t ([] ∷ slice_split p bs) (onto_first b (slice_split p bs))) ≡ 1 → cond t ([] ∷ slice_split p bs) (onto_first b (slice_split p bs)) ≡ (b ∷ bs) ∷ []) [
      | true ↦ λ one. absurd (let some = some_part p bs in let two : suc (length (slice_split p bs)) ≡ 1 = one in omega arith)
      | false ↦ λ one. ap (onto_first b) (only_part p bs (onto_one b (slice_split p bs) (some_part p bs) one))
    ]) one

-- numbers are compared by what they write
any_number : (n : ℕ) (xs : List (List ℕ)) → list_any (◌==◌ n) (map number xs) ≡ list_any (λ x. n == number x) xs
any_number n [] = refl
any_number n (x ∷ xs) = ap (λ b. (n == number x) || b) (any_number n xs)

pub twice_number : (xs : List (List ℕ)) → is_twice ◌==◌ (map number xs) ≡ is_twice (λ one other. number one == number other) xs
twice_number [] = refl
twice_number (x ∷ xs) = λ i. any_number (number x) xs i || twice_number xs i
