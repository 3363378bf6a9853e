-- Two texts without their digits, read byte by byte.
use Rattle.std.proofs.Common.{◌≡◌, ℕ, zero, suc, ◌+◌, ◌<◌, Bool, true, false, not, cond, List, [], ◌∷◌, ◌++◌, length, take, drop, get_or, append_assoc, append-nil, arith, refl, sym, ap, ◌∙◌, subst}
use Rattle.std.proofs.lemmas.List.{append_cancel_left, take-append-drop}
use Rattle.std.proofs.Math.Seq.{drop-cons}
use Rattle.std.specs.List.{filter}
use Rattle.mvs_model.specs.Reading.{is_digit}
use Rattle.mvs_model.proofs.OneSteps.{head_of, tail_of}
use Rattle.mvs_model.proofs.Tests.{false_true, true_false}
use Rattle.judge.specs.Reporting.{undigited}
use Rattle.judge.proofs.Reported.{undigited_both}

take_next : (xs : List ℕ) (n : ℕ) → n < length xs → take (suc n) xs ≡ take n xs ++ get_or xs n 0 ∷ []
take_next [] n inside = absurd (omega (arith, inside))
take_next (x ∷ xs) zero inside = refl
take_next (x ∷ xs) (suc n) inside = ap (λ ys. x ∷ ys) (take_next xs n (omega (arith, inside)))

take_more : (xs : List ℕ) (n : ℕ) → n < length xs → take (n + 1) xs ≡ take n xs ++ get_or xs n 0 ∷ []
take_more xs n inside = let e : n + 1 ≡ suc n = omega arith in ap (λ k. take k xs) e ∙ take_next xs n inside

-- a byte more of a text
more_of : (xs : List ℕ) (n : ℕ) → n < length xs → (b : Bool) → is_digit (get_or xs n 0) ≡ b → undigited (take (n + 1) xs) ≡ undigited (take n xs) ++ cond b [] (get_or xs n 0 ∷ [])
more_of xs n inside b e =
    ap undigited (take_more xs n inside) ∙ undigited_both (take n xs) (get_or xs n 0 ∷ [])
    ∙ ap (λ b. undigited (take n xs) ++ cond (not b) (get_or xs n 0 ∷ []) []) e ∙ at b where
      at : (b : Bool) → undigited (take n xs) ++ cond (not b) (get_or xs n 0 ∷ []) [] ≡ undigited (take n xs) ++ cond b [] (get_or xs n 0 ∷ [])
      at true = refl
      at false = refl

pub digit_more : (xs : List ℕ) (n : ℕ) → n < length xs → is_digit (get_or xs n 0) ≡ true → undigited (take (n + 1) xs) ≡ undigited (take n xs)
digit_more xs n inside e = more_of xs n inside true e ∙ append-nil (undigited (take n xs))

pub byte_more : (xs : List ℕ) (n : ℕ) → n < length xs → is_digit (get_or xs n 0) ≡ false → undigited (take (n + 1) xs) ≡ undigited (take n xs) ++ get_or xs n 0 ∷ []
byte_more xs n inside e = more_of xs n inside false e

-- all of a text
all_of : (xs : List ℕ) (n : ℕ) → n < length xs → is_digit (get_or xs n 0) ≡ false → undigited xs ≡ undigited (take n xs) ++ get_or xs n 0 ∷ undigited (drop (n + 1) xs)
all_of xs n inside e =
    ap undigited (sym (take-append-drop (n + 1) xs)) ∙ undigited_both (take (n + 1) xs) (drop (n + 1) xs)
    ∙ ap (λ x. x ++ undigited (drop (n + 1) xs)) (byte_more xs n inside e) ∙ append_assoc (undigited (take n xs)) (get_or xs n 0 ∷ []) (undigited (drop (n + 1) xs))

-- Where two bytes differ one text does not go on as the other.
pub goes_otherwise : (text front : List ℕ) (at done : ℕ) → at < length text → done < length front → is_digit (get_or text at 0) ≡ false → is_digit (get_or front done 0) ≡ false
    → undigited (take at text) ≡ undigited (take done front) → (get_or text at 0 ≡ get_or front done 0 → ⊥) → (rest : List ℕ) → undigited text ≡ undigited front ++ rest → ⊥
goes_otherwise text front at done inside within d e same other rest is =
    let whole = all_of text at inside d in
    let begun = all_of front done within e in
    let cut = append_cancel_left (undigited (take done front)) _ _
    (ap (λ x. x ++ get_or text at 0 ∷ undigited (drop (at + 1) text)) (sym same) ∙ sym whole ∙ is ∙ ap (λ x. x ++ rest) begun ∙ append_assoc (undigited (take done front)) (get_or front done 0 ∷ undigited (drop (done + 1) front)) rest) in
    other (ap head_of cut)
