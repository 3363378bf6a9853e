-- The first line of a text, and what is after it.
use Rattle.std.proofs.Common.{◌≡◌, ℕ, suc, ◌+◌, ◌-◌, ◌<◌, ◌==◌, Bool, true, false, not, cond, if◌then◌else◌, List, [], ◌∷◌, get_or, length, take, drop, arith, Option, Some, None, Bor, refl, sym, ap, ◌∙◌}
use Rattle.std.specs.List.{after_first, before_first, list_any, onto_first, position_or_len}
use Rattle.std.specs.Prelude.{MatchOption, unwrap_or}
use Rattle.std.proofs.lemmas.Bool.{false_from_ne_true}
use Rattle.std.proofs.lemmas.List.{drop_all, take_all, take_rest}
use Rattle.std.proofs.lemmas.List.Sums.{position_or_len_is}
use Rattle.memchr.specs.Find.{IsFirstByte, is_byte}
use Rattle.mvs_model.specs.Lines.{lines_of}

abbrev place : List ℕ → ℕ
place text = position_or_len (λ b. b == 10) text

pub first_line : (text : List ℕ) → 0 < length text → lines_of text ≡ before_first (λ b. b == 10) text ∷ lines_of (after_first (λ b. b == 10) text)
first_line [] some = absurd (omega arith)
first_line (b ∷ []) some = at (b == 10) where
  at : (f : Bool) → (if f then [] ∷ [] else onto_first b []) ≡ take (cond (not f) 1 0) (b ∷ []) ∷ lines_of (drop (cond (not f) 1 0 + 1) (b ∷ []))
  at true = refl
  at false = refl
first_line (b ∷ c ∷ bytes) some = at (b == 10) (first_line (c ∷ bytes) (omega arith)) where
  at : (f : Bool) → lines_of (c ∷ bytes) ≡ before_first (λ b. b == 10) (c ∷ bytes) ∷ lines_of (after_first (λ b. b == 10) (c ∷ bytes))
      → (if f then [] ∷ lines_of (c ∷ bytes) else onto_first b (lines_of (c ∷ bytes)))
      ≡ take (cond (not f) (1 + place (c ∷ bytes)) 0) (b ∷ c ∷ bytes) ∷ lines_of (drop (cond (not f) (1 + place (c ∷ bytes)) 0 + 1) (b ∷ c ∷ bytes))
  at true rest = refl
  at false rest =
      let m = place (c ∷ bytes) in
      let one : suc m ≡ 1 + m = omega arith in
      let two : suc (m + 1) ≡ 1 + m + 1 = omega arith in
      ap (onto_first b) rest
      ∙ ap (λ n. take n (b ∷ c ∷ bytes) ∷ lines_of (drop (m + 1) (c ∷ bytes))) one
      ∙ ap (λ n. take (1 + m) (b ∷ c ∷ bytes) ∷ lines_of (drop n (b ∷ c ∷ bytes))) two

-- where it ends, if a search has found that or not
place_found : (text : List ℕ) (end : ℕ) → IsFirstByte (is_byte 10) text (Some end) → place text ≡ end
place_found text end found = position_or_len_is (λ b. b == 10) text end 0 (let h = found.0.high in omega (arith, h)) (λ k before. false_from_ne_true (get_or text k 0 == 10) (found.0.before k (omega arith) before)) (λ h. found.1)

place_none : (text : List ℕ) → IsFirstByte (is_byte 10) text None → place text ≡ length text
place_none text none = position_or_len_is (λ b. b == 10) text (length text) 0 (omega arith) (λ k before. false_from_ne_true (get_or text k 0 == 10) (none k (omega arith) before)) (λ h. absurd (omega (arith, h)))

pub line_found : (text : List ℕ) (end : ℕ) → IsFirstByte (is_byte 10) text (Some end) → take end text ≡ before_first (λ b. b == 10) text
line_found text end found = ap (λ n. take n text) (sym (place_found text end found))

pub rest_found : (text : List ℕ) (end : ℕ) → IsFirstByte (is_byte 10) text (Some end) → take (length text - (end + 1)) (drop (end + 1) text) ≡ after_first (λ b. b == 10) text
rest_found text end found = take_rest text (end + 1) ∙ ap (λ n. drop (n + 1) text) (sym (place_found text end found))

pub line_none : (text : List ℕ) → IsFirstByte (is_byte 10) text None → text ≡ before_first (λ b. b == 10) text
line_none text none = sym (ap (λ n. take n text) (place_none text none) ∙ take_all (length text) text (omega arith))

pub rest_none : (text : List ℕ) → IsFirstByte (is_byte 10) text None → [] ≡ after_first (λ b. b == 10) text
rest_none text none = sym (ap (λ n. drop (n + 1) text) (place_none text none) ∙ drop_all (length text + 1) text (omega arith))

-- what is after it
pub next_of : (text : List ℕ) (more : Option (Bor (List ℕ))) (none next : Bor (List ℕ)) → none.now ≡ [] → MatchOption more ((list_any (λ b. b == 10) text ≡ false) × (after_first (λ b. b == 10) text ≡ [])) (λ rest. (list_any (λ b. b == 10) text ≡ true) × (rest.now ≡ after_first (λ b. b == 10) text))
    → next ≡ unwrap_or more none → next.now ≡ after_first (λ b. b == 10) text
next_of text None none next empty after is = ap (λ n. n.now) is ∙ empty ∙ sym after.1
next_of text (Some rest) none next empty after is = ap (λ n. n.now) is ∙ after.1

pub some_left : (text : List ℕ) (f : Bool) → f ≡ (length text == 0) → f ≡ false → 0 < length text
some_left [] f e some = absurd (let g : true ≡ false = sym e ∙ some in cc)
some_left (b ∷ text) f e some = omega arith
