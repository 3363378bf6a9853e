-- Texts, parted at the first byte that passes a test.
use Rattle.std.proofs.Common.{◌≡◌, ℕ, suc, ◌+◌, ◌≤◌, ◌<◌, List, [], ◌∷◌, ◌++◌, length, take, drop, arith, refl, sym, ap, subst, ◌∙◌, true, false, Bool, cond, Some, None, append_assoc}
use Rattle.std.specs.Prelude.{nat_lt, not, position, ◌==◌, ◌||◌, filter, unwrap_or, slice_get}
use Rattle.std.specs.List.{list_any, position_or_len, before_first, after_first, slice_split, onto_first}
use Rattle.std.proofs.lemmas.List.{take_all, drop_all, take-append-drop}
use Rattle.std.proofs.lemmas.List.Splits.{slice_split_first}
use Rattle.std.proofs.lemmas.Bool.Decides.{nat_tests}
use Rattle.std.proofs.lemmas.Bool.{not-true}
use Rattle.mvs_model.specs.Reading.{words, is_empty}
use Rattle.job_script.specs.Parted.{IsEnd, starts_word, field_in}

-- where there is no place before the end, no byte passes
none_passes : (p : ℕ → Bool) (xs : List ℕ) → length xs ≤ position_or_len p xs → list_any p xs ≡ false
none_passes p [] h = refl
none_passes p (x ∷ xs) h = elim (p x) as (λ b. suc (length xs) ≤ cond (not b) (1 + position_or_len p xs) 0 → (b || list_any p xs) ≡ false) [
  | true ↦ λ h. absurd (omega arith)
  | false ↦ λ h. none_passes p xs (omega arith)
] h

some_passes : (p : ℕ → Bool) (xs : List ℕ) → position_or_len p xs < length xs → list_any p xs ≡ true
some_passes p [] h = absurd (omega arith)
some_passes p (x ∷ xs) h = elim (p x) as (λ b. cond (not b) (1 + position_or_len p xs) 0 < suc (length xs) → (b || list_any p xs) ≡ true) [
  | true ↦ λ h. refl
  | false ↦ λ h. some_passes p xs (omega arith)
] h

-- then there is one part
one_part : (p : ℕ → Bool) (xs : List ℕ) → list_any p xs ≡ false → slice_split p xs ≡ xs ∷ []
one_part p [] h = refl
one_part p (x ∷ xs) h = elim (p x) as (λ b. (b || list_any p xs) ≡ false → cond b ([] ∷ slice_split p xs) (onto_first x (slice_split p xs)) ≡ (x ∷ xs) ∷ []) [
  | true ↦ λ h. absurd (let e : true ≡ false = h in cc)
  | false ↦ λ h. ap (onto_first x) (one_part p xs h)
] h

-- what a search that finds nothing says
pub record NoCut (p : ℕ → Bool) (xs : List ℕ) : Type 0 where
  pub before : before_first p xs ≡ xs
  pub none : list_any p xs ≡ false
  pub after : after_first p xs ≡ []
  pub parts : slice_split p xs ≡ xs ∷ []

pub no_cut : (p : ℕ → Bool) (xs : List ℕ) → position p xs ≡ None → NoCut p xs
no_cut p xs e = at (nat_lt (position_or_len p xs) (length xs)) refl e where
  at : (b : Bool) → nat_lt (position_or_len p xs) (length xs) ≡ b → cond b (Some (position_or_len p xs)) None ≡ None → NoCut p xs
  at true t e = absurd (let f : Some (position_or_len p xs) ≡ None = e in cc)
  at false t e =
      let h : length xs ≤ position_or_len p xs = grind (arith, nat_tests) in
      let none = none_passes p xs h in
      record { before = take_all (position_or_len p xs) xs h; none = none; after = drop_all (position_or_len p xs + 1) xs (omega arith); parts = one_part p xs none }

-- what one that finds a place says
pub record Cut (p : ℕ → Bool) (xs : List ℕ) (i : ℕ) : Type 0 where
  pub place : i ≡ position_or_len p xs
  pub within : i < length xs
  pub some : list_any p xs ≡ true
  pub parts : slice_split p xs ≡ before_first p xs ∷ slice_split p (after_first p xs)

pub cut_at : (p : ℕ → Bool) (xs : List ℕ) (i : ℕ) → position p xs ≡ Some i → Cut p xs i
cut_at p xs i e = at (nat_lt (position_or_len p xs) (length xs)) refl e where
  at : (b : Bool) → nat_lt (position_or_len p xs) (length xs) ≡ b → cond b (Some (position_or_len p xs)) None ≡ Some i → Cut p xs i
  at true t e =
      let is : i ≡ position_or_len p xs = (let f : Some (position_or_len p xs) ≡ Some i = e in cc) in
      let h : position_or_len p xs < length xs = grind (arith, nat_tests) in
      record { place = is; within = subst (λ n. n < length xs) (sym is) h; some = some_passes p xs h; parts = slice_split_first p xs 0 h }
  at false t e = absurd (let f : None ≡ Some i = e in cc)

-- ---- words

-- what a text that starts with a word has before its first blank is not empty
before_some : (b : ℕ) (bs : List ℕ) → (b == 32) ≡ false → is_empty (before_first (λ b. b == 32) (b ∷ bs)) ≡ false
before_some b bs e = rw e (at (position_or_len (λ b. b == 32) bs)) where
  at : (n : ℕ) → is_empty (take (1 + n) (b ∷ bs)) ≡ false
  at n = let s : 1 + n ≡ suc n = omega arith in rw s refl

first_kept : (word : List ℕ) (rest : List (List ℕ)) → is_empty word ≡ false → filter (λ word. not (is_empty word)) (word ∷ rest) ≡ word ∷ filter (λ word. not (is_empty word)) rest
first_kept word rest e = rw e refl

-- the field that a text starts with
at_blank : (bs : List ℕ) → field_in bs ≡ before_first (λ b. b == 32) bs
at_blank [] = refl
at_blank (b ∷ bs) = elim (b == 32) as (λ t. cond t [] (b ∷ field_in bs) ≡ take (cond (not t) (1 + position_or_len (λ b. b == 32) bs) 0) (b ∷ bs)) [
  | true ↦ refl
  | false ↦ ap (λ bs. b ∷ bs) (at_blank bs) ∙ ap (λ n. take n (b ∷ bs)) (let n : suc (position_or_len (λ b. b == 32) bs) ≡ 1 + position_or_len (λ b. b == 32) bs = omega arith in n)
]

after_field : (bs : List ℕ) → (trailing : List (List ℕ)) × (slice_split (λ b. b == 32) bs ≡ field_in bs ∷ trailing)
after_field [] = ([], refl)
after_field (b ∷ bs) = elim (b == 32) as (λ t. (trailing : List (List ℕ)) × (cond t ([] ∷ slice_split (λ b. b == 32) bs) (onto_first b (slice_split (λ b. b == 32) bs)) ≡ cond t [] (b ∷ field_in bs) ∷ trailing)) [
  | true ↦ (slice_split (λ b. b == 32) bs, refl)
  | false ↦ let more = after_field bs in (more.0, ap (onto_first b) more.1)
]

-- the first word of a text that starts with it, and those after it
pub first_word : (text word : List ℕ) (trailing : List (List ℕ)) → starts_word text ≡ true → word ≡ before_first (λ b. b == 32) text → slice_split (λ b. b == 32) text ≡ word ∷ trailing
    → (word ≡ unwrap_or (slice_get (words text) 0) []) × (filter (λ word. not (is_empty word)) trailing ≡ drop 1 (words text))
first_word [] word trailing s w e =
    let none : trailing ≡ [] = (let f : [] ∷ [] ≡ word ∷ trailing = e in cc) in
    (w, ap (filter (λ word. not (is_empty word))) none)
first_word (b ∷ bs) word trailing s w e =
    let some : is_empty word ≡ false = ap is_empty w ∙ before_some b bs (not-true (b == 32) s) in
    let all : words (b ∷ bs) ≡ word ∷ filter (λ word. not (is_empty word)) trailing = ap (filter (λ word. not (is_empty word))) e ∙ first_kept word trailing some in
    (ap (λ ws. unwrap_or (slice_get ws 0) []) (sym all), ap (drop 1) (sym all))

pub field_first : (text : List ℕ) → starts_word text ≡ true → field_in text ≡ unwrap_or (slice_get (words text) 0) []
field_first text s =
    let more = after_field text in
    (first_word text (field_in text) more.0 s (at_blank text) more.1).0

-- What stands after the first byte that passes ends the text.
pub after_ends : (p : ℕ → Bool) (xs : List ℕ) → IsEnd xs (after_first p xs)
after_ends p xs = (take (position_or_len p xs + 1) xs, sym (take-append-drop (position_or_len p xs + 1) xs))

-- the end of an end
pub end_of_end : (text end last : List ℕ) → IsEnd text end → IsEnd end last → IsEnd text last
end_of_end text end last (front, e) (more, f) = (front ++ more, e ∙ ap (λ xs. front ++ xs) f ∙ sym (append_assoc front more last))
