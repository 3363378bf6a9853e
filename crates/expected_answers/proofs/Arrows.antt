-- Where an arrow is in a line, by its last byte.
use Rattle.std.proofs.Common.{◌≡◌, ℕ, zero, suc, ◌+◌, ◌-◌, ◌<◌, ◌≤◌, ◌==◌, ◌&&◌, nat_le, Bool, true, false, List, [], ◌∷◌, length, get_or, slice_index, drop, arith, Option, Some, None, refl, sym, ap, ◌∙◌, ⊎_elim, length-drop}
use Rattle.std.proofs.lemmas.Bool.{cases_lt, eq-eqb, eqb-true}
use Rattle.std.proofs.lemmas.List.{get_or-drop}
use Rattle.memchr.specs.Find.{FindsNeedle, IsFirstByte, Nowhere, OccursAt, Passes, is_byte}
use Rattle.expected_answers.specs.Blank.{arrow}

-- no arrow ends before this place
abbrev pub NoneTo : List ℕ → ℕ → Type 0
NoneTo line from = (k : ℕ) → k + 2 < from → OccursAt line arrow k → ⊥

module _ (line : List ℕ) where
  first_of : (k : ℕ) → OccursAt line arrow k → get_or line k 0 ≡ 32
  first_of k o = let e : k ≡ k + 0 = omega arith in ap (λ n. get_or line n 0) e ∙ o.reads 0 (omega arith)

  second_of : (k : ℕ) → OccursAt line arrow k → get_or line (k + 1) 0 ≡ 61
  second_of k o = o.reads 1 (omega arith)

  head_of : (k : ℕ) → OccursAt line arrow k → get_or line (k + 2) 0 ≡ 62
  head_of k o = o.reads 2 (omega arith)

  reads : (k : ℕ) → get_or line k 0 ≡ 32 → get_or line (k + 1) 0 ≡ 61 → get_or line (k + 2) 0 ≡ 62 → (j : ℕ) → j < 3 → slice_index line (k + j) ≡ slice_index arrow j
  reads k a b c zero h = let e : k + 0 ≡ k = omega arith in ap (λ n. get_or line n 0) e ∙ a
  reads k a b c (suc zero) h = let e : k + suc zero ≡ k + 1 = omega arith in ap (λ n. get_or line n 0) e ∙ b
  reads k a b c (suc (suc zero)) h = let e : k + suc (suc zero) ≡ k + 2 = omega arith in ap (λ n. get_or line n 0) e ∙ c
  reads k a b c (suc (suc (suc j))) h = absurd (omega (arith, h))

  module _ (rest : List ℕ) (from : ℕ) (cut : rest ≡ drop from line) (within : from ≤ length line) (none : NoneTo line from) where
    long : length rest ≡ length line - from
    long = ap length cut ∙ length-drop from line

    at_rest : (j : ℕ) → get_or rest j 0 ≡ get_or line (from + j) 0
    at_rest j = ap (λ r. get_or r j 0) cut ∙ get_or-drop from line j 0

    passes : (k : ℕ) → from ≤ k + 2 → OccursAt line arrow k → Passes (is_byte 62) rest (k + 2 - from)
    passes k later o =
        let e : from + (k + 2 - from) ≡ k + 2 = omega (arith, later) in
        eq-eqb _ _ (at_rest (k + 2 - from) ∙ ap (λ n. get_or line n 0) e ∙ head_of k o)

    pub none_to : (place : ℕ) → Nowhere (Passes (is_byte 62) rest) 0 place → NoneTo line (from + place)
    none_to place never k h o = ⊎_elim (λ before. none k before o) (λ later. never (k + 2 - from) (omega arith) (omega (arith, h, later)) (passes k later o)) (cases_lt (k + 2) from)

    pub no_arrow : IsFirstByte (is_byte 62) rest None → FindsNeedle line arrow 0 None
    no_arrow never k low high o =
        let fits : k + 3 ≤ length line = o.fits in
        none_to (length rest) never k (omega (arith, fits, long, within)) o

    module _ (place : ℕ) (found : IsFirstByte (is_byte 62) rest (Some place)) where
      pub inside : from + place < length line
      inside = let h : place < length rest = found.0.high in omega (arith, h, long)

      is_head : get_or line (from + place) 0 ≡ 62
      is_head = sym (at_rest place) ∙ eqb-true (get_or rest place 0) 62 found.1

      abbrev test : Bool
      test = nat_le 2 (from + place) && ((slice_index line (from + place - 2) == 32) && (slice_index line (from + place - 1) == 61))

      pub other_byte : test ≡ false → NoneTo line (from + place + 1)
      other_byte is k h o = ⊎_elim (λ before. none_to place found.0.before k before o) (λ later.
          let e : k + 2 ≡ from + place = omega (arith, h, later) in
          let one : from + place - 2 ≡ k = omega (arith, e) in
          let two : from + place - 1 ≡ k + 1 = omega (arith, e) in
          let t : test ≡ true = both (from + place) (omega (arith, e)) (ap (λ n. get_or line n 0) one ∙ first_of k o) (ap (λ n. get_or line n 0) two ∙ second_of k o) in
          absurd (let f : true ≡ false = sym t ∙ is in cc)) (cases_lt (k + 2) (from + place))
        where
          both : (head : ℕ) → 2 ≤ head → get_or line (head - 2) 0 ≡ 32 → get_or line (head - 1) 0 ≡ 61 → (nat_le 2 head && ((slice_index line (head - 2) == 32) && (slice_index line (head - 1) == 61))) ≡ true
          both head some a b = rw (a, b) (grind arith)

      pub found_arrow : test ≡ true → 2 ≤ from + place → FindsNeedle line arrow 0 (Some (from + place - 2))
      found_arrow is some =
          let k : ℕ = from + place - 2 in
          let p : ((slice_index line k == 32) ≡ true) × ((slice_index line (from + place - 1) == 61) ≡ true) = parts _ _ _ is in
          let one : from + place - 1 ≡ k + 1 = omega (arith, some) in
          let two : from + place ≡ k + 2 = omega (arith, some) in
          let a : get_or line k 0 ≡ 32 = eqb-true (get_or line k 0) 32 p.0 in
          let b : get_or line (k + 1) 0 ≡ 61 = ap (λ n. get_or line n 0) (sym one) ∙ eqb-true (get_or line (from + place - 1) 0) 61 p.1 in
          let c : get_or line (k + 2) 0 ≡ 62 = ap (λ n. get_or line n 0) (sym two) ∙ is_head in
          let fits : k + 3 ≤ length line = omega (arith, inside, two) in
          let high : k < length line + 1 = omega (arith, fits) in (
            record { low = omega arith; high = high; before = λ j low below o. none_to place found.0.before j (omega (arith, below, two)) o },
            record { fits = fits; reads = reads k a b c },
          )
        where
          parts : (a b c : Bool) → (a && (b && c)) ≡ true → (b ≡ true) × (c ≡ true)
          parts true true true e = (refl, refl)
          parts true true false e = absurd (let f : false ≡ true = e in cc)
          parts true false c e = absurd (let f : false ≡ true = e in cc)
          parts false b c e = absurd (let f : false ≡ true = e in cc)
