-- Numbers that are written in two ways.
use Rattle.std.proofs.Common.{◌≡◌, ℕ, zero, suc, ◌+◌, ◌-◌, ◌*◌, ◌^◌, ◌≤◌, ◌<◌, List, [], ◌∷◌, length, take, drop, arith, refl, sym, ap, ◌∙◌, true, false, Bool, pow-suc, inl, inr}
use Rattle.std.specs.Prelude.{◌==◌, ◌&&◌, nat_le, bytes_eq}
use Rattle.std.specs.List.{list_all}
use Rattle.std.proofs.Math.Nat.{mul-le-mul_right, pow-le-pow_right}
use Rattle.std.proofs.lemmas.Bool.{cases_lt}
use Rattle.std.proofs.lemmas.Bool.Decides.{nat_tests}
use Rattle.mvs_model.specs.Reading.{is_digit, number, is_number}
use Rattle.mvs_model.proofs.ReadingTaken.{and_true}
use Rattle.mvs_model.proofs.Tests.{less_other, same_self}

-- some digits are digits
pub number_digits : (text : List ℕ) → is_number text ≡ true → list_all is_digit text ≡ true
number_digits [] e = refl
number_digits (b ∷ bs) e = e

pub digits_number : (text : List ℕ) → 1 ≤ length text → list_all is_digit text ≡ is_number text
digits_number [] some = absurd (omega arith)
digits_number (b ∷ bs) some = refl

digit_range : (b : ℕ) → is_digit b ≡ true → (48 ≤ b) × (b ≤ 57)
digit_range b e = let a = and_true (nat_le 48 b) (nat_le b 57) e in (low b a.0, high b a.1) where
  low : (b : ℕ) → nat_le 48 b ≡ true → 48 ≤ b
  low b e = grind (arith, nat_tests)

  high : (b : ℕ) → nat_le b 57 ≡ true → b ≤ 57
  high b e = grind (arith, nat_tests)

-- a number is below the power of ten with its count of digits
below_power : (text : List ℕ) → list_all is_digit text ≡ true → number text < 10 ^ length text
below_power [] e = omega arith
below_power (b ∷ bs) e =
    let a = and_true (is_digit b) (list_all is_digit bs) e in
    let r = digit_range b a.0 in
    let rest = below_power bs a.1 in
    let high : b ≤ 57 = r.1 in
    let nine : (b - 48) * 10 ^ length bs ≤ 9 * 10 ^ length bs = (let d : b - 48 ≤ 9 = omega arith in mul-le-mul_right (10 ^ length bs) d) in
    let power : 10 ^ suc (length bs) ≡ 10 ^ length bs * 10 = pow-suc 10 (length bs) in
    omega arith

differ_back : (m n : ℕ) → n < m → (m == n) ≡ false
differ_back m n h = grind (arith, nat_tests)

-- numbers of as many digits are the same where their first digits and the others are
same_front : (d e p x y : ℕ) → x < p → y < p → (d * p + x == e * p + y) ≡ ((d == e) && (x == y))
same_front d e p x y hx hy = elim (cases_lt d e) [
  | inl h ↦
      let more : (d + 1) * p ≤ e * p = (let l : d + 1 ≤ e = omega arith in mul-le-mul_right p l) in
      let low : d * p + x < e * p + y = omega arith in
      less_other (d * p + x) (e * p + y) low ∙ ap (λ b. b && (x == y)) (sym (less_other d e h))
  | inr h ↦ elim (cases_lt e d) [
    | inl g ↦
        let more : (e + 1) * p ≤ d * p = (let l : e + 1 ≤ d = omega arith in mul-le-mul_right p l) in
        let low : e * p + y < d * p + x = omega arith in
        differ_back (d * p + x) (e * p + y) low ∙ ap (λ b. b && (x == y)) (sym (differ_back d e g))
    | inr g ↦
        let same : d ≡ e = omega arith in
        ap (λ d. d * p + x == e * p + y) same ∙ same_rest (e * p) x y ∙ ap (λ b. b && (x == y)) (sym (same_self e) ∙ ap (λ d. d == e) (sym same))
  ]
] where
  same_rest : (q x y : ℕ) → (q + x == q + y) ≡ (x == y)
  same_rest q x y = grind (arith, nat_tests)

digit_same : (a b : ℕ) → 48 ≤ a → 48 ≤ b → (a - 48 == b - 48) ≡ (a == b)
digit_same a b ha hb = grind (arith, nat_tests)

same_length : (a b : List ℕ) → length a ≡ length b → list_all is_digit a ≡ true → list_all is_digit b ≡ true → (number a == number b) ≡ bytes_eq a b
same_length [] [] l da db = refl
same_length [] (b ∷ bs) l da db = absurd (omega arith)
same_length (a ∷ ds) [] l da db = absurd (omega arith)
same_length (a ∷ ds) (b ∷ bs) l da db =
    let x = and_true (is_digit a) (list_all is_digit ds) da in
    let y = and_true (is_digit b) (list_all is_digit bs) db in
    let long : length ds ≡ length bs = omega arith in
    let short : number bs < 10 ^ length ds = (let p : number bs < 10 ^ length bs = below_power bs y.1 in let q : 10 ^ length ds ≡ 10 ^ length bs = ap (λ n. 10 ^ n) long in omega arith) in
    ap (λ n. (a - 48) * 10 ^ length ds + number ds == (b - 48) * 10 ^ n + number bs) (sym long)
    ∙ same_front (a - 48) (b - 48) (10 ^ length ds) (number ds) (number bs) (below_power ds x.1) short
    ∙ (λ i. digit_same a b (digit_range a x.0).0 (digit_range b y.0).0 i && same_length ds bs long x.1 y.1 i)

-- zeros in front count for nothing, and a longer number without them is another
pub same_after : (n : ℕ) (longer shorter : List ℕ) → length longer ≡ n + length shorter → list_all is_digit longer ≡ true → list_all is_digit shorter ≡ true
    → (number longer == number shorter) ≡ (list_all (λ b. b == 48) (take n longer) && bytes_eq (drop n longer) shorter)
same_after zero longer shorter l dl ds = same_length longer shorter (omega arith) dl ds
same_after (suc n) [] shorter l dl ds = absurd (omega arith)
same_after (suc n) (b ∷ bs) shorter l dl ds =
    let x = and_true (is_digit b) (list_all is_digit bs) dl in
    let r = digit_range b x.0 in
    let long : length bs ≡ n + length shorter = omega arith in
    let rest = same_after n bs shorter long x.1 ds in
    elim (cases_lt 48 b) [
      | inl h ↦
          let one : 10 ^ length shorter ≤ 10 ^ length bs = (let le : length shorter ≤ length bs = omega arith in pow-le-pow_right (omega arith) {i = length shorter} {j = length bs} le) in
          let first : 1 * 10 ^ length bs ≤ (b - 48) * 10 ^ length bs = (let d : 1 ≤ b - 48 = omega arith in mul-le-mul_right (10 ^ length bs) d) in
          let small = below_power shorter ds in
          let low : number shorter < (b - 48) * 10 ^ length bs + number bs = omega arith in
          differ_back _ _ low ∙ sym (not_zero b h (list_all (λ b. b == 48) (take n bs)) (bytes_eq (drop n bs) shorter))
      | inr h ↦
          let zero_digit : b ≡ 48 = (let low : 48 ≤ b = r.0 in omega arith) in
          let none : (b - 48) * 10 ^ length bs + number bs ≡ number bs = ap (λ b. (b - 48) * 10 ^ length bs + number bs) zero_digit ∙ nothing (10 ^ length bs) (number bs) in
          ap (λ m. m == number shorter) none ∙ rest ∙ ap (λ b. ((b == 48) && list_all (λ b. b == 48) (take n bs)) && bytes_eq (drop n bs) shorter) (sym zero_digit)
    ] where
      nothing : (p m : ℕ) → (48 - 48) * p + m ≡ m
      nothing p m = grind arith

      not_zero : (b : ℕ) → 48 < b → (x y : Bool) → (((b == 48) && x) && y) ≡ false
      not_zero b h x y = ap (λ t. (t && x) && y) (differ_back b 48 h)
