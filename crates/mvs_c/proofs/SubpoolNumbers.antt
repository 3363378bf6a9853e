-- The numbers of a set of subpools in their order: they are listed in the text of the set, and they are the set.
use Rattle.std.proofs.Common.{◌≡◌, ◌≢◌, refl, sym, ap, ◌∙◌, ℕ, zero, suc, ◌+◌, ◌-◌, ◌*◌, ◌/◌, ◌%◌, ◌^◌, ◌==◌, ◌||◌, ◌<◌, ◌≤◌, min, true, false, List, [], ◌∷◌, ◌++◌, map, decimal, bit_and, pow-suc, arith, if◌then◌else◌}
use Rattle.std.specs.Int.{bit_at}
use Rattle.std.specs.Int.Bits.{or_add_and, or_zero_r}
use Rattle.std.specs.List.{list_any, AllByRecursion}
use Rattle.std.proofs.lemmas.Bool.{ne_eqb}
use Rattle.std.proofs.lemmas.Bool.Decides.{nat_tests}
use Rattle.std.proofs.lemmas.Nat.Bits.{bit_at_and, bit_at-zero}
use Rattle.std.proofs.Math.Nat.{div-div-eq-div-mul, div-eq_of_lt}
use Rattle.mvs_model.specs.Gifts.{has_bit}
use Rattle.mvs_model.specs.Reading.{is_empty, is_twice, set_of}
use Rattle.mvs_model.specs.Spelling.{AreBetween}
use Rattle.mvs_model.proofs.ReadingRanges.{sets_apart}
use Rattle.mvs_c.specs.ListStatements.{each_text}
use Rattle.mvs_c.specs.Statements.{numbers_text}

-- the numbers of a set from 128 - count on
unfoldable pub numbers_of : ℕ → ℕ → List ℕ
numbers_of set zero = []
numbers_of set (suc count) = if has_bit set (127 - count) then (127 - count) ∷ numbers_of set count else numbers_of set count

-- ---- their text

pub texts_are : (set before count : ℕ) → numbers_text set before count ≡ each_text before (map decimal (numbers_of set count))
unfolding numbers_text numbers_of
texts_are set before zero = refl
texts_are set before (suc count) = elim (has_bit set (127 - count)) as (λ b. (if b then before ∷ decimal (127 - count) ++ numbers_text set 44 count else numbers_text set before count) ≡ each_text before (map decimal (if b then (127 - count) ∷ numbers_of set count else numbers_of set count))) [
  | true ↦ ap (λ (t : List ℕ). before ∷ (decimal (127 - count) ++ t)) (texts_are set 44 count)
  | false ↦ texts_are set before count
]

-- ---- what they are

pub are_between : (set count : ℕ) → count ≤ 127 → AreBetween 1 127 (numbers_of set count)
unfolding numbers_of
are_between set zero few = tt
are_between set (suc count) few = elim (has_bit set (127 - count)) as (λ b. AreBetween 1 127 (if b then (127 - count) ∷ numbers_of set count else numbers_of set count)) [
  | true ↦ ((omega (arith, few), omega arith), are_between set count (omega (arith, few)))
  | false ↦ are_between set count (omega (arith, few))
]

pub are_in : (set count : ℕ) → AllByRecursion (λ n. has_bit set n ≡ true) (numbers_of set count)
unfolding numbers_of
are_in set zero = tt
are_in set (suc count) = (elim (has_bit set (127 - count)) as (λ b. has_bit set (127 - count) ≡ b → AllByRecursion (λ n. has_bit set n ≡ true) (if b then (127 - count) ∷ numbers_of set count else numbers_of set count)) [
  | true ↦ λ e. (e, are_in set count)
  | false ↦ λ e. are_in set count
]) refl

are_later : (set count x : ℕ) → x + count < 128 → AllByRecursion (λ n. x < n) (numbers_of set count)
unfolding numbers_of
are_later set zero x low = tt
are_later set (suc count) x low = elim (has_bit set (127 - count)) as (λ b. AllByRecursion (λ n. x < n) (if b then (127 - count) ∷ numbers_of set count else numbers_of set count)) [
  | true ↦ (omega (arith, low), are_later set count x (omega (arith, low)))
  | false ↦ are_later set count x (omega (arith, low))
]

none_equal : (x : ℕ) (ns : List ℕ) → AllByRecursion (λ n. x < n) ns → list_any (◌==◌ x) ns ≡ false
none_equal x [] later = refl
none_equal x (n ∷ ns) later = (λ i. ne_eqb x n (λ e. omega (arith, later.0, e)) i || none_equal x ns later.1 i)

pub are_distinct : (set count : ℕ) → count ≤ 127 → is_twice ◌==◌ (numbers_of set count) ≡ false
unfolding numbers_of
are_distinct set zero few = refl
are_distinct set (suc count) few = elim (has_bit set (127 - count)) as (λ b. is_twice ◌==◌ (if b then (127 - count) ∷ numbers_of set count else numbers_of set count) ≡ false) [
  | true ↦ (λ i. none_equal (127 - count) (numbers_of set count) (are_later set count (127 - count) (omega (arith, few))) i || are_distinct set count (omega (arith, few)) i)
  | false ↦ are_distinct set count (omega (arith, few))
]

-- ---- their set

-- one more number below the others
with_one : (n : ℕ) (ns : List ℕ) → list_any (◌==◌ n) ns ≡ false → set_of (n ∷ ns) ≡ 2 ^ n + set_of ns
with_one n ns none =
    let apart : bit_and (2 ^ n) (set_of ns) ≡ 0 = ap (λ (a : ℕ). bit_and a (set_of ns)) (sym (or_zero_r (2 ^ n))) ∙ sets_apart (n ∷ []) ns (λ i. none i || false) in
    let sum = or_add_and (2 ^ n) (set_of ns) in
    omega (arith, sum, apart)

-- the upper bits of a number, with its lowest bit and without it
upper : (set n : ℕ) → set / 2 ^ suc n ≡ set / 2 ^ n / 2
upper set n = ap (λ (d : ℕ). set / d) (pow-suc 2 n) ∙ sym (div-div-eq-div-mul set (2 ^ n) 2)

doubled : (half n : ℕ) → half * 2 ^ suc n ≡ half * 2 * 2 ^ n
doubled half n = ap (λ (d : ℕ). half * d) (pow-suc 2 n) ∙ grind arith

is_odd : (set n : ℕ) → has_bit set n ≡ true → set / 2 ^ n ≡ set / 2 ^ n / 2 * 2 + 1
is_odd set n bit = let one : set / 2 ^ n % 2 ≡ 1 = grind (arith, nat_tests, bit) in omega (arith, one)

is_even : (set n : ℕ) → has_bit set n ≡ false → set / 2 ^ n ≡ set / 2 ^ n / 2 * 2
is_even set n bit = let one : set / 2 ^ n % 2 ≢ 1 = (λ e. grind (arith, nat_tests, bit, e)) in omega (arith, one)

from_half : (whole half p rest : ℕ) → whole ≡ half * 2 + 1 → rest ≡ half * 2 * p → p + rest ≡ whole * p
from_half whole half p rest e r = ap (λ (x : ℕ). p + x) r ∙ (grind arith) ∙ ap (λ (x : ℕ). x * p) (sym e)

upper_set : (set count n : ℕ) → set < 2 ^ 128 → n + count ≡ 128 → set_of (numbers_of set count) ≡ set / 2 ^ n * 2 ^ n
unfolding numbers_of
upper_set set zero n low e =
    let at : n ≡ 128 = omega (arith, e) in
    let none : 0 * 2 ^ n ≡ 0 = grind arith in
    sym (ap (λ (m : ℕ). set / 2 ^ m * 2 ^ n) at ∙ ap (λ (x : ℕ). x * 2 ^ n) (div-eq_of_lt low) ∙ none)
upper_set set (suc count) n low e =
    let at : 127 - count ≡ n = omega (arith, e) in
    let rest : set_of (numbers_of set count) ≡ set / 2 ^ n / 2 * 2 * 2 ^ n = upper_set set count (suc n) low (omega (arith, e)) ∙ ap (λ (x : ℕ). x * 2 ^ suc n) (upper set n) ∙ doubled (set / 2 ^ n / 2) n in
    (elim (has_bit set (127 - count)) as (λ b. has_bit set (127 - count) ≡ b → set_of (if b then (127 - count) ∷ numbers_of set count else numbers_of set count) ≡ set / 2 ^ n * 2 ^ n) [
      | true ↦ λ bit. with_one (127 - count) (numbers_of set count) (none_equal (127 - count) (numbers_of set count) (are_later set count (127 - count) (omega (arith, e)))) ∙ ap (λ (m : ℕ). 2 ^ m + set_of (numbers_of set count)) at
          ∙ from_half (set / 2 ^ n) (set / 2 ^ n / 2) (2 ^ n) (set_of (numbers_of set count)) (is_odd set n (ap (has_bit set) (sym at) ∙ bit)) rest
      | false ↦ λ bit. rest ∙ ap (λ (x : ℕ). x * 2 ^ n) (sym (is_even set n (ap (has_bit set) (sym at) ∙ bit)))
    ]) refl

pub are_set : (set : ℕ) → set < 2 ^ 128 → set % 2 ≡ 0 → set_of (numbers_of set 127) ≡ set
are_set set low even = upper_set set 127 1 low refl ∙ omega (arith, even)

pub are_some : (set : ℕ) → set < 2 ^ 128 → set % 2 ≡ 0 → 1 ≤ set → is_empty (numbers_of set 127) ≡ false
are_some set low even some = not_empty (numbers_of set 127) (are_set set low even) where
  not_empty : (ns : List ℕ) → set_of ns ≡ set → is_empty ns ≡ false
  not_empty [] e = absurd (omega (arith, some, e))
  not_empty (n ∷ ns) e = refl

-- ---- two sets that have no number in common

bit_one : (set n : ℕ) → has_bit set n ≡ true → bit_at set n ≡ 1
bit_one set n bit = grind (arith, nat_tests, bit)

not_both : (a b n : ℕ) → bit_and a b ≡ 0 → has_bit a n ≡ true → has_bit b n ≡ true → ⊥
not_both a b n apart one other =
    let e : min (bit_at a n) (bit_at b n) ≡ 0 = sym (bit_at_and a b n) ∙ ap (λ (x : ℕ). bit_at x n) apart ∙ bit_at-zero n in
    let f = bit_one a n one in let g = bit_one b n other in
    omega (arith, e, f, g)

no_other : (a b n : ℕ) (ns : List ℕ) → bit_and a b ≡ 0 → has_bit a n ≡ true → AllByRecursion (λ m. has_bit b m ≡ true) ns → list_any (◌==◌ n) ns ≡ false
no_other a b n [] apart one others = refl
no_other a b n (m ∷ ms) apart one others = (λ i. ne_eqb n m (λ e. not_both a b n apart one (ap (has_bit b) e ∙ others.0)) i || no_other a b n ms apart one others.1 i)

pub are_apart : (a b : ℕ) (ms ns : List ℕ) → bit_and a b ≡ 0 → AllByRecursion (λ m. has_bit a m ≡ true) ms → AllByRecursion (λ n. has_bit b n ≡ true) ns → list_any (λ n. list_any (◌==◌ n) ns) ms ≡ false
are_apart a b [] ns apart ones others = refl
are_apart a b (m ∷ ms) ns apart ones others = (λ i. no_other a b m ns apart ones.0 others i || are_apart a b ms ns apart ones.1 others i)
