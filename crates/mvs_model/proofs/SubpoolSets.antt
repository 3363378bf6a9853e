-- Sets of subpools, a bit for each.
use Rattle.std.proofs.Common.{◌≡◌, ◌≢◌, ℕ, zero, suc, ◌+◌, ◌-◌, ◌*◌, ◌/◌, ◌%◌, ◌^◌, ◌<◌, ◌≤◌, ◌⊎◌, inl, inr, Bool, true, false, cond, eqb, List, [], ◌∷◌, length, get_or, set, replicate, bit_and, bit_or, w64, refl, sym, ap, ◌∙◌, arith, ◌||◌, ◌==◌, filter, nat_cmp, Less, pow-add, div-le_self}
use Rattle.std.specs.Int.{bit_at, trailing_zeros}
use Rattle.std.specs.List.{range_with_len, AllByRecursion}
use Rattle.std.specs.List.Sorted.{IsStrictlySortedBy}
use Rattle.std.proofs.lemmas.Bool.{cases_lt, cases_eq, or_right, or_left}
use Rattle.std.proofs.lemmas.Bool.Decides.{nat_tests}
use Rattle.std.proofs.lemmas.Grind.{get_or-set_at, common_steps}
use Rattle.std.proofs.lemmas.List.{get_or_past, get_or-replicate, length-replicate}
use Rattle.std.proofs.lemmas.List.Kept.{IsStrictlySortedBy-filter}
use Rattle.std.proofs.lemmas.Nat.{and_mask}
use Rattle.std.proofs.Math.Pow.{pow-lt}
use Rattle.std.proofs.lemmas.Nat.Bits.{bit_at-zero, bit_at-lt, bit_at_above, bit_at-trailing_zeros, bit_at_or, bit_at-pow_other}
use Rattle.std.proofs.Math.Nat.{div-div-eq-div-mul}
use Rattle.std.proofs.Math.Bool.{or-false}
use Rattle.mvs_model.specs.Storage.{is_one_of}
use Rattle.mvs_model.specs.Numbers.{most_subpools}
use Rattle.mvs_model.specs.SubpoolSet.{has_member, members, AreSubpools}
use Rattle.mvs_model.proofs.Tests.{same_test, false_true}

-- a test of the numbers in a row
passes : (p : ℕ → Bool) (a n s : ℕ) → p s ≡ true → a ≤ s → s < a + n → is_one_of (filter p (range_with_len a n)) s ≡ true
passes p a zero s h low high = absurd (omega arith)
passes p a (suc n) s h low high =
    at (p a) refl (cases_eq a s) (λ (d : a ≢ s). passes p (a + 1) n s h (omega (arith, d)) (let l : s < a + suc n = high in omega arith))
  where
    at : (b : Bool) → p a ≡ b → (a ≡ s) ⊎ (a ≢ s) → (a ≢ s → is_one_of (filter p (range_with_len (a + 1) n)) s ≡ true)
        → is_one_of (cond b (a ∷ filter p (range_with_len (a + 1) n)) (filter p (range_with_len (a + 1) n))) s ≡ true
    at true e (inl same) rest = or_left (a == s) _ (let f : (a == s) ≡ true = grind (arith, nat_tests) in f)
    at true e (inr d) rest = or_right (a == s) _ (rest d)
    at false e (inl same) rest = false_true (sym e ∙ ap p same ∙ h)
    at false e (inr d) rest = rest d

passed : (p : ℕ → Bool) (a n s : ℕ) → is_one_of (filter p (range_with_len a n)) s ≡ true → p s ≡ true
passed p a zero s h = false_true h
passed p a (suc n) s h = grind (arith, nat_tests, passed p (a + 1) n s)

-- what is past the words is no member
inside : (ws : List ℕ) (s : ℕ) → has_member ws s ≡ true → s < 64 * length ws
inside ws s h = grind (arith, nat_tests, bit_at-zero, get_or_past)

pub members_is : (ws : List ℕ) (s : ℕ) → is_one_of (members ws) s ≡ has_member ws s
unfolding members
members_is ws s = same_test _ (has_member ws s) (passed (has_member ws) 0 (64 * length ws) s) (λ h. passes (has_member ws) 0 (64 * length ws) s h (omega arith) (let l : s < 64 * length ws = inside ws s h in omega arith))

-- the numbers in a row rise
all_above : (x a n : ℕ) → x < a → AllByRecursion (λ y. nat_cmp x y ≡ Less) (range_with_len a n)
all_above x a zero h = tt
all_above x a (suc n) h = ((let e : nat_cmp x a ≡ Less = grind (arith, nat_tests) in e), all_above x (a + 1) n (omega arith))

rises : (a n : ℕ) → IsStrictlySortedBy nat_cmp (range_with_len a n)
unfolding IsStrictlySortedBy
rises a zero = tt
rises a (suc n) = (all_above a (a + 1) n (omega arith), rises (a + 1) n)

pub members_rise : (ws : List ℕ) → IsStrictlySortedBy nat_cmp (members ws)
unfolding members
members_rise ws = IsStrictlySortedBy-filter nat_cmp (has_member ws) (range_with_len 0 (64 * length ws)) (rises 0 (64 * length ws))

-- no bit, no member
none_passes : (p : ℕ → Bool) (a n : ℕ) → ((s : ℕ) → p s ≡ false) → filter p (range_with_len a n) ≡ []
none_passes p a zero h = refl
none_passes p a (suc n) h = ap (λ b. cond b (a ∷ filter p (range_with_len (a + 1) n)) (filter p (range_with_len (a + 1) n))) (h a) ∙ none_passes p (a + 1) n h

pub no_members : (ws : List ℕ) (n : ℕ) → ws ≡ replicate n 0 → members ws ≡ []
unfolding members
no_members ws n is = grind (arith, nat_tests, none_passes, bit_at-zero, get_or-replicate, get_or_past, length-replicate)

-- one bit more
pub member_more : (ws : List ℕ) (at bit s : ℕ) → at / 64 < length ws → bit_at bit (at % 64) ≡ 1 → ((i : ℕ) → (i ≡ at % 64 → ⊥) → bit_at bit i ≡ 0) →
    has_member (set ws (at / 64) (bit_or (get_or ws (at / 64) 0) bit)) s ≡ ((s == at) || has_member ws s)
member_more ws at bit s within one others = grind (arith, common_steps, bit_at-lt, bit_at_or, cases_eq, get_or-set_at)

pub subpools_more : (ws : List ℕ) (at bit : ℕ) → at / 64 < length ws → bit_at bit (at % 64) ≡ 1 → ((i : ℕ) → (i ≡ at % 64 → ⊥) → bit_at bit i ≡ 0) → at < most_subpools → AreSubpools ws → AreSubpools (set ws (at / 64) (bit_or (get_or ws (at / 64) 0) bit))
subpools_more ws at bit h1 h2 h3 h4 h5 = grind (arith, nat_tests, member_more)

pub no_subpools : (ws : List ℕ) (n : ℕ) → ws ≡ replicate n 0 → AreSubpools ws
no_subpools ws n h1 = grind (arith, common_steps, members_is, no_members)

-- bits of a word
pub bit_shr : (n k i : ℕ) → bit_at (n / 2 ^ k) i ≡ bit_at n (k + i)
bit_shr n k i = ap (λ x. x % 2) (div-div-eq-div-mul n (2 ^ k) (2 ^ i) ∙ ap (λ p. n / p) (sym (pow-add 2 k i)))

pub none_from : (n k : ℕ) → n / 2 ^ k ≡ 0 → (i : ℕ) → k ≤ i → bit_at n i ≡ 0
none_from n k e i low =
    let is : i ≡ k + (i - k) = omega arith in
    ap (bit_at n) is ∙ sym (bit_shr n k (i - k)) ∙ ap (λ r. bit_at r (i - k)) e ∙ bit_at-zero (i - k)

pub first_from : (n k z : ℕ) → n < 2 ^ 64 → (n / 2 ^ k ≡ 0 → ⊥) → trailing_zeros w64 (n / 2 ^ k) ≡ z →
    (k ≤ k + z) × (k + z < 64) × (bit_at n (k + z) ≡ 1) × ((i : ℕ) → k ≤ i → i < k + z → bit_at n i ≡ 0)
first_from n k z small some is =
    let less : n / 2 ^ k ≤ n = div-le_self n (2 ^ k) in
    let found = bit_at-trailing_zeros w64 (n / 2 ^ k) (omega arith) (omega arith) in
    let one : bit_at n (k + z) ≡ 1 = sym (bit_shr n k z) ∙ ap (bit_at (n / 2 ^ k)) (sym is) ∙ found.1 in (
      omega arith,
      elim (cases_lt (k + z) 64) [
        | inl low ↦ low
        | inr high ↦ absurd (let e : 0 ≡ 1 = sym (bit_at_above n 64 (k + z) small high) ∙ one in cc)
      ],
      one,
      λ i low high.
          let at : i ≡ k + (i - k) = omega arith in
          ap (bit_at n) at ∙ sym (bit_shr n k (i - k)) ∙ found.2 (i - k) (omega arith),
    )

pub power_bit : (at i : ℕ) → at < 64 → (i ≡ at → ⊥) → bit_at (1 * 2 ^ at % 2 ^ 64) i ≡ 0
power_bit at i h1 h2 = grind (arith, common_steps, bit_at-pow_other, pow-lt)

-- the set's members by the bits of one word
module _ (ws set : List ℕ) (is : members ws ≡ set) where
  pub in_set : (s : ℕ) → is_one_of set s ≡ has_member ws s
  in_set s = ap (λ xs. is_one_of xs s) (sym is) ∙ members_is ws s

  pub none_in_word : (from first end : ℕ) → first ≡ from / 64 * 64 → end ≡ first + 64 → ((i : ℕ) → from % 64 ≤ i → i < 64 → bit_at (get_or ws (from / 64) 0) i ≡ 0) → (s : ℕ) → from ≤ s → s < end → is_one_of set s ≡ false
  none_in_word from first end h1 h2 h3 s h4 h5 = grind (arith, nat_tests, in_set)

  -- none from one on in its word, and then words that are zero
  pub none_in_words : (from next : ℕ) → ((i : ℕ) → from % 64 ≤ i → i < 64 → bit_at (get_or ws (from / 64) 0) i ≡ 0) → ((w : ℕ) → from / 64 + 1 ≤ w → w < next → get_or ws w 0 ≡ 0) → (s : ℕ) → from ≤ s → s < 64 * next → is_one_of set s ≡ false
  none_in_words from next none clear s low high = grind (arith, nat_tests, in_set, none_in_word, bit_at-zero)

  pub in_word : (from first bit : ℕ) → first ≡ from / 64 * 64 → bit < 64 → bit_at (get_or ws (from / 64) 0) bit ≡ 1 → is_one_of set (first + bit) ≡ true
  in_word from first bit h1 h2 h3 = grind (arith, nat_tests, in_set)

  pub none_past : (s : ℕ) → 64 * length ws ≤ s → is_one_of set s ≡ false
  none_past s high = in_set s ∙ ap (λ w. eqb (bit_at w (s % 64)) 1) (get_or_past ws (s / 64) 0 (omega arith)) ∙ ap (λ x. eqb x 1) (bit_at-zero (s % 64))

  pub none_before : (from first bit : ℕ) → first ≡ from / 64 * 64 → bit < 64 → ((i : ℕ) → from % 64 ≤ i → i < bit → bit_at (get_or ws (from / 64) 0) i ≡ 0) → (s : ℕ) → from ≤ s → s < first + bit → is_one_of set s ≡ false
  none_before from first bit h1 h2 h3 s h4 h5 = grind (arith, nat_tests, in_set)

pub low_bit : (n : ℕ) → bit_and n 1 ≡ n % 2
low_bit n = and_mask n 1

-- the only member
pub alone : (t s : ℕ) (old : List ℕ) → old ≡ [] → ((t == s) || is_one_of old t) ≡ (t == s)
alone t s old e = ap (λ xs. (t == s) || is_one_of xs t) e ∙ or-false (t == s)

-- a set that no number passes has no member
pub nobody : (xs : List ℕ) → ((s : ℕ) → 0 ≤ s → is_one_of xs s ≡ false) → xs ≡ []
nobody [] h = refl
nobody (x ∷ xs) h = absurd (let t : (x == x) ≡ true = grind (arith, nat_tests) in let f : true ≡ false = sym (ap (λ b. b || is_one_of xs x) t) ∙ h x (omega arith) in cc)

pub somebody : (xs : List ℕ) (s : ℕ) → is_one_of xs s ≡ true → xs ≡ [] → ⊥
somebody xs s h e = let f : false ≡ true = ap (λ ys. is_one_of ys s) (sym e) ∙ h in absurd (cc)
