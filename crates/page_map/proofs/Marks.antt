-- Several numbers that are compared at once, and the first one that passes a test.
use Rattle.std.proofs.Common.{◌≡◌, ℕ, ◌+◌, ◌*◌, ◌%◌, ◌^◌, ◌<◌, ◌≤◌, ◌⊎◌, inl, inr, Bool, true, false, cond, ◌||◌, not, eqb, leb, List, [], ◌∷◌, map, length, get_or, replicate, Option, is_some, refl, sym, ap, ap₂, ◌∙◌, arith}
use Rattle.std.proofs.lemmas.Simd.{zip2_splat, zip2_splat_left, zip2_of_maps, mask_l-mod, length-chunk, first_set_mask_l, none_from_empty_mask, run_in_chunk_le, run_in_chunk_fails, run_in_chunk_stops}
use Rattle.std.proofs.lemmas.List.{length-map}
use Rattle.std.proofs.lemmas.List.Sums.{prefix_len-le-length}
use Rattle.std.proofs.lemmas.Bool.{ne_eqb, cases_lt}
use Rattle.std.proofs.lemmas.Bool.Decides.{nat_tests}
use Rattle.std.specs.List.{prefix_len}
use lib.Bits.{bit_or}
use lib.Count.{count_trailing_zeros}
use lib.Lanes.{zip2, chunk, mask_l, top}
use Rattle.page_map.specs.Codes.{AreCodes, decoded, page_owners}
use Rattle.page_map.specs.Owners.{owner_of, is_usable, IsFirst}
use Rattle.page_map.specs.Several.{is_below_free, is_marked, HasNone, IsAt}
use Rattle.page_map.proofs.Decoding.{decoded_some, decoded_none, length_is, owner_is}

-- what the two comparisons leave in a lane
abbrev lane_eq : ℕ → ℕ → ℕ
lane_eq a b = cond (eqb a b) 65535 0

abbrev lane_le : ℕ → ℕ → ℕ
lane_le a b = cond (leb a b) 65535 0

top_of_either : (b c : Bool) → top 15 (bit_or (cond b 65535 0) (cond c 65535 0)) ≡ (b || c)
top_of_either true true = refl
top_of_either true false = refl
top_of_either false true = refl
top_of_either false false = refl

each_lane : (f : ℕ → ℕ) (p : ℕ → Bool) → ((x : ℕ) → top 15 (f x) ≡ p x) → (v : List ℕ) → map (top 15) (map f v) ≡ map p v
each_lane f p same [] = refl
each_lane f p same (x ∷ xs) = ap₂ (λ b bs. b ∷ bs) (same x) (each_lane f p same xs)

pub usable_mask : (own n : ℕ) (v : List ℕ) → length v ≡ n → n ≤ 64 → mask_l (map (top 15) (zip2 bit_or (zip2 lane_eq v (replicate n own)) (zip2 lane_le (replicate n 32768) v))) % 2 ^ 64 ≡ mask_l (map (is_marked own) v)
usable_mask own n v long few =
    let lanes = zip2_of_maps bit_or (λ x. lane_eq x own) (λ x. lane_le 32768 x) v (zip2_splat lane_eq v n own long) (zip2_splat_left lane_le 32768 n v long) in
    ap (λ l. mask_l l % 2 ^ 64) (ap (map (top 15)) lanes ∙ each_lane (λ x. bit_or (lane_eq x own) (lane_le 32768 x)) (is_marked own) (λ x. top_of_either (eqb x own) (leb 32768 x)) v)
    ∙ mask_l-mod (map (is_marked own) v) 64 (omega (arith, length-map v (is_marked own), long, few))

pub marked_is : (own n : ℕ) → (n < 4098) ⊎ (n ≡ 65535) → own < 4098 → is_usable own (decoded n) ≡ is_marked own n
marked_is own n h1 h2 = grind (arith, nat_tests, decoded_some, decoded_none)

pub below_is : (n : ℕ) → (n < 4098) ⊎ (n ≡ 65535) → is_some (decoded n) ≡ is_below_free n
below_is n h1 = grind (arith, nat_tests, decoded_some, decoded_none)

-- where no number passes, no bit is set
none_fails : (b : Bool) (n l m : ℕ) → n ≤ l → cond (not b) (1 + n) 0 ≡ 1 + l → (n ≡ l → m ≡ 0) → cond b 1 0 + 2 * m ≡ 0
none_fails true n l m le e ih = let never : ⊥ = omega arith in absurd never
none_fails false n l m le e ih = let z = ih (omega arith) in omega arith

none_set : (p : ℕ → Bool) (xs : List ℕ) → prefix_len (λ x. not (p x)) xs ≡ length xs → mask_l (map p xs) ≡ 0
none_set p [] e = refl
none_set p (x ∷ xs) e = none_fails (p x) _ (length xs) _ (prefix_len-le-length (λ y. not (p y)) xs) (omega arith) (none_set p xs)

-- the bits of some numbers, and the owners of their pages
module _ (test : Option ℕ → Bool) (p : ℕ → Bool) (same : (n : ℕ) → (n < 4098) ⊎ (n ≡ 65535) → test (decoded n) ≡ p n) (codes : List ℕ) (are : AreCodes codes) (from n bits : ℕ) (room : from + n ≤ length codes) (is : bits ≡ mask_l (map p (chunk from n codes))) where
  tested : (k : ℕ) → k < length codes → test (owner_of (page_owners codes) k) ≡ p (get_or codes k 65535)
  tested k low = ap test (owner_is codes k) ∙ same (get_or codes k 65535) (are.each k low)

  pub none_among : bits ≡ 0 → HasNone test (page_owners codes) from (from + n)
  none_among none k low high = tested k (omega (arith, high, room)) ∙ none_from_empty_mask p codes from n 65535 room (sym is ∙ none) k low high

  counted : n ≤ 64 → (bits ≡ 0 → ⊥) → count_trailing_zeros 64 bits ≡ prefix_len (λ x. not (p x)) (chunk from n codes)
  counted few some =
      let part = chunk from n codes in
      ap (count_trailing_zeros 64) is
      ∙ ap (λ b. cond b n (count_trailing_zeros 64 (mask_l (map p part)))) (sym (ne_eqb (mask_l (map p part)) 0 (λ e. some (is ∙ e)))) ∙ first_set_mask_l p part n (length-chunk from n codes room) few

  less : n ≤ 64 → (bits ≡ 0 → ⊥) → count_trailing_zeros 64 bits < n
  less few some = elim (cases_lt (count_trailing_zeros 64 bits) n) [
    | inl low ↦ low
    | inr high ↦
        let all : count_trailing_zeros 64 bits ≡ n = omega (arith, high, run_in_chunk_le p codes from n _ 65535 room (counted few some)) in
        absurd (some (is ∙ none_set p (chunk from n codes) (sym (counted few some) ∙ all ∙ sym (length-chunk from n codes room))))
  ]

  pub some_among : n ≤ 64 → (bits ≡ 0 → ⊥) → IsAt test (page_owners codes) from (from + count_trailing_zeros 64 bits)
  some_among few some =
      let r = count_trailing_zeros 64 bits in
      let low = less few some in
      let within : from + r < length codes = omega (arith, low, room) in
      let there : from + r < length (page_owners codes) = omega (arith, within, length_is codes) in (
        there,
        record {
          after = omega arith;
          within = omega (arith, there);
          passed = λ k h1 h2. tested k (omega (arith, h2, within)) ∙ run_in_chunk_fails p codes from n r 65535 room (counted few some) k h1 h2;
          found = λ _. tested (from + r) within ∙ run_in_chunk_stops p codes from n r 65535 room (counted few some) low;
        },
      )

-- the first page from a later one on
pub first_later : (test : Option ℕ → Bool) (pages : List (Option ℕ)) (from page first : ℕ) → from ≤ page → HasNone test pages from page → IsFirst test pages page first → IsFirst test pages from first
first_later test pages from page first le none is = record {
  after = omega (arith, le, is.after);
  within = is.within;
  passed = λ k low high. elim (cases_lt k page) [
    | inl less ↦ none k low less
    | inr more ↦ is.passed k more high
  ];
  found = is.found;
}
