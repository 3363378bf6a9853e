-- How many pages have no subpool.
use Rattle.std.proofs.Common.{◌≡◌, ℕ, zero, suc, ◌+◌, ◌<◌, ◌≤◌, ◌⊎◌, inl, inr, Some, None, Bool, true, false, cond, List, length, length-set, take, get_or, set, is_some, not, eqb, refl, sym, ap, ◌∙◌, subst, arith}
use Rattle.std.specs.List.{count_by}
use Rattle.std.proofs.lemmas.Bool.Decides.{nat_tests}
use Rattle.std.proofs.lemmas.Grind.{common_steps}
use Rattle.std.proofs.lemmas.List.Sums.{count_by-le-length, count_by_more_no, count_by_more_yes, sum_by-set}
use Rattle.mvs_model.specs.Finite.{count_below}
use Rattle.page_map.specs.Codes.{AreCodes, decoded, free_codes, page_owners}
use Rattle.page_map.specs.Owners.{owner_of}
use Rattle.page_map.proofs.Decoding.{decoded_some, decoded_none, owner_is, length_is}

is_free : ℕ → Bool
is_free code = eqb code 65535

free_is : (code : ℕ) → (code < 4098) ⊎ (code ≡ 65535) → eqb code 65535 ≡ not (is_some (decoded code))
free_is code h = grind (arith, nat_tests, decoded_some, decoded_none)

one_more : (n free : ℕ) (test : ℕ → Bool) → free ≡ count_below n test → test n ≡ true → free + 1 ≡ count_below (suc n) test
unfolding count_below
one_more n free test e t = (let f : free + 1 ≡ 1 + count_below n test = omega arith in f) ∙ ap (λ b. cond b 1 0 + count_below n test) (sym t)

none_more : (n free : ℕ) (test : ℕ → Bool) → free ≡ count_below n test → test n ≡ false → free ≡ count_below (suc n) test
unfolding count_below
none_more n free test e t = (let f : free ≡ 0 + count_below n test = omega arith in f) ∙ ap (λ b. cond b 1 0 + count_below n test) (sym t)

none_yet : (codes : List ℕ) (test : ℕ → Bool) → count_by (λ code. eqb code 65535) (take 0 codes) ≡ count_below 0 test
unfolding count_below
none_yet codes test = refl

-- the free pages among the first ones
counted : (codes : List ℕ) → AreCodes codes → (n : ℕ) → n ≤ length codes → count_by (λ code. eqb code 65535) (take n codes) ≡ count_below n (λ p. not (is_some (owner_of (page_owners codes) p)))
counted codes are zero low = none_yet codes (λ p. not (is_some (owner_of (page_owners codes) p)))
counted codes are (suc n) low = by (counted codes are n (omega arith)) (eqb (get_or codes n 65535) 65535) refl where
  test : ℕ → Bool
  test p = not (is_some (owner_of (page_owners codes) p))

  tested : eqb (get_or codes n 65535) 65535 ≡ test n
  tested = free_is (get_or codes n 65535) (are.each n (omega arith)) ∙ ap (λ o. not (is_some o)) (sym (owner_is codes n))

  next : suc n ≡ n + 1
  next = omega arith

  by : count_by (λ code. eqb code 65535) (take n codes) ≡ count_below n test → (b : Bool) → eqb (get_or codes n 65535) 65535 ≡ b → count_by (λ code. eqb code 65535) (take (suc n) codes) ≡ count_below (suc n) test
  by before true e = ap (λ k. count_by (λ code. eqb code 65535) (take k codes)) next ∙ count_by_more_yes (λ code. eqb code 65535) codes n 65535 (omega arith) e ∙ one_more n _ test before (sym tested ∙ e)
  by before false e = ap (λ k. count_by (λ code. eqb code 65535) (take k codes)) next ∙ count_by_more_no (λ code. eqb code 65535) codes n 65535 (omega arith) e ∙ none_more n _ test before (sym tested ∙ e)

take_all : (codes : List ℕ) → take (length codes) codes ≡ codes
take_all codes = grind (arith, common_steps)

pub free_counted : (codes : List ℕ) → AreCodes codes → free_codes codes ≡ count_below (length (page_owners codes)) (λ p. not (is_some (owner_of (page_owners codes) p)))
free_counted codes are =
    ap (count_by (λ code. eqb code 65535)) (sym (take_all codes))
    ∙ counted codes are (length codes) (omega arith)
    ∙ ap (λ n. count_below n (λ p. not (is_some (owner_of (page_owners codes) p)))) (sym (length_is codes))

abbrev one_if : Bool → ℕ
one_if b = cond b 1 0

pub few_free : (codes : List ℕ) → free_codes codes ≤ length codes
few_free codes = count_by-le-length (λ code. eqb code 65535) codes

-- a page that was free is one less
pub one_less : (codes : List ℕ) (p n : ℕ) → p < length codes → get_or codes p 65535 ≡ 65535 → n < 65535 → free_codes codes ≡ free_codes (set codes p n) + 1
one_less codes p n low e other =
    let old : one_if (eqb (get_or codes p 65535) 65535) ≡ 1 = ap (λ m. one_if (eqb m 65535)) e in
    let taken : eqb n 65535 ≡ false = grind (arith, nat_tests) in
    let new : one_if (eqb n 65535) ≡ 0 = ap one_if taken in
    let sums : free_codes (set codes p n) + one_if (eqb (get_or codes p 65535) 65535) ≡ free_codes codes + one_if (eqb n 65535) = sum_by-set (λ code. one_if (eqb code 65535)) codes p n 65535 low in
    omega (arith, sums, old, new)

-- the number of a page that has no subpool
pub free_code_of : (codes : List ℕ) (p : ℕ) → AreCodes codes → p < length codes → owner_of (page_owners codes) p ≡ None → get_or codes p 65535 ≡ 65535
free_code_of codes p are low none = elim (are.each p low) [
  | inr free ↦ free
  | inl some ↦ absurd (let f : Some (get_or codes p 65535) ≡ None = sym (decoded_some (get_or codes p 65535) some) ∙ sym (owner_is codes p) ∙ none in cc)
]

-- a number that is written is that of a subpool
pub are_set : (codes : List ℕ) (p n : ℕ) → AreCodes codes → p < length codes → n < 4098 → AreCodes (set codes p n)
are_set codes p n are low some = record {
  few = subst (λ k. k ≤ 8192) (sym (length-set codes p n)) are.few;
  each = λ q low. grind (arith, common_steps, nat_tests);
}
