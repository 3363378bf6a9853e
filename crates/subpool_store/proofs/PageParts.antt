-- Doublewords of one page that follow one another, and their bytes from the page's start.
use Rattle.std.proofs.Common.{◌≡◌, ℕ, ◌+◌, ◌-◌, ◌*◌, ◌/◌, ◌%◌, ◌<◌, ◌≤◌, false, inl, inr, arith}
use Rattle.std.proofs.lemmas.Bool.{cases_lt}
use Rattle.free_queue.specs.Runs.{Outside, Within}
use Rattle.subpool_store.specs.Bits.{in_range}
use Rattle.subpool_store.proofs.Ranges.{in_range_false, out_of_range_from}

module _ (page from to at n : ℕ) (some : from < to) (first : 512 * page ≤ from) (last : to ≤ 512 * page + 512) (at_is : at ≡ 8 * (from - 512 * page)) (n_is : n ≡ 8 * (to - from)) where
  pub inside_page : (i : ℕ) → from ≤ i → i < to → (i / 512 ≡ page) × Within at n (8 * (i % 512))
  inside_page i low high = (omega arith, (omega arith, omega arith))

  pub outside_part : (i : ℕ) → i / 512 ≡ page → in_range from to i ≡ false → Outside at n (8 * (i % 512))
  outside_part i here out = elim (cases_lt i from) [ inl low ↦ inl (omega (arith, low, here)) | inr le ↦ let past : to ≤ i = in_range_false from to i out le in inr (omega (arith, past, here)) ]

  pub other_page : (i : ℕ) → (i / 512 ≡ page → ⊥) → in_range from to i ≡ false
  other_page i other = out_of_range_from from to i (λ low. elim (cases_lt i to) [ inl high ↦ absurd (other (omega arith)) | inr past ↦ past ])
