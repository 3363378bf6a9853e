-- The first number of a set of numbers.
use Rattle.std.proofs.Common.{◌≡◌, ℕ, ◌+◌, ◌-◌, ◌/◌, ◌^◌, ◌<◌, ◌≤◌, inl, inr, true, false, eqb, sym, ap, ◌∙◌, arith, div-le_self}
use Rattle.std.specs.Int.{bit_at, trailing_zeros, w128}
use Rattle.std.proofs.lemmas.Bool.{cases_lt}
use Rattle.std.proofs.lemmas.Nat.Bits.{bit_at_above, bit_at-trailing_zeros}
use Rattle.mvs_model.specs.Gifts.{has_bit}
use Rattle.mvs_model.proofs.SubpoolSets.{bit_shr, none_from}

-- no number from one on where the rest of the set is empty
pub no_number : (set from : ℕ) → set / 2 ^ from ≡ 0 → (n : ℕ) → from ≤ n → has_bit set n ≡ false
no_number set from e n low = ap (λ x. eqb x 1) (none_from set from e n low)

-- the zeros at the end of the rest give its first number
pub number_found : (set from z : ℕ) → set < 2 ^ 128 → (set / 2 ^ from ≡ 0 → ⊥) → trailing_zeros w128 (set / 2 ^ from) ≡ z →
    (from ≤ from + z) × (from + z < 128) × (has_bit set (from + z) ≡ true) × ((i : ℕ) → from ≤ i → i < from + z → has_bit set i ≡ false)
number_found set from z small some is =
    let less : set / 2 ^ from ≤ set = div-le_self set (2 ^ from) in
    let found = bit_at-trailing_zeros w128 (set / 2 ^ from) (omega arith) (omega arith) in
    let one : bit_at set (from + z) ≡ 1 = sym (bit_shr set from z) ∙ ap (bit_at (set / 2 ^ from)) (sym is) ∙ found.1 in (
      omega arith,
      elim (cases_lt (from + z) 128) [
        | inl low ↦ low
        | inr high ↦ absurd (let e : 0 ≡ 1 = sym (bit_at_above set 128 (from + z) small high) ∙ one in cc)
      ],
      ap (λ x. eqb x 1) one,
      λ i low high.
          let at : i ≡ from + (i - from) = omega arith in
          ap (λ x. eqb x 1) (ap (bit_at set) at ∙ sym (bit_shr set from (i - from)) ∙ found.2 (i - from) (omega arith)),
    )
