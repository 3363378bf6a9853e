-- The last start for a length, up to one start.
use Rattle.std.proofs.Common.{◌≡◌, ℕ, ◌+◌, ◌-◌, ◌^◌, ◌%◌, ◌<◌, ◌≤◌, Some, ◌⊎◌, sym, ◌∙◌, inl, inr, arith, pow_pos, mod-eq_of_lt}
use Rattle.std.proofs.lemmas.Bool.{cases_lt}
use Rattle.std.proofs.Math.Nat.{mod-eq-sub-mod}
use Rattle.boundary_loc.specs.Boundary.{IsGreatestMultiple, IsLastStart}
use Rattle.boundary_loc.proofs.Multiples.{lower_power, within_multiple, within_unpassed, within_before, passes}

-- where the bytes pass no boundary it is the start itself
pub last_within : (s k n last passed : ℕ) → last % 2 ^ s ≡ 0 → 0 < n → IsGreatestMultiple (2 ^ k) (last + n - 1) passed → passed ≤ last → IsLastStart s (Some k) n last last
last_within s k n last passed on some is low = record {
  before = omega arith;
  on_start = on;
  lies_within = within_unpassed (2 ^ k) n last passed (pow_pos k) some is low;
  highest = λ q low on_q within. low;
}

-- where they pass one it is the last start from which the bytes end before it
pub last_moved : (s k n last passed r : ℕ) → last % 2 ^ s ≡ 0 → 0 < n → n ≤ 2 ^ k → IsGreatestMultiple (2 ^ k) (last + n - 1) passed → last < passed →
    IsGreatestMultiple (2 ^ s) (passed - n) r → IsLastStart s (Some k) n last r
last_moved s k n last passed r on some short is over down =
    let end : passed ≤ last + n - 1 = is.before in
    let first : r ≤ passed - n = down.before in
    let bound : 2 ^ k ≤ passed = at_least (cases_lt passed (2 ^ k)) in
    record {
      before = omega arith;
      on_start = down.multiple;
      lies_within = within_before (2 ^ k) n passed r (pow_pos k) some is.multiple bound (near bound (cases_lt k s)) (omega arith);
      highest = λ q low on_q within. elim (cases_lt (passed - n) q) [
        | inl beyond ↦ absurd (passes (2 ^ k) n passed q (pow_pos k) is.multiple (omega arith) (omega arith) within)
        | inr front ↦ down.greatest q front on_q
      ];
    } where
      at_least : (passed < 2 ^ k) ⊎ (2 ^ k ≤ passed) → 2 ^ k ≤ passed
      at_least (inr big) = big
      at_least (inl small) = let none : passed % 2 ^ k ≡ passed = mod-eq_of_lt small in absurd (omega (arith, none, is.multiple, over))

      near : 2 ^ k ≤ passed → (k < s) ⊎ (s ≤ k) → passed - 2 ^ k ≤ r
      near bound (inr low) = down.greatest (passed - 2 ^ k) (omega arith) (lower_power (passed - 2 ^ k) s k low (sym (mod-eq-sub-mod bound) ∙ is.multiple))
      near bound (inl high) = absurd (passes (2 ^ k) n passed last (pow_pos k) is.multiple over (omega (arith, is.before)) (within_multiple (2 ^ k) last n (pow_pos k) some (lower_power last k s (omega arith) on) short))
