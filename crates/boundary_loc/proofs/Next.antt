-- The two starts at one of which whatever fits anywhere fits.
use Rattle.std.proofs.Common.{◌≡◌, ℕ, ◌+◌, ◌^◌, ◌%◌, ◌≤◌, Some, inl, inr, arith, pow_pos}
use Rattle.std.proofs.lemmas.Bool.{cases_lt}
use Rattle.std.proofs.lemmas.Bool.Decides.{nat_tests}
use Rattle.boundary_loc.specs.Boundary.{IsLeastMultiple, IsNextStart}
use Rattle.boundary_loc.proofs.Multiples.{lower_power, within_short, within_multiple, within_earlier}

-- the next start after the next multiple of the bound is a multiple of the bound
next_multiple : (s k m r : ℕ) → m % 2 ^ k ≡ 0 → IsLeastMultiple (2 ^ s) m r → r % 2 ^ k ≡ 0
next_multiple s k m r on least = grind (arith, nat_tests, cases_lt, lower_power)

pub moved : (s k first m r : ℕ) → IsLeastMultiple (2 ^ k) (first + 1) m → IsLeastMultiple (2 ^ s) m r → IsNextStart s (Some k) first r
moved s k first m r next least = record {
  after = let up : first + 1 ≤ m = next.after in let upper : m ≤ r = least.after in omega arith;
  on_start = least.multiple;
  enough = λ end n q some from on fits.
      let ends : q + n ≤ end = fits.0 in
      elim (cases_lt q m) [
        | inl before ↦ inl (omega arith, within_earlier (2 ^ k) first m n q (pow_pos k) some next from before fits.1)
        | inr trailing ↦
            let low : r ≤ q = least.least q trailing on in
            let short : n ≤ 2 ^ k = within_short (2 ^ k) q n (pow_pos k) some fits.1 in
            inr (low, (omega arith, within_multiple (2 ^ k) r n (pow_pos k) some (next_multiple s k m r next.multiple least) short))
      ];
}
