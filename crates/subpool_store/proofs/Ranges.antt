-- The test whether a number is in a range.
use Rattle.std.proofs.Common.{◌≡◌, ℕ, ◌<◌, ◌≤◌, true, false, arith}
use Rattle.std.proofs.lemmas.Bool.Decides.{nat_tests}
use Rattle.subpool_store.specs.Bits.{in_range}

pub in_range_true : (from to i : ℕ) → in_range from to i ≡ true → (from ≤ i) × (i < to)
in_range_true from to i e = grind (arith, nat_tests)

pub in_range_false : (from to i : ℕ) → in_range from to i ≡ false → from ≤ i → to ≤ i
in_range_false from to i e low = grind (arith, nat_tests)

pub in_range_from : (from to i : ℕ) → from ≤ i → i < to → in_range from to i ≡ true
in_range_from from to i low high = grind (arith, nat_tests)

pub out_of_range_from : (from to i : ℕ) → (from ≤ i → to ≤ i) → in_range from to i ≡ false
out_of_range_from from to i out = grind (arith, nat_tests)
