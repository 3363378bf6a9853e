-- The doublewords and the addresses of a place, and ranges of indices.
use Rattle.std.proofs.Common.{◌≡◌, ℕ, ◌+◌, ◌-◌, ◌*◌, ◌/◌, ◌%◌, ◌<◌, ◌≤◌, false, arith}
use Rattle.std.proofs.lemmas.Bool.Decides.{nat_tests}
use Rattle.mvs_model.specs.Place.{PlaceValue}
use Rattle.mvs_model.specs.Storage.{covers, has_address}
use Rattle.subpool_store.specs.Bits.{in_range}

-- the doublewords of a place are the indices from its start to its end
pub covers_is : (first start end k : ℕ) (p : PlaceValue) → p.addr ≡ 8 * (first + start) → p.len ≡ 8 * (end - start) → start < end → first ≤ k → covers p k ≡ in_range start end (k - first)
covers_is first start end k p addr_is len_is some low = grind (arith, nat_tests)

pub covers_none : (first start end k : ℕ) (p : PlaceValue) → p.addr ≡ 8 * (first + start) → k < first → covers p k ≡ false
covers_none first start end k p addr_is low = grind (arith, nat_tests)

-- a place of whole doublewords has an address where it has its doubleword
pub has_address_is : (p : PlaceValue) (a : ℕ) → p.addr % 8 ≡ 0 → p.len % 8 ≡ 0 → has_address p a ≡ covers p (a / 8)
has_address_is p a on whole = by (p.addr / 8) (p.len / 8) (omega arith) (omega arith) where
  by : (m n : ℕ) → p.addr ≡ 8 * m → p.len ≡ 8 * n → has_address p a ≡ covers p (a / 8)
  by m n e f = grind (arith, nat_tests)

-- the addresses of a place are the distances from eight times its start to eight times its end
pub has_address_range : (first start end a : ℕ) (p : PlaceValue) → p.addr ≡ 8 * (first + start) → p.len ≡ 8 * (end - start) → start < end → 8 * first ≤ a →
    has_address p a ≡ in_range (8 * start) (8 * end) (a - 8 * first)
has_address_range first start end a p addr_is len_is some low = grind (arith, nat_tests)
