-- Where the cells of a part lie.
use Rattle.std.proofs.Common.{◌≡◌, ℕ, suc, ◌+◌, ◌*◌, ◌/◌, ◌%◌, ◌<◌, ◌≤◌, true, arith, mul-le-mul_right}
use Rattle.std.proofs.lemmas.Bool.Decides.{nat_tests}
use Rattle.mvs_model.specs.Place.{PlaceValue}
use Rattle.mvs_model.specs.Storage.{IsWhole, Covers, covers, has_address}
use Rattle.mvs_model.specs.Pools.{Part, part_length, IsCellOf}

-- a place has an address, or it has not
pub has_is : (p : PlaceValue) (a : ℕ) → has_address p a ≡ true → (p.addr ≤ a) × (a < p.addr + p.len)
has_is p a e = grind (arith, nat_tests)

pub address_yes : (p : PlaceValue) (a : ℕ) → p.addr ≤ a → a < p.addr + p.len → has_address p a ≡ true
address_yes p a low high = grind (arith, nat_tests)

-- a place of whole doublewords has an address just where it has its doubleword
pub whole_has : (p : PlaceValue) (a : ℕ) → IsWhole p → has_address p a ≡ covers p (a / 8)
whole_has p a w = let u : p.addr % 8 ≡ 0 = w.0 in let v : p.len % 8 ≡ 0 = w.1 in grind (arith, nat_tests)

-- a later cell begins after the end of an earlier one
pub after_cell : (i j size : ℕ) → i < j → i * size + size ≤ j * size
after_cell i j size l = let m : suc i * size ≤ j * size = mul-le-mul_right size l in omega arith

-- a cell lies in its part
pub cell_inside : (size : ℕ) (part : Part) (c a : ℕ) → part.place.len ≡ part_length size part.count → IsCellOf size part c → c ≤ a → a < c + size → Covers part.place (a / 8)
cell_inside size part c a h1 h2 h3 h4 = grind (arith, nat_tests)

-- no two cells of a part have an address in common
pub one_cell : (size : ℕ) (part : Part) (b c a : ℕ) → IsCellOf size part b → IsCellOf size part c → b ≤ a → a < b + size → c ≤ a → a < c + size → b ≡ c
one_cell size part b c a h1 h2 h3 h4 h5 h6 = grind (arith, nat_tests, after_cell)
