-- Cell pools: their parts and cells.
use Rattle.std.specs.Prelude.{◌≡◌, ℕ, ◌+◌, ◌-◌, ◌*◌, ◌/◌, ◌<◌, Bool, true, false, List, None, refl}
use Rattle.std.specs.List.{list_any, Contains}
use Rattle.std.specs.Ordering.{nat_cmp}
use Rattle.std.specs.FinSet as set
use Rattle.std.specs.Coded.{Coded, code_by, coded×, coded_ℕ, coded_bool, coded_list}
use Rattle.mvs_model.specs.declared.want.Side.{Side}
use Rattle.mvs_model.specs.declared.want.Side.TheVariants.{Below, Either}
use Rattle.mvs_model.specs.Place.{PlaceValue, place_at, round8}
use Rattle.mvs_model.specs.Want.{WantValue}
use Rattle.mvs_model.specs.Storage.{has_address, covers}

-- A part of a pool: its place, and how many cells it has. (Assembler Services Guide, cell pools)
pub record Part : Type 0 where
  pub place : PlaceValue
  pub count : ℕ

-- A pool: the subpool of its storage, the size of a cell, the numbers of cells of the first part and of further parts, their side,
-- the parts in the order in which they were obtained, and the addresses of the taken cells. (Assembler Services Reference, CPOOL)
pub record Pool : Type 0 where
  pub subpool : ℕ
  pub cell_size : ℕ
  pub primary : ℕ
  pub secondary : ℕ
  pub side : Side
  pub parts : List Part
  pub taken : set.FinSet nat_cmp

-- the length of a part with this number of cells: sixteen bytes, a bit for each cell in whole doublewords, and the cells in whole
-- doublewords. (this project's choice)
abbrev pub part_length : ℕ → ℕ → ℕ
part_length size count = 16 + 8 * ((count + 63) / 64) + round8 (count * size)

-- what the place of a part has to meet: one length, on a doubleword. (this project's choice)
abbrev pub part_want : ℕ → ℕ → Side → WantValue
part_want size count side = record { least = part_length size count; most = part_length size count; start = 3; within = None; side = side }

-- the address of the first cell of a part: the cells are at its end. (this project's choice)
abbrev pub first_cell : ℕ → Part → ℕ
first_cell size part = part.place.addr + part.place.len - round8 (part.count * size)

-- A cell of the part begins at the address: the cells are adjacent. (this project's choice)
abbrev pub IsCellOf : ℕ → Part → ℕ → Type 0
IsCellOf size part c = (i : ℕ) × (i < part.count) × (c ≡ first_cell size part + i * size)

-- A cell of the pool begins at the address.
abbrev pub IsCell : Pool → ℕ → Type 0
IsCell pool c = (part : Part) × Contains pool.parts part × IsCellOf pool.cell_size part c

-- A cell of the pool begins at the address, and it is not taken.
abbrev pub IsFreeCell : Pool → ℕ → Type 0
IsFreeCell pool c = IsCell pool c × (set.contains pool.taken c ≡ false)

-- the bytes of a cell
abbrev pub cell_at : Pool → ℕ → PlaceValue
cell_at pool c = place_at c pool.cell_size

-- whether a part of the pool has the doubleword
abbrev pub in_parts : Pool → ℕ → Bool
in_parts pool d = list_any (λ part. covers part.place d) pool.parts

-- whether a taken cell of the pool has the address
abbrev pub in_taken : Pool → ℕ → Bool
in_taken pool a = list_any (λ c. has_address (cell_at pool c) a) (set.items pool.taken)

-- codes, for a model's value
abbrev is_below : Side → Bool
is_below Below = true
is_below Either = false

-- the side that this says
abbrev below_if : Bool → Side
below_if true = Below
below_if false = Either

-- the side is the given one
abbrev below_if-is_below : (s : Side) → below_if (is_below s) ≡ s
below_if-is_below Below = refl
below_if-is_below Either = refl

-- the code of a part
abbrev part_code : Coded Part
part_code = code_by (ℕ × (ℕ × ℕ)) (coded× coded_ℕ (coded× coded_ℕ coded_ℕ)) (λ p. (p.place.addr, (p.place.len, p.count))) (λ p. record { place = record { addr = p.0; len = p.1.0 }; count = p.1.1 }) (λ _. refl)

-- the code of a pool
abbrev pub pool_code : Coded Pool
pool_code =
    code_by ((ℕ × ℕ) × ((ℕ × ℕ) × (Side × (List Part × set.FinSet nat_cmp))))
    (coded× (coded× coded_ℕ coded_ℕ) (coded× (coded× coded_ℕ coded_ℕ) (coded× (code_by Bool coded_bool is_below below_if below_if-is_below) (coded× (coded_list part_code) (set.code coded_ℕ)))))
    (λ p. ((p.subpool, p.cell_size), ((p.primary, p.secondary), (p.side, (p.parts, p.taken)))))
    (λ p. record { subpool = p.0.0; cell_size = p.0.1; primary = p.1.0.0; secondary = p.1.0.1; side = p.1.1.0; parts = p.1.1.1.0; taken = p.1.1.1.1 })
    (λ _. refl)
