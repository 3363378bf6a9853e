-- What is kept of a pool outside storage, and the pool that it is together with storage.
use Rattle.std.specs.Prelude.{◌≡◌, ℕ, zero, suc, ◌+◌, ◌-◌, ◌*◌, ◌<◌, ◌≤◌, ◌==◌, Bool, ◌&&◌, true, false, List, [], ◌∷◌, map, refl, if◌then◌else◌}
use Rattle.std.specs.List.{range_with_len}
use Rattle.std.specs.Option.{option_map}
use Rattle.std.specs.Ordering.{nat_cmp}
use Rattle.std.specs.FinMap.{FinMap, get, keys}
use Rattle.std.specs.FinSet as set
use Rattle.std.specs.Coded.{Coded, code_by, coded×, coded_ℕ, coded_bool}
use Rattle.mvs_model.specs.declared.want.Side.{Side}
use Rattle.mvs_model.specs.declared.want.Side.TheVariants.{Below, Either}
use Rattle.mvs_model.specs.Name.{name_cmp}
use Rattle.mvs_model.specs.Finite.{any_below}
use Rattle.mvs_model.specs.Keyed.{keyed}
use Rattle.mvs_model.specs.Place.{place_at}
use Rattle.mvs_model.specs.Storage.{Storage}
use Rattle.mvs_model.specs.Pools.{Pool, Part, part_length, first_cell}
use Rattle.cell_pool.specs.Layout.{byte_of, next_at, count_at, taken_at, flag}

-- The record of a pool outside storage: its subpool, the size of a cell, the numbers of cells of the first part and of further
-- ones, their side, the fill byte of a cell, the number of parts, the addresses of the first and the last part, the number of free
-- cells of all parts, and a part before which all parts are full.
pub record Root : Type 0 where
  pub subpool : ℕ
  pub cell_size : ℕ
  pub primary : ℕ
  pub secondary : ℕ
  pub side : Side
  pub fill : ℕ
  pub count : ℕ
  pub first : ℕ
  pub last : ℕ
  pub free : ℕ
  pub open_part : ℕ

-- codes, for a model's value
abbrev is_below : Side → Bool
is_below Below = true
is_below Either = false

-- the side that this says
abbrev below_if : Bool → Side
below_if true = Below
below_if false = Either

-- the side is the given one
abbrev below_if-is_below : (s : Side) → below_if (is_below s) ≡ s
below_if-is_below Below = refl
below_if-is_below Either = refl

-- the code of what is kept
abbrev pub root_code : Coded Root
root_code =
    code_by ((ℕ × ℕ) × ((ℕ × ℕ) × (Side × (ℕ × ((ℕ × ℕ) × (ℕ × (ℕ × ℕ)))))))
    (coded× (coded× coded_ℕ coded_ℕ) (coded× (coded× coded_ℕ coded_ℕ) (coded× (code_by Bool coded_bool is_below below_if below_if-is_below) (coded× coded_ℕ (coded× (coded× coded_ℕ coded_ℕ) (coded× coded_ℕ (coded× coded_ℕ coded_ℕ)))))))
    (λ r. ((r.subpool, r.cell_size), ((r.primary, r.secondary), (r.side, (r.fill, ((r.count, r.first), (r.last, (r.free, r.open_part))))))))
    (λ p. record { subpool = p.0.0; cell_size = p.0.1; primary = p.1.0.0; secondary = p.1.0.1; side = p.1.1.0; fill = p.1.1.1.0; count = p.1.1.1.1.0.0; first = p.1.1.1.1.0.1; last = p.1.1.1.1.1.0; free = p.1.1.1.1.1.1.0; open_part = p.1.1.1.1.1.1.1 })
    (λ _. refl)

-- the address of a part, where the first one is at an address: each says where the next one is
unfoldable pub part_addr : (ℕ → ℕ) → ℕ → ℕ → ℕ
part_addr m first zero = first
part_addr m first (suc i) = next_at m (part_addr m first i)

-- the number of free cells of n parts, the first at an address
unfoldable pub free_in : (ℕ → ℕ) → ℕ → ℕ → ℕ
free_in m first zero = 0
free_in m first (suc n) = (count_at m (part_addr m first n) - taken_at m (part_addr m first n)) + free_in m first n

-- All cells of n parts are taken. The first part is at an address.
abbrev pub AreFull : (ℕ → ℕ) → ℕ → ℕ → Type 0
AreFull m first n = (j : ℕ) → j < n → count_at m (part_addr m first j) ≤ taken_at m (part_addr m first j)

-- what is kept of the pool with a further part at an address, where all other parts are full
abbrev pub extended : Root → ℕ → Root
extended r a = record r { count = r.count + 1; last = a; free = r.secondary; open_part = a }

-- the part of cells of a size at an address
abbrev pub part_at : (ℕ → ℕ) → ℕ → ℕ → Part
part_at m size a = record { place = place_at a (part_length size (count_at m a)); count = count_at m a }

-- a part of the pool
abbrev pub part_of : (ℕ → ℕ) → Root → ℕ → Part
part_of m r j = part_at m r.cell_size (part_addr m r.first j)

-- the parts of the pool
unfoldable pub parts_of : (ℕ → ℕ) → Root → List Part
parts_of m r = map (part_of m r) (range_with_len 0 r.count)

-- whether a cell of the part begins at the address, and its flag is set
unfoldable pub has_taken : (ℕ → ℕ) → ℕ → ℕ → ℕ → Bool
has_taken m size a c = any_below (λ i. (first_cell size (part_at m size a) + i * size == c) && flag m a i) (count_at m a)

-- whether a part of the pool has a taken cell at the address
unfoldable pub is_taken : (ℕ → ℕ) → Root → ℕ → Bool
is_taken m r c = any_below (λ j. has_taken m r.cell_size (part_addr m r.first j) c) r.count

-- the numbers below a bound that pass a test
unfoldable pub passing : ℕ → (ℕ → Bool) → List ℕ
passing zero test = []
passing (suc n) test = if test n then n ∷ passing n test else passing n test

-- the addresses of the pool's taken cells
unfoldable pub taken_of : (ℕ → ℕ) → Root → set.FinSet nat_cmp
taken_of m r = set.from_list (passing 2147483648 (is_taken m r))

-- the pool
abbrev pub pool_of : (ℕ → ℕ) → Root → Pool
pool_of m r = record { subpool = r.subpool; cell_size = r.cell_size; primary = r.primary; secondary = r.secondary; side = r.side; parts = parts_of m r; taken = taken_of m r }

-- all pools, by their names
unfoldable pub pools_of : FinMap name_cmp Root → Storage → FinMap name_cmp Pool
pools_of roots st = keyed name_cmp (keys roots) (λ name. option_map (pool_of (byte_of st)) (get roots name))
