-- What is kept of the pools agrees with storage.
use Rattle.std.specs.Prelude.{◌≡◌, ℕ, ◌+◌, ◌<◌, ◌≤◌, Some}
use Rattle.std.specs.FinMap.{FinMap, get}
use Rattle.mvs_model.specs.declared.name.Name.{Name}
use Rattle.mvs_model.specs.Name.{name_cmp}
use Rattle.mvs_model.specs.Storage.{Storage, IsStorage}
use Rattle.mvs_model.specs.Owners.{Owners}
use Rattle.mvs_model.specs.View.{IsBounded, state_of}
use Rattle.mvs_model.specs.WellFormed.{Apart}
use Rattle.cell_pool.specs.Layout.{byte_of, IsLaid}
use Rattle.cell_pool.specs.Roots.{Root, part_addr, free_in, AreFull, pools_of}

-- A pool has a part; each of its parts is laid out, each but the last says where the next one is, and the byte that a cell
-- gets is that of the step. (this project's choice)
pub record IsChained (st : Storage) (r : Root) : Type 0 where
  pub size : 4 ≤ r.cell_size
  pub small : r.cell_size ≤ 65536
  pub some : 1 ≤ r.count
  pub parts : (j : ℕ) → j < r.count → IsLaid (byte_of st) r.cell_size (part_addr (byte_of st) r.first j)
  pub last : part_addr (byte_of st) r.first r.count ≡ 0
  pub fill : r.fill ≡ st.regions.fill

-- Each pool is a chain of parts, and the parts do not overlap. The subpool of the pool holds each of them.
pub record AgreeParts (roots : FinMap name_cmp Root) (st : Storage) : Type 0 where
  pub storage : IsStorage st
  pub bounded : IsBounded st.regions
  pub chained : (name : Name) (r : Root) → get roots name ≡ Some r → IsChained st r
  pub apart : (o : Owners) → Apart (state_of st o (pools_of roots st))

-- What is kept of a pool says where its last part is, how many of its cells are free, and where a part is before which all
-- parts are full. (this project's choice)
pub record IsCounted (m : ℕ → ℕ) (r : Root) : Type 0 where
  pub last : (k : ℕ) → r.count ≡ k + 1 → r.last ≡ part_addr m r.first k
  pub free : r.free ≡ free_in m r.first r.count
  pub number : ℕ
  pub is_part : number < r.count
  pub open_part : r.open_part ≡ part_addr m r.first number
  pub full : AreFull m r.first number

-- The parts of the pools are as they should be, and what is kept of each pool says of its parts what is so.
pub record Agree (roots : FinMap name_cmp Root) (st : Storage) : Type 0 where
  pub parts : AgreeParts roots st
  pub counted : (name : Name) (r : Root) → get roots name ≡ Some r → IsCounted (byte_of st) r
