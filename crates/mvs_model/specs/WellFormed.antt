-- What every state of a run keeps.
use Rattle.std.specs.Prelude.{◌≡◌, ◌≢◌, ℕ, ◌≤◌, true, map, Some, IsSome, is_some}
use Rattle.std.specs.List.{Contains}
use Rattle.std.specs.FinMap.{get}
use Rattle.std.specs.FinSet as set
use Rattle.mvs_model.specs.declared.name.Name.{Name}
use Rattle.mvs_model.specs.Storage.{PageRule, IsWhole, Covers}
use Rattle.mvs_model.specs.Subpool.{IsSubpoolNumber}
use Rattle.mvs_model.specs.Owners.{Owners, entry, is_active}
use Rattle.mvs_model.specs.Pools.{Pool, Part, part_length, IsCell, in_parts}
use Rattle.mvs_model.specs.State.{State, Holding, pooled, holder, granted}
use Rattle.mvs_model.specs.Changes.{Misses, Disjoint}

-- A part of a pool is of whole doublewords, as long as its cells ask, and held by the pool's subpool as a part.
pub record IsPart (st : State) (pool : Pool) (part : Part) : Type 0 where
  pub whole : IsWhole part.place
  pub length : part.place.len ≡ part_length pool.cell_size part.count
  pub some : 1 ≤ part.count
  pub held : (d : ℕ) → Covers part.place d → get st.held d ≡ Some (pooled pool.subpool)

-- The parts of the pools do not overlap and cover exactly the doublewords that are held for pools; a taken cell is a cell of
-- its pool; and there are bytes exactly where they may be read.
pub record Apart (st : State) : Type 0 where
  pub parts : (name : Name) (pool : Pool) (part : Part) → get st.pools name ≡ Some pool → Contains pool.parts part → IsPart st pool part
  pub within : (name : Name) (pool : Pool) → get st.pools name ≡ Some pool → Disjoint (map (λ part. part.place) pool.parts)
  pub between : (m n : Name) (p q : Pool) (a b : Part) → m ≢ n → get st.pools m ≡ Some p → get st.pools n ≡ Some q → Contains p.parts a → Contains q.parts b → Misses a.place b.place
  pub covered : (d s : ℕ) → get st.held d ≡ Some (pooled s) → (name : Name) × (pool : Pool) × (get st.pools name ≡ Some pool) × (pool.subpool ≡ s) × (in_parts pool d ≡ true)
  pub cells : (name : Name) (pool : Pool) (c : ℕ) → get st.pools name ≡ Some pool → set.contains pool.taken c ≡ true → IsCell pool c
  pub bytes : (a : ℕ) → is_some (get st.bytes a) ≡ granted st a

-- The cells of a pool have some size, and each of its parts some cells.
pub record IsSized (pool : Pool) : Type 0 where
  pub size : 1 ≤ pool.cell_size
  pub primary : 1 ≤ pool.primary
  pub secondary : 1 ≤ pool.secondary

-- Each pool is.
abbrev pub PoolsSized : State → Type 0
PoolsSized st = (name : Name) (pool : Pool) → get st.pools name ≡ Some pool → IsSized pool

-- Who owns what the tasks have. The subpools that the tasks have under numbers are those that have an owner, which has its subpool under
-- a number itself; a task that has any is active, and a program may name the number. (what more a step's tasks keep is OwnersKept)
pub record Owned (o : Owners) : Type 0 where
  pub owned : (t : Name) (s : ℕ) → get o.owner s ≡ Some t → (n : ℕ) × (entry o t n ≡ Some s)
  pub has_owner : (t : Name) (n s : ℕ) → entry o t n ≡ Some s → IsSome (get o.owner s)
  pub active : (t : Name) (n s : ℕ) → entry o t n ≡ Some s → is_active o t ≡ true
  pub numbers : (t : Name) (n s : ℕ) → entry o t n ≡ Some s → IsSubpoolNumber n

-- What is held, and each pool, is of a subpool that has an owner.
pub record HasOwners (st : State) : Type 0 where
  pub owned : Owned st.owners
  pub held : (d : ℕ) (h : Holding) → get st.held d ≡ Some h → IsSome (get st.owners.owner h.subpool)
  pub pools : (name : Name) (pool : Pool) → get st.pools name ≡ Some pool → IsSome (get st.owners.owner pool.subpool)

-- What every state of a run keeps.
pub record WellFormed (st : State) : Type 0 where
  pub pages : PageRule (holder st)
  pub apart : Apart st
  pub owners : HasOwners st
  pub sized : PoolsSized st
