-- The cell pools that a step has built.
use Rattle.std.specs.Prelude.{ℕ, ◌+◌, ◌-◌, ◌*◌, ◌==◌, ◌&&◌, not, Bool, List, [], ◌∷◌, ◌++◌, take, if◌then◌else◌}
use Rattle.mvs_model.specs.declared.name.Name.{Name}
use Rattle.mvs_model.specs.Name.{same_name}
use Rattle.area_history.specs.declared.pools.PoolBuild.{PoolBuild}
use Rattle.area_history.specs.declared.pools.PoolLeft.{PoolLeft}

-- whether a pool has parts, and another name than the next one
abbrev pub stands : (Name → ℕ) → Name → PoolBuild → Bool
stands parts next b = not (same_name b.pool next) && not (parts b.pool == 0)

-- the pool, if that is so
abbrev pub standing_one : (Name → ℕ) → Name → PoolBuild → List PoolBuild
standing_one parts next b = if stands parts next b then b ∷ [] else []

-- the pools that have parts, but for that of a name
abbrev pub standing : (Name → ℕ) → Name → List PoolBuild → List PoolBuild
standing parts next [] = []
standing parts next (b ∷ pools) = standing_one parts next b ++ standing parts next pools

-- the pools that have parts, and after them one that was built; there are at most 64 pools
abbrev pub with_pool : (Name → ℕ) → List PoolBuild → PoolBuild → List PoolBuild
with_pool parts pools b = take 64 (take 64 (standing parts b.pool pools) ++ b ∷ [])

-- the pool with its parts, if it has some
abbrev pub pool_left : PoolBuild → ℕ → List PoolLeft
pool_left b parts = if parts == 0 then [] else record { built = b; parts = parts } ∷ []

-- the pools that have parts
abbrev pub pools_left : (Name → ℕ) → List PoolBuild → List PoolLeft
pools_left parts [] = []
pools_left parts (b ∷ pools) = pool_left b (parts b.pool) ++ pools_left parts pools

-- the bytes of the parts of a pool
abbrev pub pool_bytes : PoolLeft → ℕ
pool_bytes p = p.built.first + (p.parts - 1) * p.built.further
