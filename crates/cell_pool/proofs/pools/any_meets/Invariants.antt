use Rattle.std.proofs.Common.{◌≡◌, ℕ, ◌<◌, Some}
use Rattle.slab.specs.Slab.{get}
use Rattle.cell_pool.specs.Walk.{Meets}
use Rattle.cell_pool.specs.Entries.{IsAmong}
use Rattle.cell_pool.specs.declared.entry.PoolEntry.{PoolEntry}
use Rattle.cell_pool.proofs.pools.any_meets.Given as goal

abbrev pub invariant-loop-key : goal.invariant-loop-key
invariant-loop-key l = (k : ℕ) → k < l.key → (x : PoolEntry) → get l.entries k ≡ Some x → IsAmong l.subpool x.root.subpool → Meets l.store.storage x.root l.place → ⊥
