use Rattle.std.proofs.Common.{◌≡◌, ℕ, ◌<◌, Some, false}
use Rattle.slab.specs.Slab.{get}
use Rattle.mvs_model.specs.Pools.{in_taken}
use Rattle.cell_pool.specs.Layout.{byte_of}
use Rattle.cell_pool.specs.Roots.{pool_of}
use Rattle.cell_pool.specs.declared.entry.PoolEntry.{PoolEntry}
use Rattle.cell_pool.proofs.pools.cell_in.Given as goal

abbrev pub invariant-loop-key : goal.invariant-loop-key
invariant-loop-key l = (k : ℕ) → k < l.key → (x : PoolEntry) → get l.entries k ≡ Some x → x.root.subpool ≡ l.subpool → in_taken (pool_of (byte_of l.store.storage) x.root) l.addr ≡ false
