use Rattle.std.proofs.Common.{◌≡◌, ℕ, ◌<◌, ◌≤◌}
use Rattle.std.specs.Prelude.{not}
use Rattle.slab.specs.Slab.{get, slab_len}
use Rattle.mvs_model.specs.Finite.{kept}
use Rattle.mvs_model.specs.Storage.{is_one_of}
use Rattle.cell_pool.specs.declared.entry.PoolEntry.{PoolEntry}
use Rattle.cell_pool.proofs.entry.remove_each.Given as goal

abbrev pub invariant-loop-key : goal.invariant-loop-key
invariant-loop-key l =
    ((k : ℕ) → k < l.key → get l.entries k ≡ kept (λ (x : PoolEntry). not (is_one_of l.subpools x.root.subpool)) (get l.fn.entries k))
    × ((k : ℕ) → l.key ≤ k → get l.entries k ≡ get l.fn.entries k)
    × (slab_len l.entries ≤ slab_len l.fn.entries)
    × (l.entries.capacity ≡ l.fn.entries.capacity)
