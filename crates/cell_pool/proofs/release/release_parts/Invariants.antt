use Rattle.std.proofs.Common.{◌≡◌}
use Rattle.cell_pool.specs.Layout.{byte_of}
use Rattle.cell_pool.specs.Roots.{part_addr}
use Rattle.cell_pool.specs.Release.{DropsParts}
use Rattle.cell_pool.proofs.release.release_parts.Given as goal

abbrev pub invariant-walk : goal.invariant-walk
invariant-walk l = (l.part ≡ part_addr (byte_of l.fn.store.storage) l.root.first l.number) × DropsParts l.fn.store.storage l.root l.number l.store.storage
