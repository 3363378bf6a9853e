use Rattle.std.proofs.Common.{◌≡◌, ◌*◌}
use Rattle.mvs_model.specs.Finite.{count_below}
use Rattle.mvs_model.specs.Storage.{end_of}
use Rattle.cell_pool.specs.Layout.{byte_of}
use Rattle.cell_pool.specs.Roots.{part_addr}
use Rattle.cell_pool.specs.Release.{in_first}
use Rattle.cell_pool.proofs.report.bytes_of.Given as goal

abbrev pub invariant-walk : goal.invariant-walk
invariant-walk l = (l.part ≡ part_addr (byte_of l.store.storage) l.root.first l.number) × (l.bytes ≡ 8 * count_below (end_of l.store.storage.regions) (in_first (byte_of l.store.storage) l.root l.number))
