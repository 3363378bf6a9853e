use Rattle.std.proofs.Common.{◌≡◌, ℕ, ◌<◌, false}
use Rattle.mvs_model.specs.Storage.{has_address}
use Rattle.cell_pool.specs.Layout.{byte_of}
use Rattle.cell_pool.specs.Roots.{part_addr, part_of}
use Rattle.cell_pool.specs.Walk.{is_past}
use Rattle.cell_pool.proofs.walk.find_part.Given as goal

abbrev pub invariant-walk : goal.invariant-walk
invariant-walk l = (l.part ≡ part_addr (byte_of l.store.storage) l.root.first l.number) × ((j : ℕ) → j < l.number → has_address (part_of (byte_of l.store.storage) l.root j).place l.addr ≡ false) × (l.past ≡ is_past (byte_of l.store.storage) l.root l.number)
