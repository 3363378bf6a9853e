use Rattle.cell_pool.specs.Layout.{byte_of}
use Rattle.cell_pool.proofs.Opening.{IsMet}
use Rattle.cell_pool.proofs.open.find_free.Given as goal

abbrev pub invariant-walk : goal.invariant-walk
invariant-walk l = IsMet (byte_of l.store.storage) l.root l.step l.part
