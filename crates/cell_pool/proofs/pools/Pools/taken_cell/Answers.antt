use Rattle.cell_pool.proofs.Within.{some_cell_at}
use Rattle.cell_pool.proofs.pools.Pools.taken_cell.Goals as goal

pub returns : goal.returns
returns c = some_cell_at c.args.self.now c.args.store.now.storage c.args.addr c.cell_at.result c.is_some.result c.is_some.ensures c.cell_at.ensures
