use Rattle.cell_pool.proofs.NextPools.{next_is}
use Rattle.cell_pool.proofs.pools.Pools.next_pool.Goals as goal

pub returns : goal.returns
returns c st = next_is _ _ st _ c.self.view_is c.self.invariant.0 _ c.find_next.ensures
