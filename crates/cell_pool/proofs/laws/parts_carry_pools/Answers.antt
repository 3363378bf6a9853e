use Rattle.cell_pool.proofs.Counted as counted
use Rattle.cell_pool.proofs.laws.parts_carry_pools.Goals as goal

pub returns : goal.returns
returns c = counted.all_kept
