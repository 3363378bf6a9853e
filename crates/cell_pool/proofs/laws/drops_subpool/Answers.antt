use Rattle.cell_pool.proofs.Keeping as keeping
use Rattle.cell_pool.proofs.laws.drops_subpool.Goals as goal

pub returns : goal.returns
returns c = keeping.drops_subpool
