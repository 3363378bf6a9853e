use Rattle.cell_pool.proofs.Tallied as tallied
use Rattle.cell_pool.proofs.laws.splits_bytes.Goals as goal

pub returns : goal.returns
returns c = tallied.splits_bytes
