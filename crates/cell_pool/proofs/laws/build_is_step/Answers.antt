use Rattle.cell_pool.proofs.Pooled as pooled
use Rattle.cell_pool.proofs.laws.build_is_step.Goals as goal

pub returns : goal.returns
returns c = pooled.build_is_step
