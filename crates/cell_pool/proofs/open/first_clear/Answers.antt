use Rattle.std.proofs.Common.{◌/◌, ◌%◌, ◌-◌, arith}
use Rattle.cell_pool.proofs.Opening.{full_bit}
use Rattle.cell_pool.proofs.open.first_clear.Goals as goal

pub loop-index-init : goal.loop-index-init
loop-index-init c i l = full_bit _ (7 - i % 8) (c.full_front-index.ensures.full (i / 8) (omega arith)) (omega arith)
