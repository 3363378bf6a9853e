use Rattle.std.proofs.Common.{sym}
use Rattle.cell_pool.proofs.pools.cell_of.Goals as goal

pub cell_round-requires : goal.cell_round-requires
cell_round-requires c = c.requires c.args.key c.in_ok-entry.entry.now (sym c.in_ok-entry.ensures)
