use Rattle.std.proofs.Common.{sym}
use Rattle.cell_pool.proofs.pools.entry_meets.Goals as goal

pub meets-requires : goal.meets-requires
meets-requires c = c.requires c.args.key c.in_ok-entry.entry.now (sym c.in_ok-entry.ensures)
