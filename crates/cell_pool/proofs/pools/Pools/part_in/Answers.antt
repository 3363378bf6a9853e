use Rattle.cell_pool.proofs.Within.{entry_chain}
use Rattle.cell_pool.proofs.Meeting.{met_correct}
use Rattle.cell_pool.proofs.pools.Pools.part_in.Goals as goal

pub any_meets-requires : goal.any_meets-requires
any_meets-requires c = let s = c.self.inside in entry_chain s.entries.slots c.args.self.now c.self.view_is c.self.invariant.0 c.args.store.now.storage c.requires.parts

pub returns : goal.returns
returns c = let s = c.self.inside in met_correct s.entries.slots c.args.self.now c.self.view_is c.self.invariant.0 c.args.store.now.storage c.requires.parts c.args.subpool c.args.place c.any_meets.result c.any_meets.ensures
