use Rattle.cell_pool.proofs.Within.{entry_chain, cell_answer, not_held}
use Rattle.cell_pool.proofs.pools.Pools.cell_at.Goals as goal

pub returns-in_err-subpool : goal.returns-in_err-subpool
returns-in_err-subpool c = rw c.from_residual.ensures (not_held c.args.self.now c.args.store.now.storage c.requires.parts c.args.addr (c.in_err-subpool.ensures.held))

pub cell_in-requires : goal.cell_in-requires
cell_in-requires c = let s = c.self.inside in entry_chain s.entries.slots c.args.self.now c.self.view_is c.self.invariant.0 c.args.store.now.storage c.requires.parts

pub returns : goal.returns
returns c = let s = c.self.inside in cell_answer s.entries.slots c.args.self.now c.self.view_is c.self.invariant.0 c.args.store.now.storage c.requires.parts c.in_ok-subpool.subpool c.args.addr c.get.result c.get.ensures.value c.in_ok-subpool.ensures.held c.cell_in.result c.cell_in.ensures
