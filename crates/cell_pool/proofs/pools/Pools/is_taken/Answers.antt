use Rattle.std.proofs.Common.{sym}
use Rattle.cell_pool.proofs.PoolFacts.{no_pool, taken_correct}
use Rattle.cell_pool.proofs.Walking.{chain_of}
use Rattle.cell_pool.proofs.pools.Pools.is_taken.Goals as goal

pub returns-in_err-root : goal.returns-in_err-root
returns-in_err-root c = rw c.from_residual.ensures (no_pool c.args.self.now c.args.store.now.storage c.requires.parts c.args.name.now (sym c.in_err-root.ensures))

pub find_taken-requires : goal.find_taken-requires
find_taken-requires c = chain_of c.args.self.now c.args.store.now.storage c.args.name.now c.in_ok-root.root c.requires.parts (sym c.in_ok-root.ensures)

pub returns : goal.returns
returns c = taken_correct c.args.self.now c.args.store.now.storage c.requires.parts c.args.name.now c.in_ok-root.root (sym c.in_ok-root.ensures) c.get.result c.args.cell c.find_taken.result c.is_some.result c.get.ensures.value c.is_some.ensures c.find_taken.ensures
