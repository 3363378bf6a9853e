use Rattle.std.proofs.Common.{sym}
use Rattle.cell_pool.proofs.PoolFacts.{last_is, newest_correct, no_pool}
use Rattle.cell_pool.proofs.Walking.{chain_of}
use Rattle.cell_pool.proofs.pools.Pools.newest.Goals as goal

pub returns-in_err-root : goal.returns-in_err-root
returns-in_err-root c = rw c.from_residual.ensures (no_pool c.args.self.now c.args.store.now.storage c.requires.parts c.args.name.now (sym c.in_err-root.ensures))

pub newest_of-requires-clause-chain : goal.newest_of-requires-clause-chain
newest_of-requires-clause-chain c = chain_of c.args.self.now c.args.store.now.storage c.args.name.now c.in_ok-root.root c.requires.parts (sym c.in_ok-root.ensures)

pub newest_of-requires-clause-last : goal.newest_of-requires-clause-last
newest_of-requires-clause-last c =
    let root = c.in_ok-root.root in
    last_is c.args.self.now c.args.store.now.storage c.requires.parts c.args.name.now root (sym c.in_ok-root.ensures) (c.requires.counted c.args.name.now root (sym c.in_ok-root.ensures))

pub returns : goal.returns
returns c = newest_correct c.args.self.now c.args.store.now.storage c.requires.parts c.args.name.now c.in_ok-root.root (sym c.in_ok-root.ensures) c.newest_of.result c.newest_of.ensures.parts c.newest_of.ensures.part c.newest_of.ensures.size
