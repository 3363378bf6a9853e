use Rattle.std.proofs.Common.{◌≡◌, Some, None, sym, ◌∙◌}
use Rattle.cell_pool.proofs.PoolFacts.{no_pool, spot_correct, untaken}
use Rattle.cell_pool.proofs.Walking.{chain_of}
use Rattle.cell_pool.proofs.pools.Pools.spot.Goals as goal

pub unreachable-requires : goal.unreachable-requires
unreachable-requires c =
    let e : Some c.requires.untaken.0 ≡ None = sym c.requires.untaken.1 ∙ no_pool c.args.self.now c.args.store.now.storage c.requires.agree.parts c.args.name.now (sym c.in_default.ensures) in cc

pub spot_of-requires-clause-chain : goal.spot_of-requires-clause-chain
spot_of-requires-clause-chain c = chain_of c.args.self.now c.args.store.now.storage c.args.name.now c.in-Some.root c.requires.agree.parts (sym c.in-Some.ensures)

pub spot_of-requires-clause-untaken : goal.spot_of-requires-clause-untaken
spot_of-requires-clause-untaken c = untaken c.args.self.now c.args.store.now.storage c.requires.agree.parts c.args.name.now c.in-Some.root (sym c.in-Some.ensures) c.args.cell c.requires.untaken

pub returns : goal.returns
returns c = spot_correct c.args.self.now c.args.store.now.storage c.requires.agree.parts c.args.name.now c.in-Some.root (sym c.in-Some.ensures) c.args.cell c.spot_of.result c.spot_of.ensures
