use Rattle.std.proofs.Common.{sym, ap, ◌∙◌}
use Rattle.std.specs.FinMap.{get}
use Rattle.cell_pool.proofs.Named.{named}
use Rattle.cell_pool.proofs.Walking.{chain_of}
use Rattle.cell_pool.proofs.Tallied.{entries_apart, tallied}
use Rattle.cell_pool.proofs.pools.Pools.pool_bytes.Goals as goal

pub bytes_in-requires-clause-chains : goal.bytes_in-requires-clause-chains
bytes_in-requires-clause-chains c k x e = let s = c.self.inside in chain_of c.args.self.now c.args.store.now.storage x.name x.root c.requires.parts (sym (ap (λ t. get t x.name) c.self.view_is) ∙ named s.entries.slots k x c.self.invariant.0 e)

pub bytes_in-requires-clause-apart : goal.bytes_in-requires-clause-apart
bytes_in-requires-clause-apart c = let s = c.self.inside in entries_apart s.entries.slots c.args.self.now c.self.view_is c.self.invariant.0 c.args.store.now.storage c.requires.parts c.args.subpool

pub returns : goal.returns
returns c = let s = c.self.inside in tallied s.entries.slots c.args.self.now c.self.view_is c.self.invariant.0 c.args.store.now.storage c.requires.parts c.args.subpool _ _ c.bytes_in.ensures.low c.bytes_in.ensures.bytes
