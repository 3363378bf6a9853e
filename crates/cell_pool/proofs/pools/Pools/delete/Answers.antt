use Rattle.std.proofs.Common.{sym, ap}
use Rattle.std.specs.Prelude.{is_some}
use Rattle.cell_pool.proofs.Walking.{chain_of}
use Rattle.cell_pool.proofs.Deleting.{no_pool, deleted_agrees, deleted}
use Rattle.cell_pool.proofs.pools.Pools.delete.Goals as goal

pub returns-in_default-clause-answer : goal.returns-in_default-clause-answer
returns-in_default-clause-answer c = no_pool c.args.self.now c.args.store.now.storage c.args.name.now (sym c.in_default.ensures)

pub release_parts-requires-clause-chain : goal.release_parts-requires-clause-chain
release_parts-requires-clause-chain c = chain_of c.args.self.now c.args.store.now.storage c.args.name.now c.in-Some.root c.requires.parts (sym c.in-Some.ensures)

pub forget-requires : goal.forget-requires
forget-requires c = ap is_some (sym c.in-Some.ensures)

pub returns-clause-answer : goal.returns-clause-answer
returns-clause-answer c = deleted c.args.self.now c.forget.new.self c.args.store.now.storage c.release_parts.new.store.storage c.requires c.args.name.now c.in-Some.root (sym c.in-Some.ensures) c.forget.ensures c.release_parts.ensures

pub returns-clause-agree : goal.returns-clause-agree
returns-clause-agree c = deleted_agrees c.args.self.now c.forget.new.self c.args.store.now.storage c.release_parts.new.store.storage c.requires c.args.name.now c.in-Some.root (sym c.in-Some.ensures) c.forget.ensures c.release_parts.ensures
