use Rattle.std.proofs.Common.{replicate, arith}
use Rattle.std.proofs.lemmas.List.{length-replicate}
use Rattle.subpool_store.proofs.PageWritten.{held_part, written_held, written_inv}
use Rattle.subpool_store.proofs.memory.Memory.fill.Goals as goal

pub fill-requires : goal.fill-requires
fill-requires c = let s = c.self.inside in held_part s.region s.heads.items c.args.self.now c.self.invariant c.self.view_is c.args.at c.args.n c.requires

pub invariant_of-self : goal.invariant_of-self
invariant_of-self c =
    let s = c.self.inside in
    written_inv s.region s.heads.items c.args.self.now c.self.invariant c.self.view_is c.args.at c.args.n c.requires (replicate c.args.n c.args.value) (omega (arith, length-replicate c.args.n c.args.value)) c.fill.new.self c.fill.ensures.writes

pub returns-clause-held : goal.returns-clause-held
returns-clause-held c =
    let s = c.self.inside in
    written_held s.region s.heads.items c.args.self.now c.self.invariant c.self.view_is c.args.at c.args.n c.requires (replicate c.args.n c.args.value) (omega (arith, length-replicate c.args.n c.args.value)) c.fill.new.self c.fill.ensures.writes
