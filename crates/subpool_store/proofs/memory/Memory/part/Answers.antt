use Rattle.subpool_store.proofs.PageWritten.{held_part}
use Rattle.subpool_store.proofs.memory.Memory.part.Goals as goal

pub part-requires : goal.part-requires
part-requires c = let s = c.self.inside in held_part s.region s.heads.items c.args.self.now c.self.invariant c.self.view_is c.args.at c.args.n c.requires
