use Rattle.std.proofs.Common.{◌≡◌, ◌+◌, ◌<◌, ℕ, List, Some, get_or, subst, refl}
use Rattle.region_raw.specs.Pages.{Writes, byte_of, with_part}
use Rattle.subpool_store.specs.Memory.{MemoryState}
use Rattle.subpool_store.proofs.PageWritten.{held_part, lends_memory, lent_inv}
use Rattle.subpool_store.proofs.memory.Memory.part_mut.Goals as goal

pub part_mut-requires : goal.part_mut-requires
part_mut-requires c = let s = c.self.inside in held_part s.region s.heads.items c.args.self.now c.self.invariant c.self.view_is c.args.at c.args.n c.requires

pub invariant_of-self-lent : goal.invariant_of-self-lent
invariant_of-self-lent c = let s = c.self.inside in lent_inv s.region s.heads.items c.args.self.now c.self.invariant c.self.view_is c.args.at c.args.n c.requires c.part_mut.ensures.writes

pub returns : goal.returns
returns c =
    let s = c.self.inside in (
      (refl, lends_memory s.region s.heads.items c.args.self.now c.self.invariant c.self.view_is c.args.at c.args.n c.requires c.part_mut.ensures.writes),
      record {
        writes_back = tt;
        writes = subst (λ (g : MemoryState). (ws : List ℕ) → Writes g.bytes c.args.at ws (with_part g.bytes c.args.at ws)) c.self.view_is c.part_mut.ensures.writes;
        len = c.part_mut.ensures.len;
        bytes = subst (λ (g : MemoryState). (k : ℕ) → k < c.args.n → byte_of g.bytes (c.args.at + k) ≡ Some (get_or c.part_mut.result.now k 0)) c.self.view_is c.part_mut.ensures.bytes;
      },
    )
