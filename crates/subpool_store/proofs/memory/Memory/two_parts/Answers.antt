use Rattle.std.proofs.Common.{◌≡◌, ◌+◌, ◌<◌, ℕ, List, Some, get_or, subst, refl}
use Rattle.region_raw.specs.Pages.{Writes, byte_of, with_part}
use Rattle.subpool_store.specs.Memory.{MemoryState}
use Rattle.subpool_store.proofs.PageWritten.{held_part, lends_memory, lent_inv}
use Rattle.subpool_store.proofs.memory.Memory.two_parts.Goals as goal

pub two_parts-requires-clause-target : goal.two_parts-requires-clause-target
two_parts-requires-clause-target c = let s = c.self.inside in held_part s.region s.heads.items c.args.self.now c.self.invariant c.self.view_is c.args.to c.args.n c.requires.target

pub two_parts-requires-clause-source : goal.two_parts-requires-clause-source
two_parts-requires-clause-source c = let s = c.self.inside in held_part s.region s.heads.items c.args.self.now c.self.invariant c.self.view_is c.args.from c.args.n c.requires.source

pub invariant_of-self-lent : goal.invariant_of-self-lent
invariant_of-self-lent c = let s = c.self.inside in lent_inv s.region s.heads.items c.args.self.now c.self.invariant c.self.view_is c.args.to c.args.n c.requires.target c.two_parts.ensures.writes

pub returns : goal.returns
returns c =
    let s = c.self.inside in (
      (refl, lends_memory s.region s.heads.items c.args.self.now c.self.invariant c.self.view_is c.args.to c.args.n c.requires.target c.two_parts.ensures.writes),
      record {
        writes_back = tt;
        writes = subst (λ (g : MemoryState). (ws : List ℕ) → Writes g.bytes c.args.to ws (with_part g.bytes c.args.to ws)) c.self.view_is c.two_parts.ensures.writes;
        len = c.two_parts.ensures.len;
        source_bytes = subst (λ (g : MemoryState). (k : ℕ) → k < c.args.n → byte_of g.bytes (c.args.from + k) ≡ Some (get_or c.two_parts.result.0.now k 0)) c.self.view_is c.two_parts.ensures.source_bytes;
        target_bytes = subst (λ (g : MemoryState). (k : ℕ) → k < c.args.n → byte_of g.bytes (c.args.to + k) ≡ Some (get_or c.two_parts.result.1.now k 0)) c.self.view_is c.two_parts.ensures.target_bytes;
      },
    )
