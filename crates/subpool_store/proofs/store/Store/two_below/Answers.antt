use Rattle.std.proofs.Common.{take, refl, arith}
use Rattle.subpool_store.proofs.Choice.{below_ends, all_below, bytes_below}
use Rattle.subpool_store.proofs.LentRegion.{kept_below, lends_below, puts_below}
use Rattle.subpool_store.proofs.Value.{stored}
use Rattle.subpool_store.proofs.store.Store.two_below.Goals as goal

pub two-requires-clause-source : goal.two-requires-clause-source
two-requires-clause-source c = let s = c.self.inside in all_below s.below s.above s.fill c.args.self.now.storage c.self.invariant.0 (stored c.self.view_is) c.args.from (omega arith) c.requires.from_below c.requires.source

pub two-requires-clause-target : goal.two-requires-clause-target
two-requires-clause-target c = let s = c.self.inside in all_below s.below s.above s.fill c.args.self.now.storage c.self.invariant.0 (stored c.self.view_is) c.args.to (omega arith) c.requires.to_below c.requires.target

pub invariant_of-self-lent : goal.invariant_of-self-lent
invariant_of-self-lent c = let s = c.self.inside in λ w. (kept_below s.below s.above s.fill c.args.self.now.storage c.self.invariant.0 (stored c.self.view_is) c.args.to.addr (take c.args.to.len w), c.self.invariant.1)

pub returns : goal.returns
returns c =
    let s = c.self.inside in (
      (refl, λ w i. record { storage = (lends_below s.below s.above s.fill c.args.self.now.storage c.self.invariant.0 (stored c.self.view_is) c.args.to.addr (take c.args.to.len w) c.requires.to_below) i; steps = (c.self.view_is i).steps }),
      record {
        writes_back = tt;
        written = λ w size. puts_below s.below s.above s.fill c.args.self.now.storage c.self.invariant.0 (stored c.self.view_is) c.args.to c.requires.target w size (omega arith) (below_ends s.below s.above s.fill c.args.self.now.storage c.self.invariant.0 (stored c.self.view_is) c.args.to (omega arith) c.requires.to_below c.requires.target);
        len = c.two.ensures.len;
        source_bytes = bytes_below s.below s.above s.fill c.args.self.now.storage c.self.invariant.0 (stored c.self.view_is) c.args.from (omega arith) c.two.result.0.now c.two.ensures.len.0 c.requires.from_below c.requires.source c.two.ensures.source_bytes;
        target_bytes = bytes_below s.below s.above s.fill c.args.self.now.storage c.self.invariant.0 (stored c.self.view_is) c.args.to (omega arith) c.two.result.1.now c.two.ensures.len.1 c.requires.to_below c.requires.target c.two.ensures.target_bytes;
      },
    )
