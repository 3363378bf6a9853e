use Rattle.std.proofs.Common.{take, refl, arith}
use Rattle.subpool_store.proofs.Choice.{all_below, all_above, bytes_below, bytes_above}
use Rattle.subpool_store.proofs.LentRegion.{kept_above, lends_above, puts_above}
use Rattle.subpool_store.proofs.Value.{stored}
use Rattle.subpool_store.proofs.store.Store.two_up.Goals as goal

pub part-requires : goal.part-requires
part-requires c = let s = c.self.inside in all_below s.below s.above s.fill c.args.self.now.storage c.self.invariant.0 (stored c.self.view_is) c.args.from (omega arith) c.requires.from_below c.requires.source

pub part_mut-requires : goal.part_mut-requires
part_mut-requires c = let s = c.self.inside in all_above s.below s.above s.fill c.args.self.now.storage c.self.invariant.0 (stored c.self.view_is) c.args.to (omega arith) c.requires.to_above c.requires.target

pub invariant_of-self-lent : goal.invariant_of-self-lent
invariant_of-self-lent c = let s = c.self.inside in λ w. (kept_above s.below s.above s.fill c.args.self.now.storage c.self.invariant.0 (stored c.self.view_is) c.args.to.addr (take c.args.to.len w), c.self.invariant.1)

pub returns : goal.returns
returns c =
    let s = c.self.inside in (
      (refl, λ w i. record { storage = (lends_above s.below s.above s.fill c.args.self.now.storage c.self.invariant.0 (stored c.self.view_is) c.args.to.addr (take c.args.to.len w) c.requires.to_above) i; steps = (c.self.view_is i).steps }),
      record {
        writes_back = tt;
        written = λ w size. puts_above s.below s.above s.fill c.args.self.now.storage c.self.invariant.0 (stored c.self.view_is) c.args.to c.requires.target w size (omega arith) c.requires.to_above;
        len = (c.part.ensures.len, c.part_mut.ensures.len);
        source_bytes = bytes_below s.below s.above s.fill c.args.self.now.storage c.self.invariant.0 (stored c.self.view_is) c.args.from (omega arith) c.part.result.now c.part.ensures.len c.requires.from_below c.requires.source c.part.ensures.each;
        target_bytes = bytes_above s.below s.above s.fill c.args.self.now.storage c.self.invariant.0 (stored c.self.view_is) c.args.to (omega arith) c.part_mut.result.now c.part_mut.ensures.len c.requires.to_above c.requires.target c.part_mut.ensures.each;
      },
    )
