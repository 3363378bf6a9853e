use Rattle.std.proofs.Common.{take, ◌<◌, refl, arith}
use Rattle.subpool_store.proofs.Choice.{above_from, all_below, all_above, bytes_below, bytes_above}
use Rattle.subpool_store.proofs.LentRegion.{kept_below, kept_above, lends_below, lends_above, puts_below, puts_above}
use Rattle.subpool_store.proofs.Value.{stored}
use Rattle.subpool_store.proofs.store.Store.bytes_mut.Goals as goal

pub part_mut-requires : goal.part_mut-requires
part_mut-requires c = let s = c.self.inside in let low : c.args.place.addr < 0x1000000 = omega (arith, c.if-is_below.ensures.below) in all_below s.below s.above s.fill c.args.self.now.storage c.self.invariant.0 (stored c.self.view_is) c.args.place c.is_below.ensures.some low c.requires

pub invariant_of-self-lent : goal.invariant_of-self-lent
invariant_of-self-lent c = let s = c.self.inside in λ w. (kept_below s.below s.above s.fill c.args.self.now.storage c.self.invariant.0 (stored c.self.view_is) c.args.place.addr (take c.args.place.len w), c.self.invariant.1)

pub part_mut-requires-else-is_below : goal.part_mut-requires-else-is_below
part_mut-requires-else-is_below c =
    let s = c.self.inside in
    let high = above_from s.below s.above s.fill c.args.self.now.storage c.self.invariant.0 (stored c.self.view_is) c.args.place c.is_below.ensures.some c.requires c.if-is_below.ensures.below in
    all_above s.below s.above s.fill c.args.self.now.storage c.self.invariant.0 (stored c.self.view_is) c.args.place c.is_below.ensures.some high c.requires

pub invariant_of-self-lent-else-is_below : goal.invariant_of-self-lent-else-is_below
invariant_of-self-lent-else-is_below c = let s = c.self.inside in λ w. (kept_above s.below s.above s.fill c.args.self.now.storage c.self.invariant.0 (stored c.self.view_is) c.args.place.addr (take c.args.place.len w), c.self.invariant.1)

pub returns-then-is_below : goal.returns-then-is_below
returns-then-is_below c =
    let s = c.self.inside in
    let low : c.args.place.addr < 0x1000000 = omega (arith, c.if-is_below.ensures.below) in (
      (refl, λ w i. record { storage = (lends_below s.below s.above s.fill c.args.self.now.storage c.self.invariant.0 (stored c.self.view_is) c.args.place.addr (take c.args.place.len w) low) i; steps = (c.self.view_is i).steps }),
      record {
        writes_back = tt;
        written = λ w size. puts_below s.below s.above s.fill c.args.self.now.storage c.self.invariant.0 (stored c.self.view_is) c.args.place c.requires w size c.is_below.ensures.some c.if-is_below.ensures.below;
        len = c.part_mut.ensures.len;
        bytes = bytes_below s.below s.above s.fill c.args.self.now.storage c.self.invariant.0 (stored c.self.view_is) c.args.place c.is_below.ensures.some c.part_mut.result.now c.part_mut.ensures.len low c.requires c.part_mut.ensures.each;
      },
    )

pub returns-else-is_below : goal.returns-else-is_below
returns-else-is_below c =
    let s = c.self.inside in
    let high = above_from s.below s.above s.fill c.args.self.now.storage c.self.invariant.0 (stored c.self.view_is) c.args.place c.is_below.ensures.some c.requires c.if-is_below.ensures.below in (
      (refl, λ w i. record { storage = (lends_above s.below s.above s.fill c.args.self.now.storage c.self.invariant.0 (stored c.self.view_is) c.args.place.addr (take c.args.place.len w) high) i; steps = (c.self.view_is i).steps }),
      record {
        writes_back = tt;
        written = λ w size. puts_above s.below s.above s.fill c.args.self.now.storage c.self.invariant.0 (stored c.self.view_is) c.args.place c.requires w size c.is_below.ensures.some high;
        len = c.part_mut-else-is_below.ensures.len;
        bytes = bytes_above s.below s.above s.fill c.args.self.now.storage c.self.invariant.0 (stored c.self.view_is) c.args.place c.is_below.ensures.some c.part_mut-else-is_below.result.now c.part_mut-else-is_below.ensures.len high c.requires c.part_mut-else-is_below.ensures.each;
      },
    )
