use Rattle.std.proofs.Common.{◌<◌, arith}
use Rattle.subpool_store.proofs.Choice.{above_from, all_below, all_above, bytes_below, bytes_above}
use Rattle.subpool_store.proofs.Value.{stored}
use Rattle.subpool_store.proofs.store.Store.bytes.Goals as goal

pub part-requires : goal.part-requires
part-requires c = let s = c.self.inside in let low : c.args.place.addr < 0x1000000 = omega (arith, c.if-is_below.ensures.below) in all_below s.below s.above s.fill c.args.self.now.storage c.self.invariant.0 (stored c.self.view_is) c.args.place c.is_below.ensures.some low c.requires

pub part-requires-else-is_below : goal.part-requires-else-is_below
part-requires-else-is_below c =
    let s = c.self.inside in
    let high = above_from s.below s.above s.fill c.args.self.now.storage c.self.invariant.0 (stored c.self.view_is) c.args.place c.is_below.ensures.some c.requires c.if-is_below.ensures.below in
    all_above s.below s.above s.fill c.args.self.now.storage c.self.invariant.0 (stored c.self.view_is) c.args.place c.is_below.ensures.some high c.requires

pub returns-then-is_below-clause-bytes : goal.returns-then-is_below-clause-bytes
returns-then-is_below-clause-bytes c = let s = c.self.inside in let low : c.args.place.addr < 0x1000000 = omega (arith, c.if-is_below.ensures.below) in bytes_below s.below s.above s.fill c.args.self.now.storage c.self.invariant.0 (stored c.self.view_is) c.args.place c.is_below.ensures.some c.part.result.now c.part.ensures.len low c.requires c.part.ensures.each

pub returns-else-is_below-clause-bytes : goal.returns-else-is_below-clause-bytes
returns-else-is_below-clause-bytes c =
    let s = c.self.inside in
    let high = above_from s.below s.above s.fill c.args.self.now.storage c.self.invariant.0 (stored c.self.view_is) c.args.place c.is_below.ensures.some c.requires c.if-is_below.ensures.below in
    bytes_above s.below s.above s.fill c.args.self.now.storage c.self.invariant.0 (stored c.self.view_is) c.args.place c.is_below.ensures.some c.part-else-is_below.result.now c.part-else-is_below.ensures.len high c.requires c.part-else-is_below.ensures.each
