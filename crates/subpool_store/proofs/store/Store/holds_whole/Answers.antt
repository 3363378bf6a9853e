use Rattle.std.proofs.Common.{◌<◌, subst, arith}
use Rattle.mvs_model.specs.Storage.{IsStorage}
use Rattle.subpool_store.proofs.Both.{storage_of}
use Rattle.subpool_store.proofs.Choice.{above_from, some_held, held_below, held_above, below_held, above_held}
use Rattle.subpool_store.proofs.Value.{stored}
use Rattle.subpool_store.proofs.store.Store.holds_whole.Goals as goal

pub returns-then-is_below-clause-holds : goal.returns-then-is_below-clause-holds
returns-then-is_below-clause-holds c =
    let s = c.self.inside in
    let low : c.args.place.addr < 0x1000000 = omega (arith, c.if-is_below.ensures.below) in (
      λ hit. below_held s.below s.above s.fill c.args.self.now.storage c.self.invariant.0 (stored c.self.view_is) c.args.subpool c.args.place c.is_below.ensures.some (c.holds.ensures.0 hit),
      λ held. c.holds.ensures.1 (held_below s.below s.above s.fill c.args.self.now.storage c.self.invariant.0 (stored c.self.view_is) c.args.subpool c.args.place c.is_below.ensures.some low held),
    )

pub returns-then-is_below-clause-storage : goal.returns-then-is_below-clause-storage
returns-then-is_below-clause-storage c = let s = c.self.inside in subst IsStorage (stored c.self.view_is) (storage_of s.below s.above s.fill c.self.invariant.0)

pub returns-else-is_below-clause-holds : goal.returns-else-is_below-clause-holds
returns-else-is_below-clause-holds c =
    let s = c.self.inside in (
      λ hit. above_held s.below s.above s.fill c.args.self.now.storage c.self.invariant.0 (stored c.self.view_is) c.args.subpool c.args.place c.is_below.ensures.some (c.holds-else-is_below.ensures.0 hit),
      λ held.
          let high = above_from s.below s.above s.fill c.args.self.now.storage c.self.invariant.0 (stored c.self.view_is) c.args.place c.is_below.ensures.some (some_held s.below s.above s.fill c.args.self.now.storage c.self.invariant.0 (stored c.self.view_is) c.args.subpool c.args.place c.is_below.ensures.some held) c.if-is_below.ensures.below in
          c.holds-else-is_below.ensures.1 (held_above s.below s.above s.fill c.args.self.now.storage c.self.invariant.0 (stored c.self.view_is) c.args.subpool c.args.place c.is_below.ensures.some high held),
    )

pub returns-else-is_below-clause-storage : goal.returns-else-is_below-clause-storage
returns-else-is_below-clause-storage c = let s = c.self.inside in subst IsStorage (stored c.self.view_is) (storage_of s.below s.above s.fill c.self.invariant.0)
