use Rattle.std.proofs.Common.{◌<◌, subst, arith}
use Rattle.mvs_model.specs.Storage.{Open, holder}
use Rattle.subpool_store.proofs.Choice.{open_below, open_above, open_in_below, open_in_above, open_high}
use Rattle.subpool_store.proofs.Value.{stored}
use Rattle.subpool_store.proofs.store.Store.is_open.Goals as goal

pub returns-then-is_below : goal.returns-then-is_below
returns-then-is_below c =
    let s = c.self.inside in let p = c.args.place in
    let low : p.addr < 0x1000000 = omega (arith, c.if-is_below.ensures.below) in (
      λ hit. subst (λ t. Open t.regions (holder t) c.args.subpool p) (stored c.self.view_is) (open_below s.below s.above s.fill c.args.subpool c.self.invariant.0 p (c.is_open.ensures.0 hit)),
      λ opened. c.is_open.ensures.1 (open_in_below s.below s.above s.fill c.args.self.now.storage c.self.invariant.0 (stored c.self.view_is) c.args.subpool p c.requires.some low opened),
    )

pub returns-else-is_below : goal.returns-else-is_below
returns-else-is_below c =
    let s = c.self.inside in let p = c.args.place in (
      λ hit. subst (λ t. Open t.regions (holder t) c.args.subpool p) (stored c.self.view_is) (open_above s.below s.above s.fill c.args.subpool c.self.invariant.0 p (c.is_open-else-is_below.ensures.0 hit)),
      λ opened.
          let high = open_high s.below s.above s.fill c.args.self.now.storage c.self.invariant.0 (stored c.self.view_is) c.args.subpool p c.requires.some c.if-is_below.ensures.below opened in
          c.is_open-else-is_below.ensures.1 (open_in_above s.below s.above s.fill c.args.self.now.storage c.self.invariant.0 (stored c.self.view_is) c.args.subpool p c.requires.some high opened),
    )
