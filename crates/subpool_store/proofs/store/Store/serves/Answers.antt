use Rattle.std.proofs.Common.{◌≡◌, ◌%◌, refl, arith}
use Rattle.subpool_store.proofs.HintedPlace.{open_run}
use Rattle.subpool_store.proofs.Value.{stored}
use Rattle.subpool_store.proofs.store.Store.serves.Goals as goal

pub at_in-requires-clause-run : goal.at_in-requires-clause-run
at_in-requires-clause-run c =
    let s = c.self.inside in
    let on : c.args.place.addr % 8 ≡ 0 = omega arith in
    open_run s.below s.above s.fill c.args.subpool c.args.self.now.storage c.self.invariant.0 (stored c.self.view_is) c.args.place on c.requires.whole c.requires.some (c.if-not-is_open.ensures.0 refl)
