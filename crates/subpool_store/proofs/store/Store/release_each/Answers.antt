use Rattle.std.proofs.Common.{subst}
use Rattle.mvs_model.specs.Storage.{ReleaseEach}
use Rattle.subpool_store.specs.Joined.{IsStore, store_of}
use Rattle.subpool_store.proofs.Both.{both_dropped, storage_of, new_below, new_above}
use Rattle.subpool_store.proofs.CountedStore.{dropped_counts}
use Rattle.subpool_store.proofs.Value.{stored}
use Rattle.subpool_store.proofs.store.Store.release_each.Goals as goal
use Rattle.subpool_store.proofs.store.Store.release_each.Goals.{After-release_each-2}

-- the two regions afterwards
both_are : (c : After-release_each-2) → IsStore c.release_each.new.self c.release_each-2.new.self
both_are c =
    let s = c.self.inside in
    let low = c.release_each.ensures in
    let high = c.release_each-2.ensures in
    new_above c.release_each.new.self s.above c.release_each-2.new.self (new_below s.below s.above c.release_each.new.self c.self.invariant.0 low.dropped.first low.dropped.pages low.sound) high.dropped.first high.dropped.pages high.sound

dropped : (c : After-release_each-2) → ReleaseEach (store_of c.self.inside.below c.self.inside.above c.self.inside.fill) c.args.subpools.now (store_of c.release_each.new.self c.release_each-2.new.self c.self.inside.fill)
dropped c = let s = c.self.inside in both_dropped s.below s.above s.fill c.release_each.new.self c.release_each-2.new.self c.args.subpools.now c.release_each.ensures.dropped c.release_each-2.ensures.dropped

pub invariant_of-self : goal.invariant_of-self
invariant_of-self c =
    let s = c.self.inside in
    let at = (goal.at.invariant_of-self c).After-release_each-2 in
    (both_are at, dropped_counts s.below s.above c.release_each.new.self c.release_each-2.new.self s.fill c.args.subpools.now c.self.invariant.0 s.counts c.clear_each.new.self c.self.invariant.1 (dropped at) c.clear_each.ensures)

pub returns-clause-released : goal.returns-clause-released
returns-clause-released c =
    let s = c.self.inside in
    subst (λ t. ReleaseEach t c.args.subpools.now (store_of c.release_each.new.self c.release_each-2.new.self s.fill)) (stored c.self.view_is)
    (dropped (goal.at.returns-clause-released c).After-release_each-2)

pub returns-clause-storage : goal.returns-clause-storage
returns-clause-storage c = storage_of c.release_each.new.self c.release_each-2.new.self c.self.inside.fill (both_are (goal.at.returns-clause-storage c).After-release_each-2)
