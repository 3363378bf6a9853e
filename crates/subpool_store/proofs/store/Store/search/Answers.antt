use Rattle.std.proofs.Common.{◌+◌, MatchOption, refl, sym, subst, arith}
use Rattle.mvs_model.specs.Storage.{Chosen, IsStorage, NoPlace, holder}
use Rattle.subpool_store.specs.Bound.{IsBound}
use Rattle.subpool_store.specs.Joined.{store_of}
use Rattle.subpool_store.proofs.Both.{storage_of}
use Rattle.subpool_store.proofs.Choice.{chosen_longest, chosen_longer}
use Rattle.subpool_store.proofs.StoreCount.{bound_above, bound_both, few_steps, neither}
use Rattle.subpool_store.proofs.Value.{stored}
use Rattle.subpool_store.proofs.store.Store.search.Goals as goal

pub returns-then-is_longest-clause-chosen : goal.returns-then-is_longest-clause-chosen
returns-then-is_longest-clause-chosen c = let s = c.self.inside in chosen_longest s.below s.above s.fill c.args.self.now.storage c.self.invariant.0 (stored c.self.view_is) c.args.subpool c.args.want.now c.is_longest.ensures.wanted _ c.find_above-above.ensures.best (c.if-is_longest.ensures.longest refl)

pub returns-then-is_longest-clause-storage : goal.returns-then-is_longest-clause-storage
returns-then-is_longest-clause-storage c = let s = c.self.inside in subst IsStorage (stored c.self.view_is) (storage_of s.below s.above s.fill c.self.invariant.0)

pub returns-clause-chosen : goal.returns-clause-chosen
returns-clause-chosen c =
    let s = c.self.inside in let e = c.longer.ensures in let st = c.args.self.now.storage in
    subst (λ p. MatchOption p (NoPlace st.regions (holder st) c.args.subpool c.args.want.now) (Chosen st.regions (holder st) c.args.subpool c.args.want.now)) (sym c.new.ensures.place)
    (chosen_longer s.below s.above s.fill c.args.self.now.storage c.self.invariant.0 (stored c.self.view_is) c.args.subpool c.args.want.now c.is_longest.ensures.wanted _ _ _ c.find_above-above.ensures.best c.find-below.ensures.best e.either e.one e.other)

pub returns-clause-storage : goal.returns-clause-storage
returns-clause-storage c = let s = c.self.inside in subst IsStorage (stored c.self.view_is) (storage_of s.below s.above s.fill c.self.invariant.0)

pub overflow_add-above : goal.overflow_add-above
overflow_add-above c =
    let s = c.self.inside in
    let few = few_steps s.below s.above s.fill c.self.invariant.0 c.args.subpool c.args.want.now c.is_longest.ensures.wanted c.find_above-above.result.place c.find_above-above.result.steps c.find_above-above.ensures.best c.find_above-above.ensures.counted c.find-below.result.place c.find-below.result.steps c.find-below.ensures.counted in
    omega (arith, few)

pub returns-then-is_longest-clause-bound : goal.returns-then-is_longest-clause-bound
returns-then-is_longest-clause-bound c =
    let s = c.self.inside in let found = c.find_above-above.result in
    subst (λ st. IsBound st c.args.subpool c.args.want.now.side found.place found.steps) (stored c.self.view_is)
    (bound_above s.below s.above s.fill c.self.invariant.0 c.args.subpool c.args.want.now c.is_longest.ensures.wanted found.place found.steps c.find_above-above.ensures.best c.find_above-above.ensures.counted (c.if-is_longest.ensures.longest refl))

pub returns-clause-bound : goal.returns-clause-bound
returns-clause-bound c =
    let s = c.self.inside in let found = c.find_above-above.result in let e = c.longer.ensures in let side = c.args.want.now.side in
    subst (λ st. IsBound st c.args.subpool side c.new.result.place c.new.result.steps) (stored c.self.view_is)
    (subst (λ n. IsBound (store_of s.below s.above s.fill) c.args.subpool side c.new.result.place n) (sym c.new.ensures.steps)
    (subst (λ p. IsBound (store_of s.below s.above s.fill) c.args.subpool side p (found.steps + c.find-below.result.steps)) (sym c.new.ensures.place)
    (bound_both s.below s.above s.fill c.self.invariant.0 c.args.subpool c.args.want.now c.is_longest.ensures.wanted found.place found.steps c.find_above-above.ensures.best c.find_above-above.ensures.counted c.find-below.result.place c.find-below.result.steps c.longer.result c.find-below.ensures.counted
    (neither found.place c.find-below.result.place c.longer.result e.one e.other))))
