use Rattle.std.proofs.Common.{◌≡◌, ◌+◌, ◌/◌, ◌≤◌, None, sym, ap, ◌∙◌, subst, arith}
use Rattle.std.specs.FinMap.{get}
use Rattle.mvs_model.specs.Storage.{HeldBy}
use Rattle.subpool_store.specs.Joined.{Taken, all_held, regions_of, store_of}
use Rattle.subpool_store.specs.SubpoolCounts.{assigned_pages, held_doublewords}
use Rattle.subpool_store.proofs.Both.{storage_of}
use Rattle.subpool_store.proofs.CountedStore.{given_pages, given_held, given_counts}
use Rattle.subpool_store.proofs.Recounting.{few_pages}
use Rattle.subpool_store.proofs.Value.{stored}
use Rattle.subpool_store.proofs.store.Store.give.Goals as goal
use Rattle.subpool_store.proofs.store.Store.give.Goals.{After-free_pages, After-give_in}

-- the place is held in the two regions
held_before : (c : After-give_in) → HeldBy (store_of c.self.inside.below c.self.inside.above c.self.inside.fill) c.args.subpool c.args.place
held_before c = subst (λ t. HeldBy t c.args.subpool c.args.place) (sym (stored c.self.view_is)) c.requires.held

-- the pages of the subpool afterwards
pages_are : (c : After-free_pages) → assigned_pages (regions_of c.self.inside.below c.self.inside.above c.self.inside.fill) (get (all_held c.give_in.new.below c.give_in.new.above)) c.args.subpool + c.free_pages.result ≡ c.get-count.result.pages + c.free_pages-free.result
pages_are c =
    let s = c.self.inside in
    let n = c.give_in.new in
    let sums = given_pages s.below s.above n.below n.above s.fill c.args.subpool c.args.place c.self.invariant.0 c.give_in.ensures.both c.requires.whole c.give_in.ensures.some s.counts c.self.invariant.1
    (held_before (goal.at.After-free_pages c).After-give_in) (c.give_in.ensures.given s.fill)
    c.free_pages-free.result c.free_pages.result (c.free_pages-free.ensures.free s.fill c.self.invariant.0) (c.free_pages.ensures.free s.fill c.give_in.ensures.both) in
    sums ∙ ap (λ t. t.pages + c.free_pages-free.result) (sym c.get-count.ensures)

-- the doublewords that it holds afterwards
held_are : (c : After-free_pages) → held_doublewords (regions_of c.self.inside.below c.self.inside.above c.self.inside.fill) (get (all_held c.give_in.new.below c.give_in.new.above)) c.args.subpool + c.args.place.len / 8 ≡ c.get-count.result.held
held_are c =
    let s = c.self.inside in
    let n = c.give_in.new in
    given_held s.below s.above n.below n.above s.fill c.args.subpool c.args.place c.self.invariant.0 c.give_in.ensures.both c.requires.whole c.give_in.ensures.some s.counts c.self.invariant.1 (held_before (goal.at.After-free_pages c).After-give_in) (c.give_in.ensures.given s.fill)
    ∙ ap (λ t. t.held) (sym c.get-count.ensures)

pub overflow_add-pages : goal.overflow_add-pages
overflow_add-pages c =
    let s = c.self.inside in
    let few : s.above.pages ≤ 8192 = c.self.invariant.0.few_above in
    let few_low : s.below.pages ≤ 2048 = c.self.invariant.0.few_below in
    omega (arith, ap (λ t. t.pages) c.get-count.ensures, c.self.invariant.1.pages c.args.subpool, few_pages (regions_of s.below s.above s.fill) (get (all_held s.below s.above)) c.args.subpool, c.free_pages-free.ensures.most)

pub overflow_sub-pages : goal.overflow_sub-pages
overflow_sub-pages c = omega (arith, pages_are c)

pub overflow_sub-held : goal.overflow_sub-held
overflow_sub-held c = omega (arith, held_are (goal.at.overflow_sub-held c).After-free_pages, c.len.ensures.len)

pub invariant_of-self : goal.invariant_of-self
invariant_of-self c =
    let s = c.self.inside in
    let n = c.give_in.new in
    let pages = pages_are (goal.at.invariant_of-self c).After-free_pages in
    let held = held_are (goal.at.invariant_of-self c).After-free_pages in (
      c.give_in.ensures.both,
      given_counts s.below s.above n.below n.above s.fill c.args.subpool c.args.place c.self.invariant.0 c.give_in.ensures.both c.requires.whole c.give_in.ensures.some s.counts c.self.invariant.1
          (held_before (goal.at.invariant_of-self c).After-give_in) (c.give_in.ensures.given s.fill)
          c.set.new.self _ c.set.ensures (omega (arith, pages)) (omega (arith, held, c.len.ensures.len)),
    )

pub returns-clause-given : goal.returns-clause-given
returns-clause-given c = subst (λ t. Taken t c.args.place None None (store_of c.give_in.new.below c.give_in.new.above c.self.inside.fill)) (stored c.self.view_is) (c.give_in.ensures.given c.self.inside.fill)

pub returns-clause-storage : goal.returns-clause-storage
returns-clause-storage c = storage_of c.give_in.new.below c.give_in.new.above c.self.inside.fill c.give_in.ensures.both
