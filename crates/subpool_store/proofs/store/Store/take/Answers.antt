use Rattle.std.proofs.Common.{◌≡◌, ◌+◌, ◌≤◌, sym, ap, ◌∙◌, subst, arith}
use Rattle.std.specs.FinMap.{get}
use Rattle.mvs_model.specs.Storage.{Open, holder}
use Rattle.subpool_store.specs.Joined.{all_held, regions_of}
use Rattle.subpool_store.specs.SubpoolCounts.{assigned_pages}
use Rattle.subpool_store.proofs.Both.{storage_of}
use Rattle.subpool_store.proofs.CountedStore.{taken_pages, taken_held, taken_counts}
use Rattle.subpool_store.proofs.Recounting.{few_held, few_pages}
use Rattle.subpool_store.proofs.Value.{stored}
use Rattle.subpool_store.proofs.store.Store.take.Goals as goal
use Rattle.subpool_store.proofs.store.Store.take.Goals.{After-take_in, After-free_pages}

-- the place is open in the two regions
is_open : (c : After-take_in) → Open (regions_of c.self.inside.below c.self.inside.above c.self.inside.fill) (get (all_held c.self.inside.below c.self.inside.above)) c.args.subpool c.args.place
is_open c = subst (λ t. Open t.regions (holder t) c.args.subpool c.args.place) (sym (stored c.self.view_is)) c.requires.open

-- the pages of the subpool afterwards
pages_are : (c : After-free_pages) → assigned_pages (regions_of c.self.inside.below c.self.inside.above c.self.inside.fill) (get (all_held c.take_in.new.below c.take_in.new.above)) c.args.subpool + c.free_pages.result ≡ c.get-count.result.pages + c.free_pages-free.result
pages_are c =
    let s = c.self.inside in
    let n = c.take_in.new in
    let some : 1 ≤ c.args.place.len = omega arith in
    let sums = taken_pages s.below s.above n.below n.above s.fill c.args.subpool c.args.place c.self.invariant.0 c.take_in.ensures.both c.requires.whole some s.counts c.self.invariant.1 (is_open (goal.at.After-free_pages c).After-take_in) c.take_in.ensures.taken
    c.free_pages-free.result c.free_pages.result (c.free_pages-free.ensures.free s.fill c.self.invariant.0) (c.free_pages.ensures.free s.fill c.take_in.ensures.both) in
    sums ∙ ap (λ t. t.pages + c.free_pages-free.result) (sym c.get-count.ensures)

pub overflow_add-pages : goal.overflow_add-pages
overflow_add-pages c =
    let s = c.self.inside in
    let few : s.above.pages ≤ 8192 = c.self.invariant.0.few_above in
    let few_low : s.below.pages ≤ 2048 = c.self.invariant.0.few_below in
    omega (arith, ap (λ t. t.pages) c.get-count.ensures, c.self.invariant.1.pages c.args.subpool, few_pages (regions_of s.below s.above s.fill) (get (all_held s.below s.above)) c.args.subpool, c.free_pages-free.ensures.most)

pub overflow_sub-pages : goal.overflow_sub-pages
overflow_sub-pages c = omega (arith, pages_are c)

pub overflow_add-held : goal.overflow_add-held
overflow_add-held c =
    let s = c.self.inside in
    let few : s.above.pages ≤ 8192 = c.self.invariant.0.few_above in
    omega (arith, ap (λ t. t.held) c.get-count.ensures, c.self.invariant.1.held c.args.subpool, few_held (regions_of s.below s.above s.fill) (get (all_held s.below s.above)) c.args.subpool)

pub invariant_of-self : goal.invariant_of-self
invariant_of-self c =
    let s = c.self.inside in
    let n = c.take_in.new in
    let some : 1 ≤ c.args.place.len = omega arith in
    let opened = is_open (goal.at.invariant_of-self c).After-take_in in
    let sums = pages_are (goal.at.invariant_of-self c).After-free_pages in
    let held = taken_held s.below s.above n.below n.above s.fill c.args.subpool c.args.place c.self.invariant.0 c.take_in.ensures.both c.requires.whole some s.counts c.self.invariant.1 opened c.take_in.ensures.taken in (
      c.take_in.ensures.both,
      taken_counts s.below s.above n.below n.above s.fill c.args.subpool c.args.place c.self.invariant.0 c.take_in.ensures.both c.requires.whole some s.counts c.self.invariant.1 opened c.take_in.ensures.taken
          c.set.new.self _ c.set.ensures (omega (arith, sums)) (omega (arith, held, ap (λ t. t.held) c.get-count.ensures, c.len.ensures.len)),
    )

pub returns-clause-storage : goal.returns-clause-storage
returns-clause-storage c = storage_of c.take_in.new.below c.take_in.new.above c.self.inside.fill c.take_in.ensures.both
