use Rattle.request_forms.proofs.Longest.{pages_free}
use Rattle.request_forms.proofs.machine.Machine.free_pages.Goals as goal

pub returns-clause-below : goal.returns-clause-below
returns-clause-below c = rw (← c.self.view_is) (
    let s = c.self.inside in
    pages_free s.pools s.store.storage s.tasks.owners c.self.invariant 6 s.store.storage.regions.below _ c.free_below.ensures.free)

pub returns-clause-above : goal.returns-clause-above
returns-clause-above c = rw (← c.self.view_is) (
    let s = c.self.inside in
    pages_free s.pools s.store.storage s.tasks.owners c.self.invariant 4096 s.store.storage.regions.above _ c.free_above.ensures.free)
