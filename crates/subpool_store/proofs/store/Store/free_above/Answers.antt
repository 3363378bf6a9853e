use Rattle.std.proofs.Common.{◌∙◌}
use Rattle.subpool_store.specs.FreePages.{free_pages}
use Rattle.subpool_store.proofs.FreeBoth.{free_above_is}
use Rattle.subpool_store.proofs.Value.{stored}
use Rattle.subpool_store.proofs.store.Store.free_above.Goals as goal

pub returns-clause-free : goal.returns-clause-free
returns-clause-free c =
    let s = c.self.inside in
    free_above_is s.below s.above s.fill c.self.invariant.0 c.free_pages.result c.free_pages.ensures.free ∙ (λ i. free_pages (stored c.self.view_is i) 4096 (stored c.self.view_is i).regions.above)
