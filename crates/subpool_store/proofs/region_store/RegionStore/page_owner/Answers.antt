use Rattle.std.proofs.Common.{◌≡◌, ◌-◌, ◌/◌, subst, sym, ap, ◌∙◌, arith}
use Rattle.page_map.specs.Owners.{owner_of}
use Rattle.subpool_store.specs.Region.{value_at, OwnsPage}
use Rattle.subpool_store.proofs.Methods.{no_page, page_owner}
use Rattle.subpool_store.proofs.region_store.RegionStore.page_owner.Goals as goal
use Rattle.subpool_store.proofs.region_store.RegionStore.page_owner.Goals.{then-page-first-via-then-page-first, then-page-first-via-else-page-first+then-pages-page}

pub returns-then-page-first : goal.returns-then-page-first
returns-then-page-first c =
    let s = c.self.inside in
    no_page s.first s.memory.held s.pages (value_at s.memory.bytes) c.args.self.now c.self.view_is (c.args.addr / 4096) c.self.invariant.0.aligned c.self.invariant.0.exact.sizes (λ low. elim c.then-page-first.branch [ then-page-first-via-then-page-first w ↦ omega arith | then-page-first-via-else-page-first+then-pages-page w ↦ omega arith ])

pub returns : goal.returns
returns c =
    let s = c.self.inside in
    let page : c.get-page.result / 4096 - s.first / 512 ≡ c.args.addr / 4096 - s.first / 512 = ap (λ a. a / 4096 - s.first / 512) c.get-page.ensures.value in
    subst (OwnsPage c.args.self.now (c.args.addr / 4096)) (sym (c.owner.ensures ∙ ap (owner_of s.pages) page))
    (page_owner s.first s.memory.held s.pages (value_at s.memory.bytes) c.args.self.now c.self.view_is (c.args.addr / 4096) c.self.invariant.0.aligned c.self.invariant.0.exact (omega arith))
