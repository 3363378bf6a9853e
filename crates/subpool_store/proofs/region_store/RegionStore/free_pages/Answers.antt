use Rattle.std.proofs.Common.{◌≡◌, ℕ, ◌+◌, ◌-◌, ◌/◌, not, is_some, length, subst, ap, ◌∙◌, arith}
use Rattle.mvs_model.specs.Finite.{count_below}
use Rattle.page_map.specs.Owners.{owner_of}
use Rattle.subpool_store.specs.Region.{RegionState, value_at, OwnsPage}
use Rattle.subpool_store.proofs.Methods.{page_owner}
use Rattle.subpool_store.proofs.region_store.RegionStore.free_pages.Goals as goal

pub returns-clause-free : goal.returns-clause-free
returns-clause-free c =
    let s = c.self.inside in
    let now = c.args.self.now in
    let first : s.first ≡ now.first = ap (λ (h : RegionState). h.first) c.self.view_is in
    let pages : length s.pages ≡ now.pages = ap (λ (h : RegionState). h.pages) c.self.view_is in (
      owner_of s.pages,
      λ p low.
          let at : s.first / 512 + p - s.first / 512 ≡ p = omega arith in
          let owns = page_owner s.first s.memory.held s.pages (value_at s.memory.bytes) now c.self.view_is (s.first / 512 + p) c.self.invariant.0.aligned c.self.invariant.0.exact (omega arith) in
          subst (λ f. OwnsPage now (f / 512 + p) (owner_of s.pages p)) first (subst (λ k. OwnsPage now (s.first / 512 + p) (owner_of s.pages k)) at owns),
      c.free_pages.ensures.free ∙ ap (λ n. count_below n (λ p. not (is_some (owner_of s.pages p)))) pages,
    )
