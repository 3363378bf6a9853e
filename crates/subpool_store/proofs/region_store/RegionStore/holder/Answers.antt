use Rattle.std.proofs.Common.{◌≡◌, ◌-◌, ◌/◌, ◌*◌, length, ap, arith, ◌∙◌}
use Rattle.subpool_store.specs.Region.{value_at, cell}
use Rattle.subpool_store.proofs.Methods.{holder_inside, holder_outside}
use Rattle.subpool_store.proofs.region_store.RegionStore.holder.Goals as goal
use Rattle.subpool_store.proofs.region_store.RegionStore.holder.Goals.{then-at-self-via-then-at-self, then-at-self-via-else-at-self+then-pages-at}

pub returns-then-at-self : goal.returns-then-at-self
returns-then-at-self c =
    let s = c.self.inside in
    let sizes : length s.memory.held ≡ 512 * length s.pages = c.self.invariant.0.exact.sizes in
    holder_outside s.first s.memory.held s.pages (value_at s.memory.bytes) c.args.self.now c.self.view_is (c.args.addr / 8) (λ low. elim c.then-at-self.branch [ then-at-self-via-then-at-self w ↦ omega arith | then-at-self-via-else-at-self+then-pages-at w ↦ omega arith ])

pub returns : goal.returns
returns c =
    let s = c.self.inside in
    let at_is : c.get-at.result / 8 - s.first ≡ c.args.addr / 8 - s.first = ap (λ a. a / 8 - s.first) c.get-at.ensures.value in
    c.cell.ensures ∙ ap (cell s.memory.held s.pages) at_is ∙ holder_inside s.first s.memory.held s.pages (value_at s.memory.bytes) c.args.self.now c.self.view_is (c.args.addr / 8) (omega arith)
