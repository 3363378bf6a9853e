use Rattle.std.proofs.Common.{ap, ◌∙◌}
use Rattle.region_raw.specs.Pages.{is_open}
use Rattle.subpool_store.proofs.Cursors.{full_is}
use Rattle.subpool_store.proofs.memory.Memory.is_full.Goals as goal

pub returns : goal.returns
returns c =
    let s = c.self.inside in
    full_is s.region s.heads.items c.args.self.now c.self.invariant c.self.view_is c.args.page (ap (λ g. is_open g.bytes c.args.page) c.self.view_is ∙ c.requires) c.index.result.now c.index.ensures c.is_none.result c.is_none.ensures
