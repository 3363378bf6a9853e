use Rattle.std.proofs.Common.{ap, ◌∙◌}
use Rattle.region_raw.specs.Pages.{is_open}
use Rattle.subpool_store.proofs.PageChange.{closed_bytes, closed_stays, closed_inv, closed_marked}
use Rattle.subpool_store.proofs.memory.Memory.close_page.Goals as goal
use Rattle.region_raw.proofs.PageRows.{open_within}

pub invariant_of-self : goal.invariant_of-self
invariant_of-self c =
    let s = c.self.inside in
    closed_inv s.region c.close_page.new.self s.heads.items c.args.self.now c.self.invariant c.self.view_is c.args.page
    (open_within s.region c.args.page (ap (λ g. is_open g.bytes c.args.page) c.self.view_is ∙ c.requires)) c.close_page.ensures

pub returns-clause-marked : goal.returns-clause-marked
returns-clause-marked c =
    let s = c.self.inside in
    closed_marked s.region c.close_page.new.self s.heads.items c.args.self.now c.self.invariant c.self.view_is c.args.page
    (open_within s.region c.args.page (ap (λ g. is_open g.bytes c.args.page) c.self.view_is ∙ c.requires)) c.close_page.ensures

pub returns-clause-closed : goal.returns-clause-closed
returns-clause-closed c =
    let s = c.self.inside in
    closed_bytes s.region c.close_page.new.self s.heads.items c.args.self.now c.self.invariant c.self.view_is c.args.page
    (open_within s.region c.args.page (ap (λ g. is_open g.bytes c.args.page) c.self.view_is ∙ c.requires)) c.close_page.ensures

pub returns-clause-stays : goal.returns-clause-stays
returns-clause-stays c =
    let s = c.self.inside in
    closed_stays s.region c.close_page.new.self s.heads.items c.args.self.now c.self.invariant c.self.view_is c.args.page
    (open_within s.region c.args.page (ap (λ g. is_open g.bytes c.args.page) c.self.view_is ∙ c.requires)) c.close_page.ensures
