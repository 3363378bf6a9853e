use Rattle.std.proofs.Common.{◌/◌, Bool, List, false, get_or, ap, ◌∙◌}
use Rattle.subpool_store.proofs.Marked.{marked_same}
use Rattle.subpool_store.proofs.region_store.close_free_page.Goals as goal

pub returns-clause-held : goal.returns-clause-held
returns-clause-held c = marked_same c.args.memory.now.held c.close_page.new.memory.held c.args.page c.close_page.ensures.marked c.requires.free

pub returns-clause-stays : goal.returns-clause-stays
returns-clause-stays c =
    let same = marked_same c.args.memory.now.held c.close_page.new.memory.held c.args.page c.close_page.ensures.marked c.requires.free in
    λ k set. c.close_page.ensures.stays k (ap (λ (l : List Bool). get_or l (k / 8) false) same ∙ set)
