use Rattle.std.proofs.Common.{refl, sym, subst}
use Rattle.region_raw.specs.Pages.{IsBlank}
use Rattle.subpool_store.proofs.PageOpened.{opened_bytes, opened_filled, opened_inv, opened_marked, opened_stays}
use Rattle.subpool_store.proofs.memory.Memory.open_page.Goals as goal

pub invariant_of-self : goal.invariant_of-self
invariant_of-self c =
    let s = c.self.inside in let blank = subst (λ g. IsBlank g.bytes c.args.page) (sym c.self.view_is) c.requires.blank in
    opened_inv s.region c.open_page.new.self c.start_around.new.region s.heads.items c.args.self.now c.self.invariant c.self.view_is c.args.page c.args.from c.args.to _ _ c.start_around.result c.args.value blank.0 blank.1
    c.requires.some c.requires.first c.requires.last refl refl c.open_page.ensures c.start_around.ensures.keeps c.start_around.ensures.queue

pub returns-clause-marked : goal.returns-clause-marked
returns-clause-marked c =
    let s = c.self.inside in let blank = subst (λ g. IsBlank g.bytes c.args.page) (sym c.self.view_is) c.requires.blank in
    opened_marked s.region c.open_page.new.self c.start_around.new.region s.heads.items c.args.self.now c.self.invariant c.self.view_is c.args.page c.args.from c.args.to _ _ c.start_around.result c.args.value blank.0 blank.1
    c.requires.some c.requires.first c.requires.last refl refl c.open_page.ensures c.start_around.ensures.keeps c.start_around.ensures.queue

pub returns-clause-opened : goal.returns-clause-opened
returns-clause-opened c =
    let s = c.self.inside in let blank = subst (λ g. IsBlank g.bytes c.args.page) (sym c.self.view_is) c.requires.blank in
    opened_bytes s.region c.open_page.new.self c.start_around.new.region s.heads.items c.args.self.now c.self.invariant c.self.view_is c.args.page c.args.from c.args.to _ _ c.start_around.result c.args.value blank.0 blank.1
    c.requires.some c.requires.first c.requires.last refl refl c.open_page.ensures c.start_around.ensures.keeps

pub returns-clause-stays : goal.returns-clause-stays
returns-clause-stays c =
    let s = c.self.inside in let blank = subst (λ g. IsBlank g.bytes c.args.page) (sym c.self.view_is) c.requires.blank in
    opened_stays s.region c.open_page.new.self c.start_around.new.region s.heads.items c.args.self.now c.self.invariant c.self.view_is c.args.page c.args.from c.args.to _ _ c.start_around.result c.args.value blank.0 blank.1
    c.requires.some c.requires.first c.requires.last refl refl c.open_page.ensures c.start_around.ensures.keeps

pub returns-clause-filled : goal.returns-clause-filled
returns-clause-filled c =
    let s = c.self.inside in let blank = subst (λ g. IsBlank g.bytes c.args.page) (sym c.self.view_is) c.requires.blank in
    opened_filled s.region c.open_page.new.self c.start_around.new.region s.heads.items c.args.self.now c.self.invariant c.self.view_is c.args.page c.args.from c.args.to _ _ c.start_around.result c.args.value blank.0 blank.1
    c.requires.some c.requires.first c.requires.last refl refl c.open_page.ensures c.start_around.ensures.keeps c.start_around.ensures.same
