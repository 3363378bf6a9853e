use Rattle.std.proofs.Common.{ap, refl, ◌∙◌}
use Rattle.region_raw.specs.Pages.{is_open}
use Rattle.subpool_store.proofs.PageTaken.{give_inv, give_keeps, give_marked, give_requires}
use Rattle.subpool_store.proofs.memory.Memory.give_in.Goals as goal

pub give-requires-clause-queue : goal.give-requires-clause-queue
give-requires-clause-queue c =
    let s = c.self.inside in
    give_requires s.region s.heads.items c.args.self.now c.self.invariant c.self.view_is c.args.page c.args.from c.args.to _ _ _ c.requires.some c.requires.first c.requires.last refl refl c.index.ensures
    (ap (λ g. is_open g.bytes c.args.page) c.self.view_is ∙ c.requires.there) c.requires.held

pub invariant_of-self : goal.invariant_of-self
invariant_of-self c =
    let s = c.self.inside in
    give_inv s.region s.heads.items c.args.self.now c.self.invariant c.self.view_is c.args.page c.args.from c.args.to _ _ _ c.requires.some c.requires.first c.requires.last refl refl c.index.ensures
    (ap (λ g. is_open g.bytes c.args.page) c.self.view_is ∙ c.requires.there) c.requires.held c.give.new.region c.give.result c.give.ensures.keeps c.give.ensures.queue

pub returns-clause-marked : goal.returns-clause-marked
returns-clause-marked c =
    let s = c.self.inside in
    give_marked s.region s.heads.items c.args.self.now c.self.invariant c.self.view_is c.args.page c.args.from c.args.to _ _ _ c.requires.some c.requires.first c.requires.last refl refl c.index.ensures
    (ap (λ g. is_open g.bytes c.args.page) c.self.view_is ∙ c.requires.there) c.requires.held c.give.new.region c.give.result c.give.ensures.keeps c.give.ensures.queue

pub returns-clause-keeps : goal.returns-clause-keeps
returns-clause-keeps c =
    let s = c.self.inside in
    give_keeps s.region s.heads.items c.args.self.now c.self.invariant c.self.view_is c.args.page c.args.from c.args.to _ _ _ c.requires.some c.requires.first c.requires.last refl refl c.index.ensures
    (ap (λ g. is_open g.bytes c.args.page) c.self.view_is ∙ c.requires.there) c.requires.held c.give.new.region c.give.result c.give.ensures.keeps c.give.ensures.queue c.give.ensures.same
