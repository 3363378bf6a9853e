use Rattle.std.proofs.Common.{ap, refl, ◌∙◌}
use Rattle.region_raw.specs.Pages.{is_open}
use Rattle.subpool_store.proofs.PageTaken.{take_inv, take_keeps, take_marked, take_requires}
use Rattle.subpool_store.proofs.memory.Memory.take_in.Goals as goal

pub take-requires-clause-queue : goal.take-requires-clause-queue
take-requires-clause-queue c =
    let s = c.self.inside in
    take_requires s.region s.heads.items c.args.self.now c.self.invariant c.self.view_is c.args.page c.args.from c.args.to _ _ _ c.requires.some c.requires.first c.requires.last refl refl c.index.ensures
    (ap (λ g. is_open g.bytes c.args.page) c.self.view_is ∙ c.requires.there) c.requires.free

pub invariant_of-self : goal.invariant_of-self
invariant_of-self c =
    let s = c.self.inside in
    take_inv s.region s.heads.items c.args.self.now c.self.invariant c.self.view_is c.args.page c.args.from c.args.to _ _ _ c.requires.some c.requires.first c.requires.last refl refl c.index.ensures
    (ap (λ g. is_open g.bytes c.args.page) c.self.view_is ∙ c.requires.there) c.requires.free c.take.new.region c.take.result c.take.ensures.keeps c.take.ensures.queue

pub returns-clause-marked : goal.returns-clause-marked
returns-clause-marked c =
    let s = c.self.inside in
    take_marked s.region s.heads.items c.args.self.now c.self.invariant c.self.view_is c.args.page c.args.from c.args.to _ _ _ c.requires.some c.requires.first c.requires.last refl refl c.index.ensures
    (ap (λ g. is_open g.bytes c.args.page) c.self.view_is ∙ c.requires.there) c.requires.free c.take.new.region c.take.result c.take.ensures.keeps c.take.ensures.queue

pub returns-clause-keeps : goal.returns-clause-keeps
returns-clause-keeps c =
    let s = c.self.inside in
    take_keeps s.region s.heads.items c.args.self.now c.self.invariant c.self.view_is c.args.page c.args.from c.args.to _ _ _ c.requires.some c.requires.first c.requires.last refl refl c.index.ensures
    (ap (λ g. is_open g.bytes c.args.page) c.self.view_is ∙ c.requires.there) c.requires.free c.take.new.region c.take.result c.take.ensures.keeps c.take.ensures.queue c.take.ensures.same
