use Rattle.std.proofs.Common.{sym, ◌∙◌, refl}
use Rattle.task_owner.specs.Tasks.{name_of}
use Rattle.request_forms.proofs.Obtaining.{bound_keeper, its_subpool, new_subpool}
use Rattle.request_forms.proofs.Building.{built_here, built_new, not_built, pool_takes}
use Rattle.request_forms.proofs.machine.Machine.build_pool.Goals as goal

pub returns-in-Some-clause-answer : goal.returns-in-Some-clause-answer
returns-in-Some-clause-answer c = rw (← c.self.view_is)
    (built_here c.self.inside.pools c.build.new.self c.self.inside.store.storage c.build.new.store.storage c.self.inside.tasks.owners (name_of c.self.inside.tasks c.args.t) c.args.pool.now c.args.number c.in-Some.subpool _ c.self.invariant c.requires.valid c.build.result
    (sym c.subpool.ensures ∙ c.in-Some.is) c.build.ensures.built c.build.ensures.refused c.build.ensures.unchanged c.build.ensures.pools_unchanged)

pub returns-then-is_ok-clause-answer : goal.returns-then-is_ok-clause-answer
returns-then-is_ok-clause-answer c = rw (← c.self.view_is)
    (built_new c.self.inside.pools c.build-built.new.self c.self.inside.store.storage c.build-built.new.store.storage c.self.inside.tasks.owners (name_of c.self.inside.tasks c.args.t) c.args.pool.now c.args.number c.spare-subpool.result _ c.self.invariant c.requires.valid c.bind.new.self.owners c.build-built.result
    (sym c.is_ok.ensures.value ∙ c.if-is_ok.true) (sym c.subpool.ensures ∙ c.in-None.is) c.spare-subpool.ensures (bound_keeper c.self.inside.tasks.owners (name_of c.self.inside.tasks c.args.t) _ c.args.number c.spare-subpool.result c.bind.new.self.owners refl c.bind.ensures.binds) c.build-built.ensures.built)

pub returns-else-is_ok-clause-answer : goal.returns-else-is_ok-clause-answer
returns-else-is_ok-clause-answer c = rw (← c.self.view_is)
    (not_built c.self.inside.pools c.build-built.new.self c.self.inside.store.storage c.build-built.new.store.storage c.self.inside.tasks.owners (name_of c.self.inside.tasks c.args.t) c.args.pool.now c.args.number c.spare-subpool.result _ c.self.invariant c.requires.valid c.build-built.result
    (sym c.is_ok.ensures.value ∙ c.if-is_ok.false) (sym c.subpool.ensures ∙ c.in-None.is) c.spare-subpool.ensures c.build-built.ensures.refused c.build-built.ensures.unchanged c.build-built.ensures.pools_unchanged)

pub returns-in-Some-clause-hints : goal.returns-in-Some-clause-hints
returns-in-Some-clause-hints c = rw (← c.self.view_is)
    (pool_takes c.self.inside.pools c.build.new.self c.self.inside.store.storage c.build.new.store.storage c.self.inside.tasks.owners c.self.inside.tasks.owners (name_of c.self.inside.tasks c.args.t) c.args.pool.now c.args.number c.in-Some.subpool _ c.self.invariant
    (its_subpool _ _ _ _ (sym c.subpool.ensures ∙ c.in-Some.is)) c.args.hints c.build.result c.build.ensures.hint)

pub returns-then-is_ok-clause-hints : goal.returns-then-is_ok-clause-hints
returns-then-is_ok-clause-hints c = rw (← c.self.view_is)
    (pool_takes c.self.inside.pools c.build-built.new.self c.self.inside.store.storage c.build-built.new.store.storage c.self.inside.tasks.owners c.bind.new.self.owners (name_of c.self.inside.tasks c.args.t) c.args.pool.now c.args.number c.spare-subpool.result _ c.self.invariant
    (new_subpool _ _ _ _ (sym c.subpool.ensures ∙ c.in-None.is) c.spare-subpool.ensures) c.args.hints c.build-built.result c.build-built.ensures.hint)

pub returns-else-is_ok-clause-hints : goal.returns-else-is_ok-clause-hints
returns-else-is_ok-clause-hints c = rw (← c.self.view_is)
    (pool_takes c.self.inside.pools c.build-built.new.self c.self.inside.store.storage c.build-built.new.store.storage c.self.inside.tasks.owners c.self.inside.tasks.owners (name_of c.self.inside.tasks c.args.t) c.args.pool.now c.args.number c.spare-subpool.result _ c.self.invariant
    (new_subpool _ _ _ _ (sym c.subpool.ensures ∙ c.in-None.is) c.spare-subpool.ensures) c.args.hints c.build-built.result c.build-built.ensures.hint)
