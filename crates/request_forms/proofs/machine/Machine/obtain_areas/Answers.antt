use Rattle.std.proofs.Common.{sym, ◌∙◌, ap, refl}
use Rattle.mvs_model.specs.Owners.{effective_task}
use Rattle.std.proofs.lemmas.Result.{err_from_is_err_and}
use Rattle.request_forms.specs.Machine.{machine_state}
use Rattle.task_owner.specs.Tasks.{name_of}
use Rattle.request_forms.proofs.Obtaining.{bound_keeper}
use Rattle.request_forms.proofs.Listing.{areas_of, areas_agree, areas_take, new_areas, new_areas_take, new_short}
use Rattle.request_forms.proofs.machine.Machine.obtain_areas.Goals as goal

pub returns-in_err-places-in-None-clause-granted : goal.returns-in_err-places-in-None-clause-granted
returns-in_err-places-in-None-clause-granted c = let p = err_from_is_err_and c.from_residual.result c.from_residual.ensures.1 in rw (p.1, p.2, ← c.self.view_is) (
  new_short c.self.inside.pools c.self.inside.store.storage c.self.inside.tasks.owners (effective_task c.self.inside.tasks.owners (name_of c.self.inside.tasks c.args.t) c.args.number) c.args.number c.spare-subpool.result c.args.start c.as_slice-in-None.result.now c.args.lengths.now c.in_err-places-in-None.field-0.0.member c.in_err-places-in-None.field-0.0.short
      c.self.invariant c.as_slice-in-None.ensures.items (sym c.subpool.ensures ∙ c.in-None.is) c.spare-subpool.ensures c.in_err-places-in-None.ensures.places.0,
  ap (λ st. machine_state c.self.inside.pools st c.self.inside.tasks.owners) c.in_err-places-in-None.ensures.places.1,
)

pub returns-in-Some-clause-granted : goal.returns-in-Some-clause-granted
returns-in-Some-clause-granted c = rw (← c.self.view_is)
    (areas_of c.self.inside.pools c.self.inside.store.storage c.grant_each.new.store.storage c.self.inside.tasks.owners (effective_task c.self.inside.tasks.owners (name_of c.self.inside.tasks c.args.t) c.args.number) c.args.number c.in-Some.subpool c.args.start c.as_slice.result.now c.args.lengths.now c.args.hints.now c.grant_each.result
    c.self.invariant c.as_slice.ensures.items (sym c.subpool.ensures ∙ c.in-Some.is) c.grant_each.ensures.places)

pub returns-in_ok-places-in-None-clause-granted : goal.returns-in_ok-places-in-None-clause-granted
returns-in_ok-places-in-None-clause-granted c = rw (← c.self.view_is)
    (new_areas c.self.inside.pools c.self.inside.store.storage c.grant_each-in-None.new.store.storage c.self.inside.tasks.owners c.bind.new.self.owners (effective_task c.self.inside.tasks.owners (name_of c.self.inside.tasks c.args.t) c.args.number) c.args.number c.spare-subpool.result c.args.start c.as_slice-in-None.result.now c.args.lengths.now c.args.hints.now c.in_ok-places-in-None.places
    c.self.invariant c.as_slice-in-None.ensures.items c.as_slice-in-None.ensures.least (sym c.subpool.ensures ∙ c.in-None.is) c.spare-subpool.ensures (bound_keeper c.self.inside.tasks.owners (name_of c.self.inside.tasks c.args.t) _ c.args.number c.spare-subpool.result c.bind.new.self.owners refl c.bind.ensures.binds) c.in_ok-places-in-None.ensures.places)

pub invariant_of-self : goal.invariant_of-self
invariant_of-self c = areas_agree c.self.inside.pools c.self.inside.store.storage c.grant_each.new.store.storage c.in-Some.subpool c.args.start c.as_slice.result.now c.args.hints.now c.grant_each.result c.self.invariant c.grant_each.ensures.places

pub invariant_of-self-in-None : goal.invariant_of-self-in-None
invariant_of-self-in-None c = areas_agree c.self.inside.pools c.self.inside.store.storage c.grant_each-in-None.new.store.storage c.spare-subpool.result c.args.start c.as_slice-in-None.result.now c.args.hints.now c.grant_each-in-None.result c.self.invariant c.grant_each-in-None.ensures.places

pub returns-in-Some-clause-hints : goal.returns-in-Some-clause-hints
returns-in-Some-clause-hints c = rw (← c.self.view_is)
    (areas_take c.self.inside.pools c.self.inside.store.storage c.grant_each.new.store.storage c.self.inside.tasks.owners (effective_task c.self.inside.tasks.owners (name_of c.self.inside.tasks c.args.t) c.args.number) c.args.number c.in-Some.subpool c.args.start c.as_slice.result.now c.args.lengths.now c.args.hints.now c.grant_each.result
    c.self.invariant c.as_slice.ensures.items (sym c.subpool.ensures ∙ c.in-Some.is) c.grant_each.ensures.places)

pub returns-in_ok-places-in-None-clause-hints : goal.returns-in_ok-places-in-None-clause-hints
returns-in_ok-places-in-None-clause-hints c = rw (← c.self.view_is)
    (new_areas_take c.self.inside.pools c.self.inside.store.storage c.grant_each-in-None.new.store.storage c.self.inside.tasks.owners c.bind.new.self.owners (effective_task c.self.inside.tasks.owners (name_of c.self.inside.tasks c.args.t) c.args.number) c.args.number c.spare-subpool.result c.args.start c.as_slice-in-None.result.now c.args.lengths.now c.args.hints.now c.in_ok-places-in-None.places
    c.self.invariant c.as_slice-in-None.ensures.items c.as_slice-in-None.ensures.least (sym c.subpool.ensures ∙ c.in-None.is) c.spare-subpool.ensures (bound_keeper c.self.inside.tasks.owners (name_of c.self.inside.tasks c.args.t) _ c.args.number c.spare-subpool.result c.bind.new.self.owners refl c.bind.ensures.binds) c.in_ok-places-in-None.ensures.places)
