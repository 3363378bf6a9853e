use Rattle.std.proofs.Common.{inl, refl, ◌∙◌, ap}
use Rattle.mvs_model.specs.Owners.{subpool_meant}
use Rattle.std.proofs.lemmas.Result.{err_from_is_err_and}
use Rattle.request_forms.specs.Machine.{machine_state}
use Rattle.task_owner.specs.Tasks.{name_of}
use Rattle.request_forms.proofs.Cases.{not_valid}
use Rattle.request_forms.proofs.Pooling.{subpool_agrees}
use Rattle.request_forms.proofs.Releasing.{done_whole, emptied_entry, no_entry, not_zero}
use Rattle.request_forms.proofs.machine.Machine.release_whole.Goals as goal

pub returns-in_err-number : goal.returns-in_err-number
returns-in_err-number c = λ form. let p = err_from_is_err_and c.from_residual.result c.from_residual.ensures.1 in rw (p.1, p.2, c.in_err-number.ensures.0) ((inl (not_valid c.args.number c.in_err-number.ensures.1, refl), refl))

pub returns-in-Some : goal.returns-in-Some
returns-in-Some c = λ form. rw (← c.self.view_is) (
    let pools = c.self.inside.pools in
    let st = c.self.inside.store.storage in
    let o = c.self.inside.tasks.owners in
    let is = c.subpool.ensures ∙ ap (subpool_meant o (name_of c.self.inside.tasks c.args.t)) c.in_ok-number.ensures.1 in
    let some = not_zero c.args.number c.get.result (c.get.ensures.value ∙ c.in_ok-number.ensures.1) c.if-get-eq0.false in
    done_whole (machine_state pools st o) (name_of c.self.inside.tasks c.args.t) form c.args.number _ c.subpool.result c.in_ok-number.ensures.0 some is
    (emptied_entry pools c.drop_subpool.new.self st c.release_all.new.self.storage o c.in-Some.subpool c.subpool.result c.self.invariant c.release_all.ensures.storage c.in-Some.is c.drop_subpool.ensures c.release_all.ensures.released))

pub returns-in_default : goal.returns-in_default
returns-in_default c = λ form. rw (← c.self.view_is) (
    let pools = c.self.inside.pools in
    let st = c.self.inside.store.storage in
    let o = c.self.inside.tasks.owners in
    let is = c.subpool.ensures ∙ ap (subpool_meant o (name_of c.self.inside.tasks c.args.t)) c.in_ok-number.ensures.1 in
    let some = not_zero c.args.number c.get.result (c.get.ensures.value ∙ c.in_ok-number.ensures.1) c.if-get-eq0.false in
    done_whole (machine_state pools st o) (name_of c.self.inside.tasks c.args.t) form c.args.number _ c.subpool.result c.in_ok-number.ensures.0 some is (no_entry pools st o c.subpool.result c.in_default.is))

pub invariant_of-self : goal.invariant_of-self
invariant_of-self c = subpool_agrees c.self.inside.pools c.drop_subpool.new.self c.self.inside.store.storage c.release_all.new.self.storage c.in-Some.subpool c.self.invariant c.release_all.ensures.storage c.drop_subpool.ensures c.release_all.ensures.released
