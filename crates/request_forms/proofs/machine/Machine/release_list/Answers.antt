use Rattle.std.proofs.Common.{inl, refl, ◌∙◌, sym, ap}
use Rattle.std.specs.List.{list_all}
use Rattle.mvs_model.specs.Owners.{subpool_meant}
use Rattle.mvs_model.specs.Requests.{on_doubleword}
use Rattle.std.proofs.lemmas.Result.{err_from_is_err_and}
use Rattle.request_forms.specs.Machine.{MachineValue, task_name}
use Rattle.request_forms.proofs.Cases.{not_valid}
use Rattle.request_forms.proofs.Releasing.{misplaced, tried}
use Rattle.request_forms.proofs.machine.Machine.release_list.Goals as goal

pub returns-in_err-number : goal.returns-in_err-number
returns-in_err-number c = λ form. let p = err_from_is_err_and c.from_residual.result c.from_residual.ensures.1 in rw (p.1, p.2, c.in_err-number.ensures.0) ((inl (not_valid c.args.number c.in_err-number.ensures.1, refl), refl))

pub returns-then-not-are_on_doublewords : goal.returns-then-not-are_on_doublewords
returns-then-not-are_on_doublewords c = λ form. (
  misplaced c.args.self.now.state (task_name c.args.self.now c.args.t) c.args.number c.args.places.now c.in_ok-number.ensures.0
      (sym (c.are_on_doublewords.ensures ∙ ap (list_all on_doubleword) c.as_slice-places.ensures.items) ∙ c.if-not-are_on_doublewords.true),
  refl,
)

pub returns : goal.returns
returns c = λ form.
    let old = c.args.self.now.state in
    let t = task_name c.args.self.now c.args.t in
    tried old t c.args.number c.args.places.now c.subpool-subpool.result c.release_areas.new.self.state c.release_areas.result c.in_ok-number.ensures.0
    (sym (c.are_on_doublewords.ensures ∙ ap (list_all on_doubleword) c.as_slice-places.ensures.items) ∙ c.if-not-are_on_doublewords.false)
    (c.subpool-subpool.ensures ∙ ap (λ (m : MachineValue). subpool_meant m.state.owners (task_name m c.args.t) c.in_ok-number.number) c.self.view_is ∙ ap (subpool_meant old.owners t) c.in_ok-number.ensures.1)
    (rw (← c.as_slice-places.ensures.items) c.release_areas.ensures)
