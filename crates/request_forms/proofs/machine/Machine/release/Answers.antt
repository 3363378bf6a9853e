use Rattle.std.proofs.Common.{inl, refl, ◌∷◌, [], ◌∙◌, sym, ap}
use Rattle.mvs_model.specs.Owners.{subpool_meant}
use Rattle.std.proofs.lemmas.Result.{err_from_is_err_and}
use Rattle.request_forms.specs.Machine.{MachineValue, task_name}
use Rattle.request_forms.proofs.Cases.{not_valid}
use Rattle.request_forms.proofs.Releasing.{misplaced, one_on_doubleword, tried}
use Rattle.request_forms.proofs.machine.Machine.release.Goals as goal

pub returns-in_err-number : goal.returns-in_err-number
returns-in_err-number c = λ form. let p = err_from_is_err_and c.from_residual.result c.from_residual.ensures.1 in rw (p.1, p.2, c.in_err-number.ensures.0) ((inl (not_valid c.args.number c.in_err-number.ensures.1, refl), refl))

pub returns-then-not-is_on_doubleword : goal.returns-then-not-is_on_doubleword
returns-then-not-is_on_doubleword c = λ form.
    (misplaced c.args.self.now.state (task_name c.args.self.now c.args.t) c.args.number (c.args.place ∷ []) c.in_ok-number.ensures.0 (one_on_doubleword _ c.args.place (sym c.is_on_doubleword.ensures ∙ c.if-not-is_on_doubleword.true)), refl)

pub returns : goal.returns
returns c = λ form.
    let old = c.args.self.now.state in
    let t = task_name c.args.self.now c.args.t in
    tried old t c.args.number (c.args.place ∷ []) c.subpool-subpool.result c.release_area.new.self.state c.release_area.result c.in_ok-number.ensures.0
    (one_on_doubleword _ c.args.place (sym c.is_on_doubleword.ensures ∙ c.if-not-is_on_doubleword.false))
    (c.subpool-subpool.ensures ∙ ap (λ (m : MachineValue). subpool_meant m.state.owners (task_name m c.args.t) c.in_ok-number.number) c.self.view_is ∙ ap (subpool_meant old.owners t) c.in_ok-number.ensures.1)
    (rw (← c.whole.ensures) c.release_area.ensures)
