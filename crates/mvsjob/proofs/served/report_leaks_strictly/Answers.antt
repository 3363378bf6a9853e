use Rattle.std.proofs.Common.{◌∙◌, ap}
use Rattle.std.proofs.lemmas.Result.{err_from_is_err_and}
use Rattle.mvsjob.specs.Endings.{leak_ending}
use Rattle.mvsjob.proofs.Leaking.{ends_strictly}
use Rattle.mvsjob.proofs.served.report_leaks_strictly.Goals as goal

pub returns : goal.returns
returns g c =
    let r = c.in_ok-end.ensures.run in
    (r.0, c.in_ok-end.end.outcome, c.in_ok-end.end.has_leaked, r.1, ends_strictly _ _ _ r.0 _ (c.with_leaks.ensures ∙ ap (leak_ending c.in_ok-end.end.has_leaked) c.of_strict.ensures) r.2, c.fault_of.ensures)

pub returns-in_err-end : goal.returns-in_err-end
returns-in_err-end g c =
    let p = err_from_is_err_and c.from_residual.result c.from_residual.ensures.1 in
    rw (p.1) (c.in_err-end.field-0.0, p.2, c.in_err-end.ensures.stop)
