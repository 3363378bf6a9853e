use Rattle.std.proofs.lemmas.Result.{err_from_is_err_and}
use Rattle.mvsjob.proofs.Leaking.{ends_plainly}
use Rattle.mvsjob.proofs.served.report_leaks.Goals as goal

pub returns : goal.returns
returns g c =
    let r = c.in_ok-end.ensures.run in
    (r.0, c.in_ok-end.end.outcome, c.in_ok-end.end.has_leaked, r.1, ends_plainly _ _ _ c.with_leaks.ensures, c.fault_of.ensures)

pub returns-in_err-end : goal.returns-in_err-end
returns-in_err-end g c =
    let p = err_from_is_err_and c.from_residual.result c.from_residual.ensures.1 in
    rw (p.1) (c.in_err-end.field-0.0, p.2, c.in_err-end.ensures.stop)
