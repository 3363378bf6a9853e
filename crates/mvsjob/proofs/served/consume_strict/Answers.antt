use Rattle.std.proofs.lemmas.Result.{err_from_is_err_and}
use Rattle.mvsjob.proofs.served.consume_strict.Goals as goal

pub returns : goal.returns
returns g c = (c.in_ok-end.end.outcome, c.in_ok-end.end.all_served, c.in_ok-end.ensures.run, c.of_strict.ensures.ending, c.of_strict.ensures.faulty)

pub returns-in_err-end : goal.returns-in_err-end
returns-in_err-end g c =
    let p = err_from_is_err_and c.from_residual.result c.from_residual.ensures.1 in
    rw (p.1) (c.in_err-end.field-0.0, p.2, c.in_err-end.ensures.stop, c.in_err-end.ensures.heard)
