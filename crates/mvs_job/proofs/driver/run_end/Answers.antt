use Rattle.std.proofs.Common.{◌∙◌}
use Rattle.std.proofs.lemmas.Result.{err_from_is_err_and}
use Rattle.mvs_job.proofs.Entries.{closed_before, entry_closed}
use Rattle.mvs_job.proofs.driver.run_end.Goals as goal

pub returns-clause-ran : goal.returns-clause-ran
returns-clause-ran g c first history leads known =
    let r = entry_closed c.args.walk.now c.number.result c.close-closing.result.ended c.close-closing.result.outcome c.number.ensures c.close-closing.ensures in
    let before = closed_before c.args.walk.now.number c.args.walk.now.step c.close-closing.result.outcome r.0 r.1 in
    let q = c.in_ok-end.ensures.accepted first history r.0 r.2 before (before ∙ leads) known in
    (r.0, r.1, q.0, q.1)

pub returns-in_err-end-clause-ran : goal.returns-in_err-end-clause-ran
returns-in_err-end-clause-ran g c first history leads known =
    let r = entry_closed c.args.walk.now c.number.result c.close-closing.result.ended c.close-closing.result.outcome c.number.ensures c.close-closing.ensures in
    let before = closed_before c.args.walk.now.number c.args.walk.now.step c.close-closing.result.outcome r.0 r.1 in
    let q = c.in_err-end.ensures.accepted first history r.0 r.2 before (before ∙ leads) known in
    let p = err_from_is_err_and c.from_residual.result c.from_residual.ensures.1 in
    rw (p.1, p.2) (c.close-closing.result.outcome, r.0, r.1, q.0, q.1)
