use Rattle.std.proofs.Common.{◌∙◌, Err, Ok}
use Rattle.std.proofs.lemmas.Result.{err_from_is_err_and}
use Rattle.mvs_job.proofs.Entries.{closed_before, entry_closed}
use Rattle.mvs_job.specs.declared.consumer.End.TheVariants as end
use Rattle.schedules.proofs.Renumbering.{last_again}
use Rattle.schedules.proofs.in_order.run_end_as.Goals as goal

pub returns-clause-ran : goal.returns-clause-ran
returns-clause-ran g c first history leads known =
    let r = entry_closed c.args.walk.now c.number.result c.close-closing.result.ended c.close-closing.result.outcome c.number.ensures c.close-closing.ensures in
    let before = closed_before c.args.walk.now.number c.args.walk.now.step c.close-closing.result.outcome r.0 r.1 in
    let q = last_again c.args.numbers.now g.C.Consumer.piece (g.C.Consumer.knows first) _ _ _ c.end.new.self c.number.result c.number_at-line_number.result c.args.walk.now (end.Closed c.close-closing.result.ended) {X = Unit {0}} (Ok tt) c.number_at-line_number.ensures (c.in_ok-end.ensures.accepted first) history r.0 r.2 before (before ∙ leads) known in
    (r.0, r.1, q.0, q.1)

pub returns-in_err-end-clause-ran : goal.returns-in_err-end-clause-ran
returns-in_err-end-clause-ran g c first history leads known =
    let r = entry_closed c.args.walk.now c.number.result c.close-closing.result.ended c.close-closing.result.outcome c.number.ensures c.close-closing.ensures in
    let before = closed_before c.args.walk.now.number c.args.walk.now.step c.close-closing.result.outcome r.0 r.1 in
    let q = last_again c.args.numbers.now g.C.Consumer.piece (g.C.Consumer.knows first) _ _ _ c.end.new.self c.number.result c.number_at-line_number.result c.args.walk.now (end.Closed c.close-closing.result.ended) {X = Unit {0}} (Err c.in_err-end.field-0.0) c.number_at-line_number.ensures (c.in_err-end.ensures.accepted first) history r.0 r.2 before (before ∙ leads) known in
    let p = err_from_is_err_and c.from_residual.result c.from_residual.ensures.1 in
    rw (p.1, p.2) (c.close-closing.result.outcome, r.0, r.1, q.0, q.1)
