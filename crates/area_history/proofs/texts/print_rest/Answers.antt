use Rattle.std.proofs.Common.{Err}
use Rattle.std.proofs.lemmas.Result.{err_from_is_err_and}
use Rattle.line_text.proofs.Appending.{front_longer}
use Rattle.mvs_job.proofs.Serving.{both_written}
use Rattle.area_history.proofs.texts.print_rest.Goals as goal

pub returns-in_err-print_more : goal.returns-in_err-print_more
returns-in_err-print_more g c =
    let p = err_from_is_err_and c.from_residual.result c.from_residual.ensures.1 in
    let q = rw (c.saturating_sub.ensures) at c.in_err-print_more.ensures in
    rw (p.1) (record { bytes = front_longer _ _ _ _ q.bytes; ok = tt; err = q.err })

pub returns : goal.returns
returns g c = both_written g.W.Write.contents c.args.writer.now c.print_more.new.writer c.print_both_totals.new.writer c.in_ok-print_more.field-0 c.print_both_totals.result _ _ (rw (c.saturating_sub.ensures) at c.in_ok-print_more.ensures) c.print_both_totals.ensures
