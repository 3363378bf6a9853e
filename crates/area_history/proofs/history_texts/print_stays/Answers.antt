use Rattle.std.proofs.Common.{Err}
use Rattle.std.proofs.lemmas.Result.{err_from_is_err_and}
use Rattle.line_text.proofs.Appending.{front_longer}
use Rattle.mvs_job.proofs.Serving.{both_written}
use Rattle.area_history.proofs.history_texts.print_stays.Goals as goal

pub returns-in_err-print_each_stay : goal.returns-in_err-print_each_stay
returns-in_err-print_each_stay g c =
    let p = err_from_is_err_and c.from_residual.result c.from_residual.ensures.1 in
    let q = rw (c.as_slice.ensures.items) at c.in_err-print_each_stay.ensures in
    rw (p.1) (record { bytes = front_longer _ _ _ _ q.bytes; ok = tt; err = q.err })

pub returns : goal.returns
returns g c = both_written g.W.Write.contents c.args.writer.now c.print_each_stay.new.writer c.print_more.new.writer c.in_ok-print_each_stay.field-0 c.print_more.result _ _ (rw (c.as_slice.ensures.items) at c.in_ok-print_each_stay.ensures) (rw (c.saturating_sub.ensures) at c.print_more.ensures)
