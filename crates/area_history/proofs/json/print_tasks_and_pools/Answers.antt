use Rattle.std.proofs.Common.{Err}
use Rattle.std.proofs.lemmas.Result.{err_from_is_err_and}
use Rattle.line_text.proofs.Appending.{front_longer}
use Rattle.mvs_job.proofs.Serving.{both_written}
use Rattle.area_history.proofs.json.print_tasks_and_pools.Goals as goal

pub returns-in_err-print_totals : goal.returns-in_err-print_totals
returns-in_err-print_totals g c =
    let p = err_from_is_err_and c.from_residual.result c.from_residual.ensures.1 in
    let q = rw (c.as_slice.ensures.items) at c.in_err-print_totals.ensures in
    rw (p.1) (record { bytes = front_longer _ _ _ _ q.bytes; ok = tt; err = q.err })

pub returns : goal.returns
returns g c = both_written g.W.Write.contents c.args.writer.now c.print_totals.new.writer c.print_pools.new.writer c.in_ok-print_totals.field-0 c.print_pools.result _ _ (rw (c.as_slice.ensures.items) at c.in_ok-print_totals.ensures) (rw (c.as_slice-2.ensures.items) at c.print_pools.ensures)
