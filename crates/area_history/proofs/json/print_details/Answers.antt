use Rattle.std.proofs.Common.{Err}
use Rattle.std.proofs.lemmas.Result.{err_from_is_err_and}
use Rattle.line_text.proofs.Appending.{front_longer}
use Rattle.mvs_job.proofs.Serving.{both_written}
use Rattle.area_history.proofs.json.print_details.Goals as goal

pub returns-in_err-print_each : goal.returns-in_err-print_each
returns-in_err-print_each g c =
    let p = err_from_is_err_and c.from_residual.result c.from_residual.ensures.1 in
    let q = rw (c.as_slice.ensures.items) at c.in_err-print_each.ensures in
    rw (p.1) (record { bytes = front_longer _ _ _ _ q.bytes; ok = tt; err = q.err })

pub returns : goal.returns
returns g c = both_written g.W.Write.contents c.args.writer.now c.print_each.new.writer c.print_totals_and_pools.new.writer c.in_ok-print_each.field-0 c.print_totals_and_pools.result _ _ (rw (c.as_slice.ensures.items) at c.in_ok-print_each.ensures) c.print_totals_and_pools.ensures
