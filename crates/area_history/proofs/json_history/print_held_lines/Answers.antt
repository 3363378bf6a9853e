use Rattle.std.proofs.Common.{Err}
use Rattle.std.proofs.lemmas.Result.{err_from_is_err_and}
use Rattle.line_text.proofs.Appending.{front_longer}
use Rattle.mvs_job.proofs.Serving.{both_written}
use Rattle.area_history.proofs.json_history.print_held_lines.Goals as goal

pub returns-in_err-print_holders : goal.returns-in_err-print_holders
returns-in_err-print_holders g c =
    let p = err_from_is_err_and c.from_residual.result c.from_residual.ensures.1 in
    let q = c.in_err-print_holders.ensures in
    rw (p.1) (record { bytes = front_longer _ _ _ _ q.bytes; ok = tt; err = q.err })

pub returns : goal.returns
returns g c = both_written g.W.Write.contents c.args.writer.now c.print_holders.new.writer c.print_held_totals.new.writer c.in_ok-print_holders.field-0 c.print_held_totals.result _ _ c.in_ok-print_holders.ensures c.print_held_totals.ensures
