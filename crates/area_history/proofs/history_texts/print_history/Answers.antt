use Rattle.std.proofs.Common.{Err}
use Rattle.std.proofs.lemmas.Result.{err_from_is_err_and}
use Rattle.line_text.proofs.Appending.{front_longer}
use Rattle.mvs_job.proofs.Serving.{both_written}
use Rattle.area_history.proofs.history_texts.print_history.Goals as goal

pub returns-in_err-print_some_fate : goal.returns-in_err-print_some_fate
returns-in_err-print_some_fate g c =
    let p = err_from_is_err_and c.from_residual.result c.from_residual.ensures.1 in
    let q = rw (c.earlier.ensures) at c.in_err-print_some_fate.ensures in
    rw (p.1) (record { bytes = front_longer _ _ _ _ q.bytes; ok = tt; err = q.err })

pub returns : goal.returns
returns g c = both_written g.W.Write.contents c.args.writer.now c.print_some_fate.new.writer c.print_some_fate-2.new.writer c.in_ok-print_some_fate.field-0 c.print_some_fate-2.result _ _ (rw (c.earlier.ensures) at c.in_ok-print_some_fate.ensures) c.print_some_fate-2.ensures
