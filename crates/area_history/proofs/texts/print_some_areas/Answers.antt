use Rattle.std.proofs.Common.{Err}
use Rattle.std.proofs.lemmas.Result.{err_from_is_err_and}
use Rattle.line_text.proofs.Appending.{front_longer}
use Rattle.mvs_job.proofs.Serving.{both_written}
use Rattle.area_history.proofs.texts.print_some_areas.Goals as goal

pub returns-in_err-print_heading : goal.returns-in_err-print_heading
returns-in_err-print_heading g c =
    let p = err_from_is_err_and c.from_residual.result c.from_residual.ensures.1 in
    let q = c.in_err-print_heading.ensures in
    rw (p.1) (record { bytes = front_longer _ _ _ _ q.bytes; ok = tt; err = q.err })

pub returns : goal.returns
returns g c = both_written g.W.Write.contents c.args.writer.now c.print_heading.new.writer c.print_areas.new.writer c.in_ok-print_heading.field-0 c.print_areas.result _ _ c.in_ok-print_heading.ensures c.print_areas.ensures
