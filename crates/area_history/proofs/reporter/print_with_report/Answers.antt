use Rattle.std.proofs.Common.{◌++◌, Err}
use Rattle.std.proofs.lemmas.Result.{err_from_is_err_and}
use Rattle.line_text.proofs.Appending.{front_longer}
use Rattle.mvs_job.proofs.Serving.{both_written}
use Rattle.area_history.proofs.Printings.{rest_printed}
use Rattle.area_history.proofs.reporter.print_with_report.Goals as goal

pub returns-in_err-write_all : goal.returns-in_err-write_all
returns-in_err-write_all g c =
    let p = err_from_is_err_and c.from_residual.result c.from_residual.ensures.1 in
    let q = c.in_err-write_all.ensures in
    rw (c.first_line_len-len.ensures.cut (g.F.ReportFormat.report c.args.left.now), p.1) (record { bytes = front_longer _ _ _ _ (front_longer _ _ _ _ q.bytes); ok = tt; err = q.err })

pub returns-in_err-print : goal.returns-in_err-print
returns-in_err-print g c =
    let p = err_from_is_err_and c.from_residual-in_err-print.result c.from_residual-in_err-print.ensures.1 in
    let q = both_written g.W.Write.contents c.args.writer.now c.write_all.new.writer c.print.new.writer c.in_ok-write_all.field-0 (Err c.in_err-print.field-0.0) _ _ c.in_ok-write_all.ensures c.in_err-print.ensures in
    rw (c.first_line_len-len.ensures.cut (g.F.ReportFormat.report c.args.left.now), p.1) (record { bytes = front_longer _ _ _ _ q.bytes; ok = tt; err = q.err })

pub returns : goal.returns
returns g c =
    let first = both_written g.W.Write.contents c.args.writer.now c.write_all.new.writer c.print.new.writer c.in_ok-write_all.field-0 _ _ _ c.in_ok-write_all.ensures c.in_ok-print.ensures in
    rw (c.first_line_len-len.ensures.cut (g.F.ReportFormat.report c.args.left.now)) (both_written g.W.Write.contents c.args.writer.now c.print.new.writer c.write_all-2.new.writer c.in_ok-print.field-0 c.write_all-2.result _ _ first (rest_printed g.W.Write.contents c.print.new.writer c.write_all-2.new.writer c.write_all-2.result c.args.text.now c.first_line_len-len.result c.first_line_len-len.ensures.within c.write_all-2.ensures))
