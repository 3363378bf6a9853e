use Rattle.std.proofs.Common.{Err, arith}
use Rattle.std.proofs.lemmas.Result.{err_from_is_err_and}
use Rattle.line_text.proofs.Appending.{front_longer}
use Rattle.mvs_job.proofs.Serving.{both_written}
use Rattle.page.proofs.Closings.{closing_same}
use Rattle.page.proofs.markup.print_end.Goals as goal

pub returns-in_err-write_all : goal.returns-in_err-write_all
returns-in_err-write_all g c =
    let p = err_from_is_err_and c.from_residual.result c.from_residual.ensures.1 in
    rw (p.1) (record { bytes = front_longer _ _ _ _ c.in_err-write_all.ensures.bytes; ok = tt; err = c.in_err-write_all.ensures.err })

pub returns-in_err-print_closing : goal.returns-in_err-print_closing
returns-in_err-print_closing g c =
    let p = err_from_is_err_and c.from_residual-in_err-print_closing.result c.from_residual-in_err-print_closing.ensures.1 in
    let same = closing_same c.args.line_number c.args.end (let f = c.ranges.line_number.fits in omega (arith, f)) in
    let q = rw (same) at c.in_err-print_closing.ensures in
    rw (p.1) (both_written g.W.Write.contents c.args.writer.now c.write_all.new.writer c.print_closing.new.writer c.in_ok-write_all.field-0 (Err p.0) _ _ c.in_ok-write_all.ensures (record { bytes = front_longer _ _ _ _ q.bytes; ok = tt; err = q.err }))

pub returns : goal.returns
returns g c =
    let same = closing_same c.args.line_number c.args.end (let f = c.ranges.line_number.fits in omega (arith, f)) in
    both_written g.W.Write.contents c.args.writer.now c.write_all.new.writer c.write_all-2.new.writer c.in_ok-write_all.field-0 c.write_all-2.result _ _ c.in_ok-write_all.ensures
    (both_written g.W.Write.contents c.write_all.new.writer c.print_closing.new.writer c.write_all-2.new.writer c.in_ok-print_closing.field-0 c.write_all-2.result _ _ (rw (same) at c.in_ok-print_closing.ensures) c.write_all-2.ensures)
