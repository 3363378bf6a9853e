use Rattle.std.proofs.Common.{Err}
use Rattle.std.proofs.lemmas.Result.{err_from_is_err_and}
use Rattle.line_text.proofs.Appending.{front_longer}
use Rattle.mvs_job.proofs.Serving.{both_written}
use Rattle.mvs_job.proofs.explained.Explained.print_explanation.Goals as goal

pub returns-in_err-print-clause-printed : goal.returns-in_err-print-clause-printed
returns-in_err-print-clause-printed g c = λ number.
    let p = err_from_is_err_and c.from_residual.result c.from_residual.ensures.1 in
    rw (p.1) (record { bytes = front_longer _ _ _ _ (rw (c.read.ensures) at c.in_err-print.ensures.bytes); ok = tt; err = c.in_err-print.ensures.err })

pub returns-in_err-print_named-clause-printed : goal.returns-in_err-print_named-clause-printed
returns-in_err-print_named-clause-printed g c = λ number.
    let p = err_from_is_err_and c.from_residual-in_err-print_named.result c.from_residual-in_err-print_named.ensures.1 in
    let q = c.in_err-print_named.ensures in
    rw (p.1) (both_written g.W.Write.contents c.args.writer.now c.print.new.writer c.print_named.new.writer c.in_ok-print.field-0 (Err p.0) _ _ (rw (c.read.ensures) at c.in_ok-print.ensures) (record { bytes = front_longer _ _ _ _ q.bytes; ok = tt; err = q.err }))

pub returns-in_err-print_frees-clause-printed : goal.returns-in_err-print_frees-clause-printed
returns-in_err-print_frees-clause-printed g c = λ number.
    let p = err_from_is_err_and c.from_residual-in_err-print_frees.result c.from_residual-in_err-print_frees.ensures.1 in
    let q = rw (c.as_slice.ensures.items) at (c.in_err-print_frees.ensures number) in
    rw (p.1) (both_written g.W.Write.contents c.args.writer.now c.print.new.writer c.print_frees.new.writer c.in_ok-print.field-0 (Err p.0) _ _ (rw (c.read.ensures) at c.in_ok-print.ensures)
    (both_written g.W.Write.contents c.print.new.writer c.print_named.new.writer c.print_frees.new.writer c.in_ok-print_named.field-0 (Err p.0) _ _ c.in_ok-print_named.ensures (record { bytes = front_longer _ _ _ _ q.bytes; ok = tt; err = q.err })))

pub returns-clause-printed : goal.returns-clause-printed
returns-clause-printed g c = λ number.
    both_written g.W.Write.contents c.args.writer.now c.print.new.writer c.print_done.new.writer c.in_ok-print.field-0 c.print_done.result _ _ (rw (c.read.ensures) at c.in_ok-print.ensures)
    (both_written g.W.Write.contents c.print.new.writer c.print_named.new.writer c.print_done.new.writer c.in_ok-print_named.field-0 c.print_done.result _ _ c.in_ok-print_named.ensures
    (both_written g.W.Write.contents c.print_named.new.writer c.print_frees.new.writer c.print_done.new.writer c.in_ok-print_frees.field-0 c.print_done.result _ _ (rw (c.as_slice.ensures.items) at (c.in_ok-print_frees.ensures number)) (c.print_done.ensures number)))
