use Rattle.std.proofs.Common.{Err}
use Rattle.std.proofs.lemmas.Result.{err_from_is_err_and}
use Rattle.line_text.proofs.Appending.{front_longer}
use Rattle.mvs_job.proofs.Serving.{both_written}
use Rattle.page.proofs.markup.print_note_tag.Goals as goal

pub returns-in_err-write_all : goal.returns-in_err-write_all
returns-in_err-write_all g c =
    let p = err_from_is_err_and c.from_residual.result c.from_residual.ensures.1 in
    rw (p.1) (record { bytes = front_longer _ _ _ _ c.in_err-write_all.ensures.bytes; ok = tt; err = c.in_err-write_all.ensures.err })

pub returns-in_err-print_number : goal.returns-in_err-print_number
returns-in_err-print_number g c =
    let p = err_from_is_err_and c.from_residual-in_err-print_number.result c.from_residual-in_err-print_number.ensures.1 in
    let q = c.in_err-print_number.ensures in
    rw (p.1) (both_written g.W.Write.contents c.args.writer.now c.write_all.new.writer c.print_number.new.writer c.in_ok-write_all.field-0 (Err p.0) _ _ c.in_ok-write_all.ensures (record { bytes = front_longer _ _ _ _ q.bytes; ok = tt; err = q.err }))

pub returns : goal.returns
returns g c =
    both_written g.W.Write.contents c.args.writer.now c.write_all.new.writer c.write_all-2.new.writer c.in_ok-write_all.field-0 c.write_all-2.result _ _ c.in_ok-write_all.ensures
    (both_written g.W.Write.contents c.write_all.new.writer c.print_number.new.writer c.write_all-2.new.writer c.in_ok-print_number.field-0 c.write_all-2.result _ _ c.in_ok-print_number.ensures c.write_all-2.ensures)
