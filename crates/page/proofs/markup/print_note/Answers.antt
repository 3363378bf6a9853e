use Rattle.std.proofs.Common.{Err}
use Rattle.std.proofs.lemmas.Result.{err_from_is_err_and}
use Rattle.line_text.proofs.Appending.{front_longer}
use Rattle.mvs_job.proofs.Serving.{both_written}
use Rattle.page.proofs.markup.print_note.Goals as goal

pub returns-in_err-print_note_tag : goal.returns-in_err-print_note_tag
returns-in_err-print_note_tag g c =
    let p = err_from_is_err_and c.from_residual.result c.from_residual.ensures.1 in
    rw (p.1) (record { bytes = front_longer _ _ _ _ c.in_err-print_note_tag.ensures.bytes; ok = tt; err = c.in_err-print_note_tag.ensures.err })

pub returns-in_err-print_escaped : goal.returns-in_err-print_escaped
returns-in_err-print_escaped g c =
    let p = err_from_is_err_and c.from_residual-in_err-print_escaped.result c.from_residual-in_err-print_escaped.ensures.1 in
    let q = rw (c.front.ensures) at c.in_err-print_escaped.ensures in
    rw (p.1) (both_written g.W.Write.contents c.args.writer.now c.print_note_tag.new.writer c.print_escaped.new.writer c.in_ok-print_note_tag.field-0 (Err p.0) _ _ c.in_ok-print_note_tag.ensures (record { bytes = front_longer _ _ _ _ q.bytes; ok = tt; err = q.err }))

pub returns : goal.returns
returns g c =
    both_written g.W.Write.contents c.args.writer.now c.print_note_tag.new.writer c.write_all.new.writer c.in_ok-print_note_tag.field-0 c.write_all.result _ _ c.in_ok-print_note_tag.ensures
    (both_written g.W.Write.contents c.print_note_tag.new.writer c.print_escaped.new.writer c.write_all.new.writer c.in_ok-print_escaped.field-0 c.write_all.result _ _ (rw (c.front.ensures) at c.in_ok-print_escaped.ensures) c.write_all.ensures)
