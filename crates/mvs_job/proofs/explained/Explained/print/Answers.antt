use Rattle.std.proofs.Common.{List, ℕ, subst, sym}
use Rattle.std.proofs.lemmas.Result.{err_from_is_err_and}
use Rattle.line_text.specs.Writing.{AppendsFront}
use Rattle.line_text.proofs.Appending.{front_longer}
use Rattle.mvs_job.proofs.ExplainedLine.{text_after_printing, text_of_fault, text_begins_with_printing}
use Rattle.mvs_job.proofs.Serving.{both_written}
use Rattle.mvs_job.proofs.explained.Explained.print.Goals as goal

pub returns-in_err-print_line-clause-printed : goal.returns-in_err-print_line-clause-printed
returns-in_err-print_line-clause-printed g c =
    let p = err_from_is_err_and c.from_residual.result c.from_residual.ensures.1 in
    let q = c.in_err-print_line.ensures in
    let m = text_begins_with_printing c.args.self.now c.args.number c.args.walk.now c.args.line_event.now in
    rw (p.1) (record { bytes = subst (λ (x : List ℕ). AppendsFront (g.W.Write.contents c.args.writer.now.inner) (g.W.Write.contents c.print_line.new.writer.inner) x) (sym m.1) (front_longer _ _ _ _ q.bytes); ok = tt; err = q.err })

pub returns-in-Faulted-clause-printed : goal.returns-in-Faulted-clause-printed
returns-in-Faulted-clause-printed g c = rw (text_of_fault c.args.self.now c.args.number c.args.walk.now c.args.line_event.now _ c.in-Faulted.is) c.in_ok-print_line.ensures

pub returns-clause-printed : goal.returns-clause-printed
returns-clause-printed g c =
    rw (text_after_printing c.args.self.now c.args.number c.args.walk.now c.args.line_event.now c.in_default.not-Faulted)
    (both_written g.W.Write.contents c.args.writer.now c.print_line.new.writer c.print_explanation.new.writer c.in_ok-print_line.field-0 c.print_explanation.result _ _ c.in_ok-print_line.ensures (c.print_explanation.ensures.printed c.args.number))
