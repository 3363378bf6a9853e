use Rattle.std.proofs.Common.{ℕ, List, length, ◌+◌, ◌/◌, subst}
use Rattle.mvs_model.specs.Texts.{data_lines}
use Rattle.line_text.specs.Writing.{Prints}
use Rattle.mvs_job.proofs.Resolved.{place_read}
use Rattle.mvs_job.proofs.printing.print_shown.Goals as goal

pub returns : goal.returns
returns g c = λ fallen.
    subst (λ (bytes : List ℕ). Prints g.W.Write.contents c.args.writer.now c.print_data.new.writer c.print_data.result (data_lines c.args.line_number c.args.task.now ((length bytes + 31) / 32) 0 bytes))
    (place_read c.args.job.now.state c.args.place c.in-Some.bytes.now c.in-Some.ensures.len (rw (c.step.ensures.state) at c.in-Some.ensures.bytes)) c.print_data.ensures
