use Rattle.std.proofs.Common.{ℕ, List, subst}
use Rattle.line_text.specs.Writing.{Prints}
use Rattle.mvs_job.proofs.Numbers.{none_text, some_text}
use Rattle.mvs_job.proofs.reports.print_subpools.Goals as goal

pub returns-in-Some : goal.returns-in-Some
returns-in-Some g c =
    subst (λ (text : List ℕ). Prints g.W.Write.contents c.args.writer.now c.print_numbers.new.writer c.print_numbers.result text)
    (some_text c.args.line_number c.args.job.now.state c.args.task.now c.in-Some.first (rw (c.step.ensures.state) at c.in-Some.ensures)) c.print_numbers.ensures

pub returns-in-None : goal.returns-in-None
returns-in-None g c =
    subst (λ (text : List ℕ). Prints g.W.Write.contents c.args.writer.now c.print_no_subpool.new.writer c.print_no_subpool.result text)
    (none_text c.args.line_number c.args.job.now.state c.args.task.now (rw (c.step.ensures.state) at c.in-None.ensures)) c.print_no_subpool.ensures
