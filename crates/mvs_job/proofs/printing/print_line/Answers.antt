use Rattle.mvs_model.specs.Answers.{Region, AnswerTo}
use Rattle.mvs_job.specs.LineEvents.{ended}
use Rattle.mvs_job.proofs.Serving.{then_printed}
use Rattle.mvs_job.proofs.printing.print_line.Goals as goal

pub returns-in_ok-print_ended-in-StepBegan : goal.returns-in_ok-print_ended-in-StepBegan
returns-in_ok-print_ended-in-StepBegan g c =
    rw (c.in-StepBegan.is) (then_printed g.W.Write.contents c.args.writer.now c.print_ended.new.writer c.print_region.new.writer c.in_ok-print_ended-in-StepBegan.field-0 c.print_region.result (ended c.in-StepBegan.end) (AnswerTo c.args.line_number c.in-StepBegan.card.name (Region c.in-StepBegan.card)) c.in_ok-print_ended-in-StepBegan.ensures c.print_region.ensures)
