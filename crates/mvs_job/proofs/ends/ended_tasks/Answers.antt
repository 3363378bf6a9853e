use Rattle.std.proofs.Common.{◌∙◌}
use Rattle.mvs_job.proofs.Freeing.{answered_ends}
use Rattle.mvs_job.proofs.ends.ended_tasks.Goals as goal

pub returns-in-Answered : goal.returns-in-Answered
returns-in-Answered c = λ number available.
    let l = answered_ends c.args.walk.now c.args.line_event.now c.in-Answered.task c.in-Answered.answer c.fallen.result.now c.in-Answered.is available c.fallen.ensures number in
    c.ended_with.ensures l.0 ∙ l.1
