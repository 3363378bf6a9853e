use Rattle.std.proofs.Common.{sym, subst, ap, ◌∙◌}
use Rattle.mvs_job.specs.LineEvents.{IsAvailable}
use Rattle.area_history.specs.Histories.{ended_since}
use Rattle.area_history.proofs.Recording.{tasks_so}
use Rattle.area_history.proofs.task_ends.ended_since.Goals as goal

pub returns-in-Answered : goal.returns-in-Answered
returns-in-Answered c number =
    let has = subst (IsAvailable c.args.walk.now) c.in-Answered.is c.requires in
    c.ended_by_answer.ensures has.0.state ∙ ap (ended_since c.args.events.now) (sym (tasks_so number c.args.walk.now c.args.line_event.now _ _ c.fallen.result.now has.0 c.in-Answered.is has.1 c.fallen.ensures))
