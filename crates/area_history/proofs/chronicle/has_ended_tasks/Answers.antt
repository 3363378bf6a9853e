use Rattle.std.specs.Prelude.{[]}
use Rattle.std.proofs.Common.{refl, subst, ◌∙◌}
use Rattle.mvs_job.specs.LineEvents.{IsAvailable}
use Rattle.area_history.proofs.Recording.{tasks_so}
use Rattle.area_history.proofs.chronicle.has_ended_tasks.Goals as goal

pub returns-in-Answered : goal.returns-in-Answered
returns-in-Answered c number none =
    let has = subst (IsAvailable c.args.walk.now) c.in-Answered.is c.requires in
    tasks_so number c.args.walk.now c.args.line_event.now _ _ _ has.0 c.in-Answered.is has.1 refl ∙ c.ends_tasks.ensures has.0.state _ _ none
