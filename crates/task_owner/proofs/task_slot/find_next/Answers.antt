use Rattle.std.proofs.Common.{◌∙◌}
use Rattle.task_owner.proofs.NextTasks.{seen_all, seen_rest, first_correct}
use Rattle.task_owner.proofs.task_slot.find_next.Goals as goal

pub loop-seat-init : goal.loop-seat-init
loop-seat-init c = seen_all _ _ _ (c.into_iter-seat-iterator.ensures.into_iter_gives ∙ c.iter-seat-items.ensures.rest)

pub loop-seat-preserved : goal.loop-seat-preserved
loop-seat-preserved c = seen_rest _ _ _ _ _ _ _ _ c.in-Some.ensures.steps c.loop-seat.invariant c.first_of-next.ensures

pub returns : goal.returns
returns c = first_correct _ _ _ _ c.in-None.ensures.steps.0 c.loop-seat.invariant
