use Rattle.std.proofs.Common.{rules, ◌∙◌, refl}
use Rattle.task_owner.proofs.Found.{unseen_all, unseen_first, unseen_rest}
use Rattle.task_owner.proofs.task_slot.find_child.Goals as goal

pub loop-seat-init : goal.loop-seat-init
loop-seat-init c = unseen_all _ _ _ (c.into_iter-seat-iterator.ensures.into_iter_gives ∙ c.iter-seat-items.ensures.rest)

pub returns-then-eq : goal.returns-then-eq
returns-then-eq c = (c.in-Some.field-0-0, c.in-Some.seat.now, unseen_first _ _ _ _ _ _ c.in-Some.ensures.steps c.loop-seat.invariant, search rules, refl)

pub loop-seat-preserved : goal.loop-seat-preserved
loop-seat-preserved c = unseen_rest _ _ _ _ _ _ c.in-Some.ensures.steps c.loop-seat.invariant (search rules)
