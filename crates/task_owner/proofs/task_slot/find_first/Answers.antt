use Rattle.std.proofs.Common.{rules, ◌∙◌}
use Rattle.task_owner.proofs.Found.{unseen_all, unseen_first, unseen_rest}
use Rattle.task_owner.proofs.task_slot.find_first.Goals as goal

pub loop-key-init : goal.loop-key-init
loop-key-init c = unseen_all _ _ _ (c.into_iter-key-iterator.ensures.into_iter_gives ∙ c.iter-key-items.ensures.rest)

pub returns-then-is_none : goal.returns-then-is_none
returns-then-is_none c = (c.in-Some.seat.now, unseen_first _ _ _ _ _ _ c.in-Some.ensures.steps c.loop-key.invariant, search rules)

pub loop-key-preserved : goal.loop-key-preserved
loop-key-preserved c = unseen_rest _ _ _ _ _ _ c.in-Some.ensures.steps c.loop-key.invariant (search rules)
