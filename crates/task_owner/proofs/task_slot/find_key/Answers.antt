use Rattle.std.proofs.Common.{sym, ◌∙◌}
use Rattle.task_owner.proofs.Found.{one_name, two_names, unseen_all, unseen_first, unseen_none, unseen_rest}
use Rattle.task_owner.proofs.task_slot.find_key.Goals as goal

pub loop-key-init : goal.loop-key-init
loop-key-init c = unseen_all _ _ _ (c.into_iter-key-iterator.ensures.into_iter_gives ∙ c.iter-key-items.ensures.rest)

pub returns-then-eq : goal.returns-then-eq
returns-then-eq c = (c.in-Some.seat.now, unseen_first _ _ _ _ _ _ c.in-Some.ensures.steps c.loop-key.invariant, one_name c.in-Some.seat.now.name c.args.name (sym c.eq.ensures ∙ c.if-eq.true))

pub loop-key-preserved : goal.loop-key-preserved
loop-key-preserved c = unseen_rest _ _ _ _ _ _ c.in-Some.ensures.steps c.loop-key.invariant (two_names c.in-Some.seat.now.name c.args.name (sym c.eq.ensures ∙ c.if-eq.false))

pub returns : goal.returns
returns c = unseen_none _ _ _ c.in-None.ensures.steps.0 c.loop-key.invariant
