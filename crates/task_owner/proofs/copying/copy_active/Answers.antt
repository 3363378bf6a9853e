use Rattle.std.proofs.Common.{◌∙◌, ap, arith, rules, count_by, is_some}
use Rattle.task_owner.proofs.SlotsCopied.{same_slots}
use Rattle.task_owner.proofs.copying.copy_active.Goals as goal

pub overflow_sub-spare : goal.overflow_sub-spare
overflow_sub-spare c = omega (arith, c.requires, c.len-spare.ensures, ap (count_by is_some) (same_slots c.args.active.now.slots c.in_ok-copy.copy.slots (search rules)))

pub returns-clause-slots : goal.returns-clause-slots
returns-clause-slots c = ap (λ copy. copy.slots) c.reserve_exact.ensures.rest_kept ∙ same_slots c.args.active.now.slots c.in_ok-copy.copy.slots (search rules)
