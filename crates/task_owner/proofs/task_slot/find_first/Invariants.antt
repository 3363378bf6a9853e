use Rattle.std.proofs.Common.{◌≡◌, None}
use Rattle.task_owner.proofs.Found.{Unseen}
use Rattle.task_owner.proofs.task_slot.find_first.Given as goal

abbrev pub invariant-loop-key : goal.invariant-loop-key
invariant-loop-key l = Unseen l.active (λ x. x.mother ≡ None) l.key-iterator
