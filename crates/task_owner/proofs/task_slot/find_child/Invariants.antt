use Rattle.std.proofs.Common.{◌≡◌, Some}
use Rattle.task_owner.proofs.Found.{Unseen}
use Rattle.task_owner.proofs.task_slot.find_child.Given as goal

abbrev pub invariant-loop-seat : goal.invariant-loop-seat
invariant-loop-seat l = Unseen l.active (λ x. x.mother ≡ Some l.mother) l.seat-iterator
