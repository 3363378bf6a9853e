use Rattle.std.proofs.Common.{◌≡◌, Some}
use Rattle.task_owner.specs.Seats.{number_of}
use Rattle.task_owner.proofs.Found.{Unseen}
use Rattle.task_owner.proofs.freed.is_held.Given as goal

abbrev pub invariant-loop-seat : goal.invariant-loop-seat
invariant-loop-seat l = Unseen l.active (λ x. number_of x l.number ≡ Some l.subpool) l.seat-iterator
