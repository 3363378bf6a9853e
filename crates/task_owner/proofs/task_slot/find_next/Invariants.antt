use Rattle.task_owner.proofs.NextTasks.{FirstSeen}
use Rattle.task_owner.proofs.task_slot.find_next.Given as goal

abbrev pub invariant-loop-seat : goal.invariant-loop-seat
invariant-loop-seat l = FirstSeen l.active l.given l.seat-iterator l.next
