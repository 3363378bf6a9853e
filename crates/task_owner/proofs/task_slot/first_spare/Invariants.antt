use Rattle.std.proofs.Common.{ℕ, ◌<◌, IsSome}
use Rattle.task_owner.specs.Seats.{item_at}
use Rattle.task_owner.proofs.task_slot.first_spare.Given as goal

abbrev pub invariant-loop-s : goal.invariant-loop-s
invariant-loop-s l = (r : ℕ) → r < l.s → IsSome (item_at l.owned r)
