use Rattle.std.proofs.Common.{◌≡◌, ℕ, ◌<◌, ◌≤◌, None}
use Rattle.task_owner.specs.Seats.{item_at}
use Rattle.task_owner.proofs.task_slot.first_owned.Given as goal

abbrev pub invariant-loop-s : goal.invariant-loop-s
invariant-loop-s l = (r : ℕ) → l.fn.from ≤ r → r < l.s → item_at l.fn.owned r ≡ None
