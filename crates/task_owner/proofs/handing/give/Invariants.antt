use Rattle.std.proofs.Common.{◌≤◌, ◌-◌}
use Rattle.task_owner.specs.Seats.{item_at}
use Rattle.task_owner.specs.Handing.{left_over, with_given}
use Rattle.task_owner.specs.Family.{MadeBelow}
use Rattle.task_owner.proofs.handing.give.Given as goal

abbrev pub invariant-given : goal.invariant-given
invariant-given l = record {
  within : l.from ≤ 128;
  left : MadeBelow (item_at l.initial.numbers) (left_over l.gifts l.initial.numbers) l.from (item_at l.numbers);
  made : MadeBelow (item_at l.initial.subtask) (with_given l.gifts l.initial.numbers l.initial.subtask) l.from (item_at l.subtask);
}

abbrev pub decreases-given : goal.decreases-given
decreases-given l = 128 - l.from
