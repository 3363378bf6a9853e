use Rattle.std.proofs.Common.{◌≤◌, ◌-◌}
use Rattle.task_owner.specs.Seats.{item_at}
use Rattle.task_owner.specs.Handing.{with_shared}
use Rattle.task_owner.specs.Family.{MadeBelow}
use Rattle.task_owner.proofs.handing.share.Given as goal

abbrev pub invariant-shared : goal.invariant-shared
invariant-shared l = record {
  within : l.from ≤ 128;
  made : MadeBelow (item_at l.initial.subtask) (with_shared l.gifts l.numbers l.initial.subtask) l.from (item_at l.subtask);
}

abbrev pub decreases-shared : goal.decreases-shared
decreases-shared l = 128 - l.from
