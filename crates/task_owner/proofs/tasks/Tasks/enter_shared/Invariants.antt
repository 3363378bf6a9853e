use Rattle.std.proofs.Common.{◌≤◌, ◌-◌}
use Rattle.task_owner.specs.Handing.{SharesBelow}
use Rattle.task_owner.proofs.tasks.Tasks.enter_shared.Given as goal

abbrev pub invariant-shared : goal.invariant-shared
invariant-shared l = record {
  within : l.from ≤ 128;
  shared : SharesBelow l.fn.self l.mother l.gifts l.from l.self;
}

abbrev pub decreases-shared : goal.decreases-shared
decreases-shared l = 128 - l.from
