use Rattle.std.proofs.Common.{◌≤◌, ◌-◌}
use Rattle.task_owner.specs.Family.{FreedBelow}
use Rattle.task_owner.proofs.freed.free_subpools.Given as goal

abbrev pub invariant-subpools : goal.invariant-subpools
invariant-subpools l = record {
  within : l.from ≤ 4098;
  freed : FreedBelow l.fn.active l.fn.owned.items l.freed l.from l.active l.owned.items;
}

abbrev pub decreases-subpools : goal.decreases-subpools
decreases-subpools l = 4098 - l.from
