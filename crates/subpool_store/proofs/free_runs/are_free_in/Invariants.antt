use Rattle.std.proofs.Common.{◌-◌, ◌+◌, ◌*◌, ◌≤◌}
use Rattle.subpool_store.specs.Memory.{IsCursor}
use Rattle.subpool_store.proofs.free_runs.are_free_in.Given as goal

abbrev pub invariant-runs : goal.invariant-runs
invariant-runs l = record {
  low : 512 * l.page ≤ l.at;
  before : l.at ≤ l.from;
  queue : IsCursor l.memory l.page l.at l.queue;
}

abbrev pub decreases-runs : goal.decreases-runs
decreases-runs l = 512 * l.page + 512 - l.at
