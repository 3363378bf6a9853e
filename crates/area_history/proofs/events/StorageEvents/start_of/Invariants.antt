use Rattle.std.proofs.Common.{◌≡◌, ◌≤◌, length, drop, None}
use Rattle.area_history.specs.Histories.{last_attach}
use Rattle.area_history.proofs.events.StorageEvents.start_of.Given as goal

abbrev pub invariant-events : goal.invariant-events
invariant-events l = record {
  within : l.rest ≤ length l.self;
  none : last_attach l.task (drop l.rest l.self) ≡ None;
}

abbrev pub decreases-events : goal.decreases-events
decreases-events l = l.rest
