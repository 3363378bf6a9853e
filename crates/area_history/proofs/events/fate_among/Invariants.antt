use Rattle.std.proofs.Common.{◌-◌, ◌≤◌}
use Rattle.area_history.specs.ReleaseIndex.{IsAmong}
use Rattle.area_history.proofs.events.fate_among.Given as goal

abbrev pub invariant-changes : goal.invariant-changes
invariant-changes l = record {
  after : l.first ≤ l.from;
  among : IsAmong l.doubleword l.grant l.owner l.events l.from l.end;
}

abbrev pub decreases-changes : goal.decreases-changes
decreases-changes l = l.end - l.from
