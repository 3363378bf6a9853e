use Rattle.std.proofs.Common.{◌-◌, ◌≤◌, length}
use Rattle.area_history.specs.ReleaseIndex.{AreEarlier}
use Rattle.area_history.proofs.events.first_after.Given as goal

abbrev pub invariant-halves : goal.invariant-halves
invariant-halves l = record {
  order : l.start ≤ l.end;
  within : l.end ≤ length l.events;
  early : AreEarlier l.line l.events l.start;
}

abbrev pub decreases-halves : goal.decreases-halves
decreases-halves l = l.end - l.start
