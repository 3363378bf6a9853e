use Rattle.std.proofs.Common.{◌≡◌, ◌≤◌, ◌-◌, length, drop}
use Rattle.area_history.specs.Histories.{fate}
use Rattle.area_history.proofs.events.fate_from.Given as goal

abbrev pub invariant-events : goal.invariant-events
invariant-events l = record {
  within : l.done ≤ length l.events;
  same : fate l.doubleword l.grant l.owner (drop l.done l.events) ≡ fate l.doubleword l.grant l.initial.owner l.events;
}

abbrev pub decreases-events : goal.decreases-events
decreases-events l = length l.events - l.done
