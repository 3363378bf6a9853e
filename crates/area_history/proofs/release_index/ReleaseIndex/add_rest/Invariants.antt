use Rattle.std.proofs.Common.{◌-◌, length}
use Rattle.area_history.specs.ReleaseIndex.{IsReleaseIndex}
use Rattle.area_history.proofs.release_index.ReleaseIndex.add_rest.Given as goal

abbrev pub invariant-events : goal.invariant-events
invariant-events l = record { index : IsReleaseIndex l.self l.events }

abbrev pub decreases-events : goal.decreases-events
decreases-events l = length l.events - l.self.count
