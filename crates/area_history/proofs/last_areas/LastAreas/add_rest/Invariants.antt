use Rattle.std.proofs.Common.{◌-◌, length}
use Rattle.area_history.specs.LastAreas.{IsIndexOf}
use Rattle.area_history.proofs.last_areas.LastAreas.add_rest.Given as goal

abbrev pub invariant-grants : goal.invariant-grants
invariant-grants l = record { index : IsIndexOf l.self l.grants }

abbrev pub decreases-grants : goal.decreases-grants
decreases-grants l = length l.grants - l.self.count
