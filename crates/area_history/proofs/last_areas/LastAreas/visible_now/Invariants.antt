use Rattle.std.proofs.Common.{◌≤◌, ◌-◌, ◌++◌, length, drop}
use Rattle.area_history.specs.LastAreas.{AreVisible}
use Rattle.area_history.proofs.last_areas.LastAreas.visible_now.Given as goal

abbrev pub invariant-areas : goal.invariant-areas
invariant-areas l = record {
  within : l.done ≤ length l.numbers;
  kept : AreVisible l.self l.grants 0 (l.kept.items ++ drop l.done l.numbers) l.self.count;
}

abbrev pub decreases-areas : goal.decreases-areas
decreases-areas l = length l.numbers - l.done
