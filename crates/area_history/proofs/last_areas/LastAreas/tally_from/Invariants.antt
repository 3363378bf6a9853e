use Rattle.std.proofs.Common.{◌≤◌, ◌+◌, ◌*◌, ◌^◌, length, take}
use Rattle.area_history.specs.LastAreas.{IsTallied}
use Rattle.area_history.specs.Leaking.{selects}
use Rattle.area_history.specs.Totals.{AreWithin}
use Rattle.area_history.proofs.last_areas.LastAreas.tally_from.Given as goal

abbrev pub invariant-areas : goal.invariant-areas
invariant-areas g l = record {
  within : l.rest ≤ length l.numbers;
  few : l.found.count + l.rest ≤ length l.numbers;
  tallied : IsTallied l.self l.grants (selects l.which) (g.P.Holdings.plain l.step) (take l.rest l.numbers) l.found;
  after : l.first ≤ tallied.from;
  most : l.found.bytes ≤ 2 ^ 31 * l.found.count;
  within_subpools : AreWithin l.found.count l.found.subpools;
  within_tasks : AreWithin l.found.count l.found.tasks;
}

abbrev pub decreases-areas : goal.decreases-areas
decreases-areas g l = l.rest
