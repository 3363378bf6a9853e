use Rattle.std.proofs.Common.{◌≡◌, ◌≤◌, ◌+◌, ◌*◌, ◌^◌, ℕ, length, take, drop}
use Rattle.area_history.specs.Leaking.{has_room, is_covered, is_marked, leaks, ranked, selects, total}
use Rattle.area_history.specs.Totals.{AreWithin, by_subpool, by_task}
use Rattle.area_history.proofs.tally.tally.Given as goal

abbrev pub invariant-grants : goal.invariant-grants
invariant-grants g l = record {
  within : l.rest ≤ length l.grants;
  few : l.found.count + l.rest ≤ length l.grants;
  largest : l.found.largest ≡ take 10 (ranked (leaks (selects l.which) (g.P.Holdings.plain l.step) (drop l.rest l.grants)));
  count : l.found.count ≡ length (leaks (selects l.which) (g.P.Holdings.plain l.step) (drop l.rest l.grants));
  bytes : l.found.bytes ≡ total (leaks (selects l.which) (g.P.Holdings.plain l.step) (drop l.rest l.grants));
  most : l.found.bytes ≤ 2 ^ 31 * l.found.count;
  subpools : l.found.subpools ≡ take 10 (by_subpool (leaks (selects l.which) (g.P.Holdings.plain l.step) (drop l.rest l.grants)));
  tasks : l.found.tasks ≡ take 10 (by_task (leaks (selects l.which) (g.P.Holdings.plain l.step) (drop l.rest l.grants)));
  within_subpools : AreWithin l.found.count l.found.subpools;
  within_tasks : AreWithin l.found.count l.found.tasks;
  marks : (d : ℕ) → is_marked l.marks d ≡ is_covered (drop l.rest l.grants) d;
  room : (d : ℕ) → has_room l.marks d ≡ has_room l.initial.marks d;
}

abbrev pub decreases-grants : goal.decreases-grants
decreases-grants g l = l.rest
