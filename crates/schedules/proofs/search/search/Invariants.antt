use Rattle.std.proofs.Common.{◌≤◌}
use Rattle.schedules.specs.Searching.{IsSearchedSoFar, weights}
use Rattle.schedules.proofs.search.search.Given as goal

abbrev pub invariant-branches : goal.invariant-branches
invariant-branches l = record {
  so_far : IsSearchedSoFar l.lines l.fn.start.walk.value l.fn.start.left.items l.stack.items l.tally l.outcomes;
  most : l.tally.schedules ≤ l.most;
}

abbrev pub decreases-branches : goal.decreases-branches
decreases-branches l = weights l.stack.items
