use Rattle.std.proofs.Common.{◌≡◌, ◌++◌, drop, map, take}
use Rattle.schedules.specs.Tallies.{counted}
use Rattle.schedules.proofs.tally.count_rows.Given as goal

abbrev pub invariant-loop-row : goal.invariant-loop-row
invariant-loop-row l = l.rows ≡ map (counted l.schedule) (take l.row-index l.initial.rows) ++ drop l.row-index l.initial.rows
