use Rattle.std.proofs.Common.{◌≡◌, ◌-◌, drop, length}
use Rattle.schedules.specs.Reports.{has_two}
use Rattle.schedules.proofs.report.has_two.Given as goal

abbrev pub invariant-rows : goal.invariant-rows
invariant-rows l = has_two (drop l.at l.rows) ≡ has_two l.rows

abbrev pub decreases-rows : goal.decreases-rows
decreases-rows l = length l.rows - l.at
