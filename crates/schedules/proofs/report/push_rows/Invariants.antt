use Rattle.std.proofs.Common.{◌≡◌, ◌++◌, drop, true}
use Rattle.schedules.specs.Reports.{rows_text}
use Rattle.schedules.proofs.report.push_rows.Given as goal

abbrev pub invariant-loop-row : goal.invariant-loop-row
invariant-loop-row l =
    l.report.items ++ rows_text l.line l.step l.first (drop l.row-index l.step.tally.rows.items) ≡ l.initial.report.items ++ rows_text l.line l.step true l.step.tally.rows.items
