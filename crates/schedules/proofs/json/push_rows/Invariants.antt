use Rattle.std.proofs.Common.{◌≡◌, ◌++◌, drop, true}
use Rattle.schedules.specs.JsonReports.{rows_json}
use Rattle.schedules.proofs.json.push_rows.Given as goal

abbrev pub invariant-loop-row : goal.invariant-loop-row
invariant-loop-row l =
    l.report.items ++ rows_json l.line l.step l.first (drop l.row-index l.step.tally.rows.items) ≡ l.initial.report.items ++ rows_json l.line l.step true l.step.tally.rows.items
