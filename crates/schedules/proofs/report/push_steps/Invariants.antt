use Rattle.std.proofs.Common.{◌≡◌, ◌≤◌, ◌++◌, drop}
use Rattle.schedules.specs.Reports.{report_from}
use Rattle.schedules.proofs.report.push_steps.Given as goal

abbrev pub invariant-loop-line : goal.invariant-loop-line
invariant-loop-line l = record {
  few : l.begun ≤ l.line-index;
  rest : l.report.items ++ report_from l.steps l.begun (drop l.line-index l.lines) ≡ l.initial.report.items ++ report_from l.steps 0 l.lines;
}
