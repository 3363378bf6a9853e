use Rattle.std.proofs.Common.{◌≡◌, ◌+◌, ◌-◌, ◌≤◌, ◌++◌, drop, length}
use Rattle.mvs_model.specs.Lines.{lines_of}
use Rattle.schedules.specs.Reports.{further}
use Rattle.schedules.proofs.report.push_further.Given as goal

abbrev pub invariant-lines : goal.invariant-lines
invariant-lines l = record {
  within : l.at ≤ length l.text + 1;
  rest : l.report.items ++ further l.number (lines_of (drop l.at l.text)) ≡ l.initial.report.items ++ further l.number (lines_of l.text);
}

abbrev pub decreases-lines : goal.decreases-lines
decreases-lines l = length l.text - l.at
