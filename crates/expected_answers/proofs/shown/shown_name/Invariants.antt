use Rattle.std.proofs.Common.{◌≡◌, ◌++◌, ◌-◌, ◌≤◌, drop, length}
use Rattle.expected_answers.specs.Reports.{shown_name}
use Rattle.expected_answers.proofs.shown.shown_name.Given as goal

abbrev pub invariant-bytes : goal.invariant-bytes
invariant-bytes l = record {
  within : l.at ≤ length l.name;
  same : l.shown.items ++ shown_name (drop l.at l.name) ≡ shown_name l.name;
}

abbrev pub decreases-bytes : goal.decreases-bytes
decreases-bytes l = length l.name - l.at
