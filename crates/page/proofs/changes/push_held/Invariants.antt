use Rattle.std.proofs.Common.{◌≡◌, ◌≤◌, ◌+◌, ◌++◌, length}
use Rattle.mvs_model.specs.Reports.{each_below}
use Rattle.request_forms.specs.Facts.{listed}
use Rattle.page.specs.Changes.{held_change}
use Rattle.page.proofs.changes.push_held.Given as goal

abbrev pub invariant-loop-n : goal.invariant-loop-n
invariant-loop-n l = record {
  few : length l.changes ≤ length l.initial.changes + l.n;
  each : l.changes ≡ l.initial.changes ++ each_below l.n (λ n. listed (held_change l.job l.mother l.subtask n));
}
