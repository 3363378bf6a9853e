use Rattle.std.proofs.Common.{◌≡◌, ◌≤◌, take}
use Rattle.std.specs.Prelude.{count_by}
use Rattle.schedules.specs.Counting.{is_of_task}
use Rattle.schedules.proofs.counting.count_of.Given as goal

abbrev pub invariant-loop-line : goal.invariant-loop-line
invariant-loop-line l = record {
  count : l.count ≡ count_by (is_of_task l.task) (take l.line-index l.lines);
  few : l.count ≤ l.line-index;
}
