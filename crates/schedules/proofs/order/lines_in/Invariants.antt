use Rattle.std.proofs.Common.{◌≡◌, ◌+◌, ◌-◌, ◌≤◌, ◌++◌, drop, length, map}
use Rattle.mvs_model.specs.Lines.{lines_of}
use Rattle.schedules.proofs.order.lines_in.Given as goal

abbrev pub invariant-lines : goal.invariant-lines
invariant-lines l = record {
  lines : map (λ x. x.now) l.lines.items ++ lines_of (drop l.at l.script) ≡ lines_of l.script;
  within : l.at ≤ length l.script + 1;
  count : length l.lines.items ≤ l.at;
}

abbrev pub decreases-lines : goal.decreases-lines
decreases-lines l = length l.script - l.at
