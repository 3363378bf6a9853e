use Rattle.std.proofs.Common.{◌≡◌, ◌+◌, ◌-◌, ◌≤◌, [], drop, length}
use Rattle.mvs_model.specs.Lines.{lines_of}
use Rattle.terminal_session.specs.Sessions.{with_lines}
use Rattle.terminal_session.proofs.keeping.script_of.Given as goal

abbrev pub invariant-lines : goal.invariant-lines
invariant-lines g l = record {
  left : with_lines l.script (lines_of (drop l.at l.text)) ≡ with_lines [] (lines_of l.text);
  within : l.at ≤ length l.text + 1;
}

abbrev pub decreases-lines : goal.decreases-lines
decreases-lines g l = length l.text - l.at
