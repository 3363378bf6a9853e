use Rattle.std.proofs.Common.{◌-◌, ◌≤◌, length}
use Rattle.expected_answers.proofs.Arrows.{NoneTo}
use Rattle.expected_answers.proofs.lines.arrow_in.Given as goal

abbrev pub invariant-heads : goal.invariant-heads
invariant-heads l = record {
  within : l.from ≤ length l.line;
  none : NoneTo l.line l.from;
}

abbrev pub decreases-heads : goal.decreases-heads
decreases-heads l = length l.line - l.from
