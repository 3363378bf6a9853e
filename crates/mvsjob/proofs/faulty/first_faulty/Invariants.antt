use Rattle.std.proofs.Common.{◌+◌, ◌-◌, ◌≤◌, length}
use Rattle.mvsjob.proofs.Faulting.{Passed}
use Rattle.mvsjob.proofs.faulty.first_faulty.Given as goal

abbrev pub invariant-lines : goal.invariant-lines
invariant-lines l = record {
  passed : Passed l.text l.number l.first l.at l.passed l.is_first;
  within : l.at ≤ length l.text + 1;
}

abbrev pub decreases-lines : goal.decreases-lines
decreases-lines l = length l.text - l.at
