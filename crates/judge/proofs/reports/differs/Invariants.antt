use Rattle.std.proofs.Common.{◌≡◌, ◌≤◌, ◌+◌, ◌-◌, length, take}
use Rattle.judge.specs.Reporting.{undigited}
use Rattle.judge.proofs.reports.differs.Given as goal

abbrev pub invariant-bytes : goal.invariant-bytes
invariant-bytes l = record {
  same : undigited (take l.at l.text) ≡ undigited (take l.done l.front);
  at : l.at ≤ length l.text;
  done : l.done ≤ length l.front;
}

abbrev pub decreases-bytes : goal.decreases-bytes
decreases-bytes l = (length l.text - l.at) + (length l.front - l.done)
