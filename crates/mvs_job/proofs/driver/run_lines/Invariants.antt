use Rattle.std.proofs.Common.{◌≡◌, ◌+◌, ◌-◌, ◌≤◌, drop, length}
use Rattle.mvs_job.proofs.Looping.{IsAt}
use Rattle.mvs_job.proofs.driver.run_lines.Given as goal

abbrev pub invariant-lines : goal.invariant-lines
invariant-lines g l = record {
  at : IsAt g.C.Consumer.piece (g.C.Consumer.knows l.initial.consumer) (g.W.Write.contents l.initial.writer.inner) (g.W.Write.contents l.writer.inner) l.script (drop l.at l.script) l.walk l.consumer;
  within : l.at ≤ length l.script + 1;
  number : l.walk.number ≤ l.at + 1;
  same : l.writer.failed ≡ l.initial.writer.failed;
}

abbrev pub decreases-lines : goal.decreases-lines
decreases-lines g l = length l.script - l.at
