use Rattle.std.proofs.Common.{◌≡◌, ◌-◌, ◌≤◌}
use Rattle.mvs_job.proofs.Mapping.{SoFar}
use Rattle.mvs_job.proofs.reports.print_map.Given as goal

abbrev pub invariant-runs : goal.invariant-runs
invariant-runs g l = record {
  so_far : SoFar l.line_number l.job.state l.task (g.W.Write.contents l.initial.writer.inner) (g.W.Write.contents l.writer.inner) l.from;
  low : l.from ≤ 0x3000000;
  same : l.writer.failed ≡ l.initial.writer.failed;
}

abbrev pub decreases-runs : goal.decreases-runs
decreases-runs g l = 0x3000000 - l.from
