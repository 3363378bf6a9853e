use Rattle.std.proofs.Common.{◌≡◌, ◌-◌, ◌≤◌}
use Rattle.std.specs.Prelude.{MatchOption}
use Rattle.std.specs.Io.KnownBytes.{Appends}
use Rattle.request_forms.specs.Reports.{HasNone, IsSubpoolLine}
use Rattle.mvs_job.proofs.Numbers.{numbers_text}
use Rattle.mvs_job.proofs.reports.print_numbers.Given as goal

abbrev pub invariant-lines : goal.invariant-lines
invariant-lines g l = record {
  so_far : Appends (g.W.Write.contents l.initial.writer.inner) (g.W.Write.contents l.writer.inner) (numbers_text l.line_number l.job.state l.task l.from);
  low : l.from ≤ 133;
  found : MatchOption l.next (HasNone l.job.state.owners l.task l.from 133) (IsSubpoolLine l.job.state l.task l.from);
  same : l.writer.failed ≡ l.initial.writer.failed;
}

abbrev pub decreases-lines : goal.decreases-lines
decreases-lines g l = 133 - l.from
