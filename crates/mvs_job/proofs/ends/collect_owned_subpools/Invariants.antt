use Rattle.std.proofs.Common.{◌≡◌, ◌≤◌, ◌-◌, length}
use Rattle.mvs_model.specs.Reports.{each_below}
use Rattle.request_forms.specs.Facts.{listed, owned_at}
use Rattle.mvs_job.proofs.ends.collect_owned_subpools.Given as goal

abbrev pub invariant-loop-next : goal.invariant-loop-next
invariant-loop-next l = record {
  low : l.from ≤ 4098;
  few : length l.subpools ≤ l.from;
  each : l.subpools ≡ each_below l.from (λ s. listed (owned_at l.fn.job.state l.fn.task s));
}

abbrev pub decreases-loop-next : goal.decreases-loop-next
decreases-loop-next l = 4098 - l.from
