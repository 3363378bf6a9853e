use Rattle.std.proofs.Common.{◌≡◌, ◌≤◌, ◌-◌, length}
use Rattle.mvs_model.specs.Reports.{each_below}
use Rattle.request_forms.specs.Facts.{listed, owned_at}
use Rattle.mvs_c.proofs.owned_list.OwnedList.collect.Given as goal

abbrev pub invariant-loop-next : goal.invariant-loop-next
invariant-loop-next l = record {
  low : l.from ≤ 4098;
  few : length l.self ≤ l.from;
  each : l.self ≡ each_below l.from (λ s. listed (owned_at l.fn.job.state l.fn.task s));
}

abbrev pub decreases-loop-next : goal.decreases-loop-next
decreases-loop-next l = 4098 - l.from
