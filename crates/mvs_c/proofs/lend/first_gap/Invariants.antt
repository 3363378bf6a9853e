use Rattle.std.proofs.Common.{◌<◌, ◌≤◌, ◌-◌}
use Rattle.mvs_c.specs.Lending.{AllGranted}
use Rattle.mvs_c.proofs.lend.first_gap.Given as goal

abbrev pub invariant-halves : goal.invariant-halves
invariant-halves l = record {
  from : l.from ≤ l.end;
  some : l.end < l.gap;
  to : l.gap ≤ l.to;
  readable : AllGranted l.job.state l.from l.end;
  stops : AllGranted l.job.state l.end l.gap → ⊥;
}

abbrev pub decreases-halves : goal.decreases-halves
decreases-halves l = l.gap - l.end
