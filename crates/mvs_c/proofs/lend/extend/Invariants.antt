use Rattle.std.proofs.Common.{◌≤◌, ◌-◌, ◌^◌}
use Rattle.mvs_c.specs.Lending.{AllGranted}
use Rattle.mvs_c.proofs.lend.extend.Given as goal

abbrev pub invariant-pieces : goal.invariant-pieces
invariant-pieces l = record {
  from : l.address ≤ l.end;
  low : l.end ≤ 2 ^ 31;
  readable : AllGranted l.job.state l.address l.end;
}

abbrev pub decreases-pieces : goal.decreases-pieces
decreases-pieces l = 2 ^ 31 - l.end
