use Rattle.std.proofs.Common.{◌≡◌, ◌++◌, drop}
use Rattle.schedules.specs.Filling.{outcome_from}
use Rattle.schedules.proofs.outcomes.outcome_of.Given as goal

abbrev pub invariant-loop-index : goal.invariant-loop-index
invariant-loop-index l = l.outcome.items ++ outcome_from l.index (drop l.index l.rows) l.schedule ≡ outcome_from 0 l.rows l.schedule
