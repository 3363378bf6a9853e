use Rattle.std.proofs.Common.{length}
use Rattle.judge.proofs.kinds.+asks_each.Given as goal

abbrev pub decreases-asks_each : goal.decreases-asks_each
decreases-asks_each l = length l.areas.now
