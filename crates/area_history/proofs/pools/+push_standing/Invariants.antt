use Rattle.std.proofs.Common.{length}
use Rattle.area_history.proofs.pools.+push_standing.Given as goal

abbrev pub decreases-push_standing : goal.decreases-push_standing
decreases-push_standing g l = length l.pools.now
