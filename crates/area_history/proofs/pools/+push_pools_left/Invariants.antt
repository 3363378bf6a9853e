use Rattle.std.proofs.Common.{length}
use Rattle.area_history.proofs.pools.+push_pools_left.Given as goal

abbrev pub decreases-push_pools_left : goal.decreases-push_pools_left
decreases-push_pools_left g l = length l.pools.now
