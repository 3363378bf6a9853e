use Rattle.area_history.proofs.Elsewhere.{loc_any_serves_pools}
use Rattle.area_history.proofs.laws.loc_any_serves_pools.Goals as goal

pub returns : goal.returns
returns c = loc_any_serves_pools
