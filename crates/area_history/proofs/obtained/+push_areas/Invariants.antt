use Rattle.std.proofs.Common.{length}
use Rattle.area_history.proofs.obtained.+push_areas.Given as goal

abbrev pub decreases-push_areas : goal.decreases-push_areas
decreases-push_areas l = length l.areas.now
