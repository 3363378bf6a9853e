use Rattle.std.proofs.Common.{length}
use Rattle.mvs_c.proofs.effects.+push_areas.Given as goal

abbrev pub decreases-push_areas : goal.decreases-push_areas
decreases-push_areas l = length l.places.now
