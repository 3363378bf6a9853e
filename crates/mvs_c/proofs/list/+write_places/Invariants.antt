use Rattle.std.proofs.Common.{length}
use Rattle.mvs_c.proofs.list.+write_places.Given as goal

abbrev pub decreases-write_places : goal.decreases-write_places
decreases-write_places l = length l.places.now
