use Rattle.std.proofs.Common.{length}
use Rattle.job_script.proofs.resolving.+push_places.Given as goal

abbrev pub decreases-push_places : goal.decreases-push_places
decreases-push_places l = length l.locations.now
