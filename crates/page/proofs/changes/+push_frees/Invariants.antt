use Rattle.std.proofs.Common.{length}
use Rattle.page.proofs.changes.+push_frees.Given as goal

abbrev pub decreases-push_frees : goal.decreases-push_frees
decreases-push_frees l = length l.places.now
