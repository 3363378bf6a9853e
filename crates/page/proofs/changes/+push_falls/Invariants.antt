use Rattle.std.proofs.Common.{length}
use Rattle.page.proofs.changes.+push_falls.Given as goal

abbrev pub decreases-push_falls : goal.decreases-push_falls
decreases-push_falls l = length l.fallen.now
