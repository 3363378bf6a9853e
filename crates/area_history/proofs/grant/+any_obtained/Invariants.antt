use Rattle.std.proofs.Common.{length}
use Rattle.area_history.proofs.grant.+any_obtained.Given as goal

abbrev pub decreases-any_obtained : goal.decreases-any_obtained
decreases-any_obtained l = length l.tasks.now
