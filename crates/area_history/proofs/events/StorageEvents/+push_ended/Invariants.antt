use Rattle.std.proofs.Common.{length}
use Rattle.area_history.proofs.events.StorageEvents.+push_ended.Given as goal

abbrev pub decreases-push_ended : goal.decreases-push_ended
decreases-push_ended l = length l.ended.now
