use Rattle.std.proofs.Common.{length}
use Rattle.area_history.proofs.events.StorageEvents.+push_released.Given as goal

abbrev pub decreases-push_released : goal.decreases-push_released
decreases-push_released l = length l.places.now
