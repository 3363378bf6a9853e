use Rattle.std.proofs.Common.{length}
use Rattle.request_forms.proofs.release.+holds_each.Given as goal

abbrev pub decreases-holds_each : goal.decreases-holds_each
decreases-holds_each l = length l.places.now
