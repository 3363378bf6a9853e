use Rattle.std.proofs.Common.{length}
use Rattle.request_forms.proofs.release.+take_back_each.Given as goal

abbrev pub decreases-take_back_each : goal.decreases-take_back_each
decreases-take_back_each l = length l.places.now
