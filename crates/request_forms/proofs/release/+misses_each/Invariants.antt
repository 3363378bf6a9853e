use Rattle.std.proofs.Common.{length}
use Rattle.request_forms.proofs.release.+misses_each.Given as goal

abbrev pub decreases-misses_each : goal.decreases-misses_each
decreases-misses_each l = length l.others.now
