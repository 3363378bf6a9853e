use Rattle.std.proofs.Common.{length}
use Rattle.request_forms.proofs.unreleased.+overlap.Given as goal

abbrev pub decreases-overlap : goal.decreases-overlap
decreases-overlap l = length l.places.now
