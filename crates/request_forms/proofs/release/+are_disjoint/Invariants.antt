use Rattle.std.proofs.Common.{length}
use Rattle.request_forms.proofs.release.+are_disjoint.Given as goal

abbrev pub decreases-are_disjoint : goal.decreases-are_disjoint
decreases-are_disjoint l = length l.places.now
