use Rattle.std.proofs.Common.{length}
use Rattle.request_forms.proofs.unreleased.+first_off.Given as goal

abbrev pub decreases-first_off : goal.decreases-first_off
decreases-first_off l = length l.places.now
