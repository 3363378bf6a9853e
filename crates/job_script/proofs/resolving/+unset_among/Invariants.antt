use Rattle.std.proofs.Common.{length}
use Rattle.job_script.proofs.resolving.+unset_among.Given as goal

abbrev pub decreases-unset_among : goal.decreases-unset_among
decreases-unset_among l = length l.locations.now
