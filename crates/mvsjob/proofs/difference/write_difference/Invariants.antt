use Rattle.std.proofs.Common.{length}
use Rattle.mvsjob.proofs.difference.write_difference.Given as goal

abbrev pub decreases-lines : goal.decreases-lines
decreases-lines g l = length l.left
