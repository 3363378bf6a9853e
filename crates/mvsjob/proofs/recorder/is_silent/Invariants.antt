use Rattle.std.proofs.Common.{length}
use Rattle.mvsjob.proofs.recorder.is_silent.Given as goal

abbrev pub decreases-lines : goal.decreases-lines
decreases-lines l = length l.rest
