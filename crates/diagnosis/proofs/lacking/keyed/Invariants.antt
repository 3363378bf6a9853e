use Rattle.std.proofs.Common.{length}
use Rattle.diagnosis.proofs.lacking.keyed.Given as goal

abbrev pub decreases-operands : goal.decreases-operands
decreases-operands l = length l.rest
