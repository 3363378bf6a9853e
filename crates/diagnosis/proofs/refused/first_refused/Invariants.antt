use Rattle.std.proofs.Common.{length}
use Rattle.diagnosis.proofs.Places.{ContinuesRun}
use Rattle.diagnosis.proofs.refused.first_refused.Given as goal

abbrev pub invariant-operands : goal.invariant-operands
invariant-operands l = ContinuesRun l.initial.given l.given l.field l.rest l.at

abbrev pub decreases-operands : goal.decreases-operands
decreases-operands l = length l.rest
