use Rattle.std.proofs.Common.{length}
use Rattle.job_script.proofs.Taking.{TakesOn}
use Rattle.job_script.proofs.given.GivenOperands.take_all.Given as goal

abbrev pub invariant-operands : goal.invariant-operands
invariant-operands l = TakesOn l.initial.self l.self l.field l.rest

abbrev pub decreases-operands : goal.decreases-operands
decreases-operands l = length l.rest
