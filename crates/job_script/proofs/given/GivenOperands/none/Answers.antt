use Rattle.std.proofs.Common.{refl}
use Rattle.job_script.proofs.Taking.{nothing_given}
use Rattle.job_script.proofs.given.GivenOperands.none.Goals as goal

pub returns-clause-given : goal.returns-clause-given
returns-clause-given c = nothing_given _ c.keywords.ensures.row refl refl refl refl
