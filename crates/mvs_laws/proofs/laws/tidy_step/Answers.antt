use Rattle.mvs_laws.proofs.TidySteps as steps
use Rattle.mvs_laws.proofs.laws.tidy_step.Goals as goal

pub returns : goal.returns
returns c = steps.tidy_step
