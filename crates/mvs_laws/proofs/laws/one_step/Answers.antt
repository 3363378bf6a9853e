use Rattle.mvs_model.proofs.OneSteps as steps
use Rattle.mvs_laws.proofs.laws.one_step.Goals as goal

pub returns : goal.returns
returns c = steps.one_step
