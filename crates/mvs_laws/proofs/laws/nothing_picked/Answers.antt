use Rattle.mvs_model.proofs.OneSteps as steps
use Rattle.mvs_laws.proofs.laws.nothing_picked.Goals as goal

pub returns : goal.returns
returns c = steps.nothing_picked
