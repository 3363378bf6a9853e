use Rattle.mvs_laws.proofs.Determined as runs
use Rattle.mvs_laws.proofs.laws.hints_decide.Goals as goal

pub returns : goal.returns
returns c = runs.hints_decide
