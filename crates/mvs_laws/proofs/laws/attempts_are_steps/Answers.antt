use Rattle.mvs_laws.proofs.Refusals as lemmas
use Rattle.mvs_laws.proofs.laws.attempts_are_steps.Goals as goal

pub returns : goal.returns
returns c = lemmas.attempts_are_steps
