use Rattle.mvs_laws.proofs.Taking as lemmas
use Rattle.mvs_laws.proofs.laws.taking_obeys.Goals as goal

pub returns : goal.returns
returns c = lemmas.taking_obeys
