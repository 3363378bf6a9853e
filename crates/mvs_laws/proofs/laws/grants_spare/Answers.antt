use Rattle.mvs_laws.proofs.Owned as lemmas
use Rattle.mvs_laws.proofs.laws.grants_spare.Goals as goal

pub returns : goal.returns
returns c = lemmas.grants_spare
