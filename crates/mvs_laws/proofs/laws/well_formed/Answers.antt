use Rattle.mvs_laws.proofs.Owned as lemmas
use Rattle.mvs_laws.proofs.laws.well_formed.Goals as goal

pub returns : goal.returns
returns c = lemmas.well_formed
