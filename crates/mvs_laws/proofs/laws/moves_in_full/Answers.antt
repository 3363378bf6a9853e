use Rattle.mvs_laws.proofs.InFull as lemmas
use Rattle.mvs_laws.proofs.laws.moves_in_full.Goals as goal

pub returns : goal.returns
returns c = lemmas.moves_in_full
