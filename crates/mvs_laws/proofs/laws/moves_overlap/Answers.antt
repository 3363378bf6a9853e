use Rattle.mvs_laws.proofs.TidyMoves as lemmas
use Rattle.mvs_laws.proofs.laws.moves_overlap.Goals as goal

pub returns : goal.returns
returns c = lemmas.moves_overlap
