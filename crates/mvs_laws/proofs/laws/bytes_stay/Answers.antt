use Rattle.mvs_laws.proofs.Sparing as lemmas
use Rattle.mvs_laws.proofs.laws.bytes_stay.Goals as goal

pub returns : goal.returns
returns c = lemmas.bytes_stay
