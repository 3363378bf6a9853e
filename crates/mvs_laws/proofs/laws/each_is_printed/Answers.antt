use Rattle.mvs_laws.proofs.Going as lemmas
use Rattle.mvs_laws.proofs.laws.each_is_printed.Goals as goal

pub returns : goal.returns
returns c = lemmas.each_is_printed
