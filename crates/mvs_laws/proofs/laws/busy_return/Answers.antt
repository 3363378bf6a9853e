use Rattle.mvs_laws.proofs.TidyBusy as lemmas
use Rattle.mvs_laws.proofs.laws.busy_return.Goals as goal

pub returns : goal.returns
returns c = lemmas.busy_return
