use Rattle.mvs_laws.proofs.FirstFault as lemmas
use Rattle.mvs_laws.proofs.laws.same_fault.Goals as goal

pub returns : goal.returns
returns c = lemmas.same_fault
