use Rattle.mvs_laws.proofs.Refusals as lemmas
use Rattle.mvs_laws.proofs.laws.one_refusal.Goals as goal

pub returns : goal.returns
returns c = lemmas.one_refusal
