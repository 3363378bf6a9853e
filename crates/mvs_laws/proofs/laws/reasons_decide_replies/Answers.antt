use Rattle.mvs_laws.proofs.Refusals as lemmas
use Rattle.mvs_laws.proofs.laws.reasons_decide_replies.Goals as goal

pub returns : goal.returns
returns c = lemmas.reasons_decide_replies
