use Rattle.mvs_laws.proofs.TidyGiven as lemmas
use Rattle.mvs_laws.proofs.laws.given_ends.Goals as goal

pub returns : goal.returns
returns c = lemmas.given_ends
