use Rattle.mvs_laws.proofs.EitherWay as lemmas
use Rattle.mvs_laws.proofs.laws.list_either_way.Goals as goal

pub returns : goal.returns
returns c = lemmas.list_either_way
