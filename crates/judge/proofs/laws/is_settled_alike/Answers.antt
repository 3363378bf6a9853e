use Rattle.judge.proofs.SettledBy.{settled_law}
use Rattle.judge.proofs.laws.is_settled_alike.Goals as goal

pub returns : goal.returns
returns c = settled_law
