use Rattle.judge.proofs.Alike.{alike_law}
use Rattle.judge.proofs.laws.stays_alike.Goals as goal

pub returns : goal.returns
returns c = alike_law
