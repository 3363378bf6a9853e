use Rattle.mvs_laws.proofs.SmallLaws.{above_on_a_tie as law}
use Rattle.mvs_laws.proofs.examples.above_on_a_tie.Goals as goal

pub returns : goal.returns
returns c = law
