use Rattle.mvs_laws.proofs.SmallLaws.{small_part as law}
use Rattle.mvs_laws.proofs.examples.small_part.Goals as goal

pub returns : goal.returns
returns c = law
