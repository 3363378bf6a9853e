use Rattle.mvs_laws.proofs.SmallLaws.{parts_released as law}
use Rattle.mvs_laws.proofs.examples.parts_released.Goals as goal

pub returns : goal.returns
returns c = law
