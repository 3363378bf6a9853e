use Rattle.mvs_laws.proofs.SmallLaws.{sharers_keep as law}
use Rattle.mvs_laws.proofs.examples.sharers_keep.Goals as goal

pub returns : goal.returns
returns c = law
