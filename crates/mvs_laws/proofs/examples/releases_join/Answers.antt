use Rattle.mvs_laws.proofs.SmallLaws.{releases_join as law}
use Rattle.mvs_laws.proofs.examples.releases_join.Goals as goal

pub returns : goal.returns
returns c = law
