use Rattle.mvs_laws.proofs.SmallLaws.{gives_and_shares as law}
use Rattle.mvs_laws.proofs.examples.gives_and_shares.Goals as goal

pub returns : goal.returns
returns c = law
