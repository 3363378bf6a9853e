use Rattle.mvs_laws.proofs.SmallLaws.{boundary_edges as law}
use Rattle.mvs_laws.proofs.examples.boundary_edges.Goals as goal

pub returns : goal.returns
returns c = law
