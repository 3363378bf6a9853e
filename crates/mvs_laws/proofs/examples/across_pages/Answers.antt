use Rattle.mvs_laws.proofs.SmallLaws.{across_pages as law}
use Rattle.mvs_laws.proofs.examples.across_pages.Goals as goal

pub returns : goal.returns
returns c = law
