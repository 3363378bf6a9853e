use Rattle.mvs_model.proofs.StorageLaws.{release_keeps_pages as law}
use Rattle.mvs_laws.proofs.examples.release_keeps_pages.Goals as goal

pub returns : goal.returns
returns c = law
