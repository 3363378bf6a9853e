use Rattle.mvs_model.proofs.StorageLaws.{taken_back as law}
use Rattle.mvs_laws.proofs.examples.taken_back.Goals as goal

pub returns : goal.returns
returns c = law
