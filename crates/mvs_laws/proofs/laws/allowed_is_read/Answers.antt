use Rattle.mvs_model.proofs.Allowed as allowed
use Rattle.mvs_laws.proofs.laws.allowed_is_read.Goals as goal

pub returns : goal.returns
returns c = allowed.allowed_is_read
