use Rattle.mvs_laws.proofs.PartsApart.{parts_apart}
use Rattle.mvs_laws.proofs.laws.apart.Goals as goal

pub returns : goal.returns
returns c = parts_apart
