use Rattle.mvs_laws.proofs.Determined as runs
use Rattle.mvs_laws.proofs.laws.has_places.Goals as goal

pub returns : goal.returns
returns c = runs.has_places
