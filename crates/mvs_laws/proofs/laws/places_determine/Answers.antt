use Rattle.mvs_laws.proofs.Determined as runs
use Rattle.mvs_laws.proofs.laws.places_determine.Goals as goal

pub returns : goal.returns
returns c = runs.places_determine
