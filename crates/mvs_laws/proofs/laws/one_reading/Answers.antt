use Rattle.mvs_model.proofs.Reading as reading
use Rattle.mvs_laws.proofs.laws.one_reading.Goals as goal

pub returns : goal.returns
returns c = reading.one_reading
