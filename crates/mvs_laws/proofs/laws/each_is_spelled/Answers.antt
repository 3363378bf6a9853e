use Rattle.mvs_model.proofs.Spellings as spellings
use Rattle.mvs_laws.proofs.laws.each_is_spelled.Goals as goal

pub returns : goal.returns
returns c = spellings.each_is_spelled
