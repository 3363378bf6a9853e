use Rattle.mvs_model.proofs.Spelling as spelling
use Rattle.mvs_laws.proofs.laws.cut_apart.Goals as goal

pub returns : goal.returns
returns c = spelling.cut_apart
