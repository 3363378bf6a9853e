use Rattle.mvs_model.proofs.ValueTexts as texts
use Rattle.mvs_laws.proofs.laws.each_is_written.Goals as goal

pub returns : goal.returns
returns c = texts.each_is_written
