use Rattle.mvs_model.proofs.ReadingWords as words
use Rattle.mvs_laws.proofs.laws.only_words.Goals as goal

pub returns : goal.returns
returns c = words.only_words
