use Rattle.mvs_laws.proofs.ReadingExamples as examples
use Rattle.mvs_laws.proofs.examples.spelling_examples.Goals as goal

pub returns : goal.returns
returns c = examples.spelling_examples
