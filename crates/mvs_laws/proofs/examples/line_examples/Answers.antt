use Rattle.mvs_laws.proofs.ReadingExamples as examples
use Rattle.mvs_laws.proofs.examples.line_examples.Goals as goal

pub returns : goal.returns
returns c = examples.line_examples
