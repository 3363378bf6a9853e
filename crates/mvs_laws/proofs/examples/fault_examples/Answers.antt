use Rattle.mvs_laws.proofs.ReadingExamples as examples
use Rattle.mvs_laws.proofs.examples.fault_examples.Goals as goal

pub returns : goal.returns
returns c = examples.fault_examples
