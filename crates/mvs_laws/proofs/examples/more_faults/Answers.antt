use Rattle.mvs_laws.proofs.ReadingExamples as examples
use Rattle.mvs_laws.proofs.examples.more_faults.Goals as goal

pub returns : goal.returns
returns c = examples.more_faults
