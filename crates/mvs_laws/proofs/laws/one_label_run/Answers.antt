use Rattle.mvs_laws.proofs.OneLabels as labels
use Rattle.mvs_laws.proofs.laws.one_label_run.Goals as goal

pub returns : goal.returns
returns c = labels.one_label_run
