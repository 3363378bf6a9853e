use Rattle.mvs_laws.proofs.Going as going
use Rattle.mvs_laws.proofs.laws.never_stuck.Goals as goal

pub returns : goal.returns
returns c = going.never_stuck
