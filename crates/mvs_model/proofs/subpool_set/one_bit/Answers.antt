use Rattle.mvs_model.proofs.SubpoolSets.{power_bit}
use Rattle.mvs_model.proofs.subpool_set.one_bit.Goals as goal

pub returns-clause-others : goal.returns-clause-others
returns-clause-others c = λ i other. power_bit c.args.at i c.requires other
