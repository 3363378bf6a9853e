use Rattle.std.proofs.Common.{refl}
use Rattle.mvs_model.proofs.SubpoolSets.{no_members, no_subpools}
use Rattle.mvs_model.proofs.subpool_set.SubpoolSet.empty.Goals as goal

pub invariant_of-result : goal.invariant_of-result
invariant_of-result c = no_subpools _ 65 refl

pub returns : goal.returns
returns c = no_members _ 65 refl
