use Rattle.mvs_model.proofs.NameText.{padded_is_name}
use Rattle.mvs_model.proofs.name.Name.of.Goals as goal

pub invariant_of-result : goal.invariant_of-result
invariant_of-result c = rw c.pad.ensures (padded_is_name c.args.text.now c.requires)
