use Rattle.mvs_model.proofs.Allowed as allowed
use Rattle.mvs_laws.proofs.laws.in_any_order.Goals as goal

pub returns : goal.returns
returns c = allowed.in_any_order
