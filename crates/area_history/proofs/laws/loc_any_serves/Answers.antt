use Rattle.area_history.proofs.Elsewhere.{loc_any_serves}
use Rattle.area_history.proofs.laws.loc_any_serves.Goals as goal

pub returns : goal.returns
returns c = loc_any_serves
