use Rattle.area_history.proofs.Printings.{histories_are}
use Rattle.area_history.proofs.laws.histories_are_printings.Goals as goal

pub returns : goal.returns
returns c = histories_are c.no_line_is_starred.ensures
