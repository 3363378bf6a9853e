use Rattle.area_history.proofs.Printings.{leaks_are}
use Rattle.area_history.proofs.laws.leaks_are_printings.Goals as goal

pub returns : goal.returns
returns c = leaks_are c.no_line_is_starred.ensures
