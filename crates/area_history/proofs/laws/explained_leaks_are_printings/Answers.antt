use Rattle.area_history.proofs.Printings.{explained_leaks_are}
use Rattle.area_history.proofs.laws.explained_leaks_are_printings.Goals as goal

pub returns : goal.returns
returns c = explained_leaks_are c.no_line_is_starred.ensures
