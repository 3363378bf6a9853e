use Rattle.terminal_session.proofs.Switching.{switched_leaks_are}
use Rattle.terminal_session.proofs.laws.switched_leaks_are_printings.Goals as goal

pub returns : goal.returns
returns c = switched_leaks_are c.no_line_is_starred.ensures
