use Rattle.std.proofs.Common.{refl}
use Rattle.area_history.proofs.json_history.print_holders.Goals as goal

pub returns : goal.returns
returns g c = rw (c.as_slice-leaks.ensures.items) at (rw (c.held_lines-count.ensures.first c.as_slice-leaks.result.now refl) at c.print_each.ensures)
