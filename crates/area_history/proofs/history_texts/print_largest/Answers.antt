use Rattle.std.proofs.Common.{refl}
use Rattle.area_history.proofs.history_texts.print_largest.Goals as goal

pub returns : goal.returns
returns g c = rw (c.held_lines-count.ensures.first c.args.leaks.now refl) at c.print_each.ensures
