use Rattle.std.proofs.Common.{◌≡◌, ◌≤◌, ◌<◌, arith, length, sym, ◌∙◌}
use Rattle.area_history.proofs.Ranking.{take_short}
use Rattle.area_history.proofs.history_texts.held_lines.Goals as goal

pub returns-then-len-lt-MOST_HELD-clause-first : goal.returns-then-len-lt-MOST_HELD-clause-first
returns-then-len-lt-MOST_HELD-clause-first c leaks same = take_short c.args.len leaks (omega (arith, same)) ∙ sym (take_short 3 leaks (omega (arith, same, c.if-len-lt-MOST_HELD.true)))
