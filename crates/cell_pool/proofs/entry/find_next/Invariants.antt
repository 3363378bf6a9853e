use Rattle.cell_pool.proofs.NextPools.{FirstBelow}
use Rattle.cell_pool.proofs.entry.find_next.Given as goal

abbrev pub invariant-loop-key : goal.invariant-loop-key
invariant-loop-key l = FirstBelow l.entries l.given l.key l.next
