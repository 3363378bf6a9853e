use Rattle.task_owner.specs.Family.{LostBelow}
use Rattle.task_owner.proofs.freed.drop_entries.Given as goal

abbrev pub invariant-loop-key : goal.invariant-loop-key
invariant-loop-key l = LostBelow l.number l.subpool l.fn.active l.key l.active
