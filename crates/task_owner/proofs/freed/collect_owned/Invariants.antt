use Rattle.std.specs.List.Sorted.{IsStrictlySortedBy}
use Rattle.std.specs.Ordering.{nat_cmp}
use Rattle.task_owner.proofs.Collecting.{CollectedBelow}
use Rattle.task_owner.proofs.freed.collect_owned.Given as goal

abbrev pub invariant-loop-n : goal.invariant-loop-n
invariant-loop-n l = record {
  collected : CollectedBelow l.numbers l.key l.owned l.initial.freed l.n l.freed;
  rising : IsStrictlySortedBy nat_cmp l.initial.freed → IsStrictlySortedBy nat_cmp l.freed;
}
