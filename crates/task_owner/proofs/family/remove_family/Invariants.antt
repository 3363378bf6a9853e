use Rattle.std.proofs.Common.{◌≡◌, Some}
use Rattle.slab.specs.Slab.{get, slab_len}
use Rattle.std.specs.List.Sorted.{IsStrictlySortedBy}
use Rattle.std.specs.Ordering.{nat_cmp}
use Rattle.task_owner.specs.declared.task_slot.TaskSlot.{TaskSlot}
use Rattle.task_owner.specs.Family.{Falls, IsFreed}
use Rattle.task_owner.proofs.family.remove_family.Given as goal

abbrev pub invariant-family : goal.invariant-family
invariant-family l = record {
  falls : (x : TaskSlot) → get l.fn.active l.fn.t ≡ Some x → Falls l.fn.active l.fn.t x.name l.names l.active;
  freed : IsFreed l.active l.owned l.freed;
  rising : IsStrictlySortedBy nat_cmp l.freed;
}

abbrev pub decreases-family : goal.decreases-family
decreases-family l = slab_len l.active
