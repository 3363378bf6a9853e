use Rattle.std.proofs.Common.{not, sym, subst, arith}
use Rattle.mvs_model.specs.Owners.{is_among_ended}
use Rattle.task_owner.specs.Family.{IsFreed, OwnersHave}
use Rattle.task_owner.specs.declared.task_slot.TaskSlot.{TaskSlot}
use Rattle.task_owner.proofs.tasks.Tasks.end.Goals as goal
use Rattle.task_owner.proofs.Reading.{is_seat, the_seat}
use Rattle.task_owner.proofs.Collecting.{number_inside}
use Rattle.task_owner.proofs.Ended.{ended, owners_left, entries_left, freed_had, still_stand}

pub remove_family-names-requires-clause-there : goal.remove_family-names-requires-clause-there
remove_family-names-requires-clause-there c = is_seat _ _ _ _ _ c.self.view_is c.t.view_is c.requires

pub remove_family-names-requires-clause-owners : goal.remove_family-names-requires-clause-owners
remove_family-names-requires-clause-owners c = subst (λ os. OwnersHave c.self.inside.active.slots os) (sym c.as_slice.ensures.value) c.self.invariant.0.owners

pub free_subpools-requires-clause-low : goal.free_subpools-requires-clause-low
free_subpools-requires-clause-low c = λ s o h. let x = c.self.invariant.0.owners s o h in (number_inside x.0 o.number s x.2).0

pub free_subpools-requires-clause-entries : goal.free_subpools-requires-clause-entries
free_subpools-requires-clause-entries c =
    let y = the_seat _ _ _ _ _ c.self.view_is c.t.view_is c.requires in
    still_stand c.self.inside.active c.remove_family-names.new.active c.self.inside.owned.items (λ (x : TaskSlot). not (is_among_ended y.0.name c.remove_family-names.result x.name)) c.self.invariant.0
    (c.remove_family-names.ensures.falls y.0 y.1).kept

pub free_subpools-requires-clause-owned : goal.free_subpools-requires-clause-owned
free_subpools-requires-clause-owned c =
    freed_had c.remove_family-names.new.active c.self.inside.owned.items c.remove_family-names.new.freed
    (subst (λ os. IsFreed c.remove_family-names.new.active os c.remove_family-names.new.freed) c.as_slice.ensures.value c.remove_family-names.ensures.freed)

pub invariant_of-self : goal.invariant_of-self
invariant_of-self c =
    let y = the_seat _ _ _ _ _ c.self.view_is c.t.view_is c.requires in
    let falls = c.remove_family-names.ensures.falls y.0 y.1 in
    let owned = c.self.inside.owned.items in
    let stand = still_stand c.self.inside.active c.remove_family-names.new.active owned (λ (x : TaskSlot). not (is_among_ended y.0.name c.remove_family-names.result x.name)) c.self.invariant.0 falls.kept in
    let is_freed = subst (λ os. IsFreed c.remove_family-names.new.active os c.remove_family-names.new.freed) c.as_slice.ensures.value c.remove_family-names.ensures.freed in
    let below = c.free_subpools.ensures in (
      (ended c.self.inside.active c.remove_family-names.new.active c.free_subpools.new.active owned c.free_subpools.new.owned.items _ _ _ c.self.view_is c.t.view_is c.self.invariant.0 c.requires
          _ _ _ c.remove_family-names.ensures.falls c.remove_family-names.ensures.closed c.new.ensures.sorted c.new.ensures.same is_freed
          (owners_left c.remove_family-names.new.active c.free_subpools.new.active owned c.free_subpools.new.owned.items _ c.self.invariant.1 is_freed stand below)
          (entries_left c.remove_family-names.new.active c.free_subpools.new.active owned c.free_subpools.new.owned.items _ c.self.invariant.1 is_freed stand below)).sound,
      omega (arith, below.sizes, c.self.invariant.1),
      omega (arith, c.self.invariant.2, falls.len, below.len),
      omega (arith, c.self.invariant.3, falls.capacity, below.capacity),
    )

pub returns : goal.returns
returns c =
    let y = the_seat _ _ _ _ _ c.self.view_is c.t.view_is c.requires in
    let falls = c.remove_family-names.ensures.falls y.0 y.1 in
    let owned = c.self.inside.owned.items in
    let stand = still_stand c.self.inside.active c.remove_family-names.new.active owned (λ (x : TaskSlot). not (is_among_ended y.0.name c.remove_family-names.result x.name)) c.self.invariant.0 falls.kept in
    let is_freed = subst (λ os. IsFreed c.remove_family-names.new.active os c.remove_family-names.new.freed) c.as_slice.ensures.value c.remove_family-names.ensures.freed in
    let below = c.free_subpools.ensures in
    let r = ended c.self.inside.active c.remove_family-names.new.active c.free_subpools.new.active owned c.free_subpools.new.owned.items _ _ _ c.self.view_is c.t.view_is c.self.invariant.0 c.requires
    _ _ _ c.remove_family-names.ensures.falls c.remove_family-names.ensures.closed c.new.ensures.sorted c.new.ensures.same is_freed
    (owners_left c.remove_family-names.new.active c.free_subpools.new.active owned c.free_subpools.new.owned.items _ c.self.invariant.1 is_freed stand below)
    (entries_left c.remove_family-names.new.active c.free_subpools.new.active owned c.free_subpools.new.owned.items _ c.self.invariant.1 is_freed stand below) in
    record { fallen = r.fallen; ends = r.ends; freed = r.freed; rising = c.remove_family-names.ensures.rising; names = r.identifiers }
