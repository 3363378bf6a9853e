use Rattle.std.proofs.Common.{◌≡◌, ◌<◌, ◌+◌, ◌∙◌, true, false, [], not, refl, sym, subst, arith}
use Rattle.std.specs.List.Sorted.{IsSorted}
use Rattle.std.proofs.lemmas.List.Sorted.{IsPermutation-refl}
use Rattle.mvs_model.specs.Name.{name_cmp}
use Rattle.mvs_model.specs.Owners.{is_among_ended, has_subtask}
use Rattle.task_owner.specs.Tasks.{name_of}
use Rattle.task_owner.specs.Family.{IsFreed, OwnersHave}
use Rattle.task_owner.specs.declared.task_slot.TaskSlot.{TaskSlot}
use Rattle.task_owner.proofs.tasks.Tasks.end_alone.Goals as goal
use Rattle.task_owner.proofs.Reading.{is_seat, the_seat}
use Rattle.task_owner.proofs.Collecting.{number_inside}
use Rattle.task_owner.proofs.Ended.{ended, owners_left, entries_left, freed_had, still_stand}
use Rattle.task_owner.proofs.Subtasks.{subtask_test}

-- no names are in order
none_sorted : IsSorted name_cmp []
none_sorted k d low high = absurd (let f : k + 1 < 0 = high in omega arith)

-- no task has it for a mother
pub remove_alone-requires-clause-alone : goal.remove_alone-requires-clause-alone
remove_alone-requires-clause-alone c = λ k x h mother. absurd (
    let some : true ≡ has_subtask c.args.self.now.owners (name_of c.args.self.now c.args.t) = subtask_test _ _ _ _ _ c.self.view_is c.t.view_is c.self.invariant.0 c.requires.active true (λ _. (k, x, h, mother)) (λ _. refl) in
    let alone : has_subtask c.args.self.now.owners (name_of c.args.self.now c.args.t) ≡ false = c.requires.alone in
    let f : true ≡ false = some ∙ alone in cc)

pub remove_alone-requires-clause-there : goal.remove_alone-requires-clause-there
remove_alone-requires-clause-there c = is_seat _ _ _ _ _ c.self.view_is c.t.view_is c.requires.active

pub remove_alone-requires-clause-owners : goal.remove_alone-requires-clause-owners
remove_alone-requires-clause-owners c = subst (λ os. OwnersHave c.self.inside.active.slots os) (sym c.as_slice.ensures.value) c.self.invariant.0.owners

pub free_subpools-requires-clause-low : goal.free_subpools-requires-clause-low
free_subpools-requires-clause-low c = λ s o h. let x = c.self.invariant.0.owners s o h in (number_inside x.0 o.number s x.2).0

pub free_subpools-requires-clause-entries : goal.free_subpools-requires-clause-entries
free_subpools-requires-clause-entries c =
    let y = the_seat _ _ _ _ _ c.self.view_is c.t.view_is c.requires.active in
    still_stand c.self.inside.active c.remove_alone.new.active c.self.inside.owned.items (λ (x : TaskSlot). not (is_among_ended y.0.name [] x.name)) c.self.invariant.0
    (c.remove_alone.ensures.falls y.0 y.1).kept

pub free_subpools-requires-clause-owned : goal.free_subpools-requires-clause-owned
free_subpools-requires-clause-owned c =
    freed_had c.remove_alone.new.active c.self.inside.owned.items c.remove_alone.new.freed
    (subst (λ os. IsFreed c.remove_alone.new.active os c.remove_alone.new.freed) c.as_slice.ensures.value c.remove_alone.ensures.freed)

pub invariant_of-self : goal.invariant_of-self
invariant_of-self c =
    let y = the_seat _ _ _ _ _ c.self.view_is c.t.view_is c.requires.active in
    let falls = c.remove_alone.ensures.falls y.0 y.1 in
    let owned = c.self.inside.owned.items in
    let stand = still_stand c.self.inside.active c.remove_alone.new.active owned (λ (x : TaskSlot). not (is_among_ended y.0.name [] x.name)) c.self.invariant.0 falls.kept in
    let is_freed = subst (λ os. IsFreed c.remove_alone.new.active os c.remove_alone.new.freed) c.as_slice.ensures.value c.remove_alone.ensures.freed in
    let below = c.free_subpools.ensures in (
      (ended c.self.inside.active c.remove_alone.new.active c.free_subpools.new.active owned c.free_subpools.new.owned.items _ _ _ c.self.view_is c.t.view_is c.self.invariant.0 c.requires.active
          _ _ _ c.remove_alone.ensures.falls c.remove_alone.ensures.closed none_sorted (IsPermutation-refl []) is_freed
          (owners_left c.remove_alone.new.active c.free_subpools.new.active owned c.free_subpools.new.owned.items _ c.self.invariant.1 is_freed stand below)
          (entries_left c.remove_alone.new.active c.free_subpools.new.active owned c.free_subpools.new.owned.items _ c.self.invariant.1 is_freed stand below)).sound,
      omega (arith, below.sizes, c.self.invariant.1),
      omega (arith, c.self.invariant.2, falls.len, below.len),
      omega (arith, c.self.invariant.3, falls.capacity, below.capacity),
    )

pub returns : goal.returns
returns c =
    let y = the_seat _ _ _ _ _ c.self.view_is c.t.view_is c.requires.active in
    let falls = c.remove_alone.ensures.falls y.0 y.1 in
    let owned = c.self.inside.owned.items in
    let stand = still_stand c.self.inside.active c.remove_alone.new.active owned (λ (x : TaskSlot). not (is_among_ended y.0.name [] x.name)) c.self.invariant.0 falls.kept in
    let is_freed = subst (λ os. IsFreed c.remove_alone.new.active os c.remove_alone.new.freed) c.as_slice.ensures.value c.remove_alone.ensures.freed in
    let below = c.free_subpools.ensures in
    let r = ended c.self.inside.active c.remove_alone.new.active c.free_subpools.new.active owned c.free_subpools.new.owned.items _ _ _ c.self.view_is c.t.view_is c.self.invariant.0 c.requires.active
    _ _ _ c.remove_alone.ensures.falls c.remove_alone.ensures.closed none_sorted (IsPermutation-refl []) is_freed
    (owners_left c.remove_alone.new.active c.free_subpools.new.active owned c.free_subpools.new.owned.items _ c.self.invariant.1 is_freed stand below)
    (entries_left c.remove_alone.new.active c.free_subpools.new.active owned c.free_subpools.new.owned.items _ c.self.invariant.1 is_freed stand below) in
    record { fallen = r.fallen; ends = r.ends; freed = r.freed }
