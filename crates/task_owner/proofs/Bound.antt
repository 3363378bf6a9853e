-- All that the binding of a subpool ensures, of the value of `Tasks`.
use Rattle.std.proofs.Common.{◌≡◌, ◌≢◌, ℕ, ◌<◌, List, length, Option, Some, None, slice_set, sym, ap, subst, ◌∙◌}
use Rattle.std.specs.FinMap.{get}
use Rattle.slab.specs.Slab.{Slab, get as slot}
use Rattle.mvs_model.specs.declared.name.Name.{Name}
use Rattle.mvs_model.specs.Owners.{entry, Binds}
use Rattle.task_owner.specs.Tasks.{TasksValue, name_at, IsTask, name_of}
use Rattle.task_owner.specs.Seats.{item_at, number_of, directory, MayHave, IsSound}
use Rattle.task_owner.specs.declared.task_slot.TaskSlot.{TaskSlot}
use Rattle.task_owner.specs.declared.task_slot.Owned.{Owned}
use Rattle.task_owner.proofs.Reading.{the_seat, entry_is}
use Rattle.task_owner.proofs.Labels.{unowned}
use Rattle.task_owner.proofs.Binding.{bound_sound, binds_at, names_at}

-- what callers learn, and that the fields are sound
pub record BindsAt (d : TasksValue) (t : Name) (number s : ℕ) (next : List (Option TaskSlot)) (left : List (Option Owned)) : Type 0 where
  pub sound : IsSound next left
  pub binds : Binds d.owners t number s (directory next left).owners
  pub names : (k : ℕ) → name_at (directory next left) k ≡ name_at d k

module _ (old now : Slab TaskSlot) (owned : List (Option Owned)) (d : TasksValue) (key id : ℕ) (e : directory old.slots owned ≡ d) (f : key ≡ id) (sound : IsSound old.slots owned) (active : IsTask d id)
    (n number i s : ℕ) (same : n ≡ number) (low : n < 133) (place : (x : TaskSlot) → item_at old.slots key ≡ Some x → MayHave x n) (here : i ≡ s) (in_range : i < length owned)
    (none : entry d.owners (name_of d id) number ≡ None) (spare : get d.owners.owner s ≡ None)
    (entered : (x : TaskSlot) → slot old key ≡ Some x → slot now key ≡ Some (record x { numbers = slice_set x.numbers n (Some s) }))
    (fits : (x : TaskSlot) → slot old key ≡ Some x → n < length x.numbers) (others : (k : ℕ) → k ≢ key → slot now k ≡ slot old k) where
  x : (x : TaskSlot) × (item_at old.slots key ≡ Some x)
  x = the_seat old.slots owned d key id e f active

  free : number_of x.0 n ≡ None
  free = sym (entry_is old.slots owned d key id e f sound x.0 x.1 n) ∙ ap (entry d.owners (name_of d id)) same ∙ none

  unused : item_at owned s ≡ None
  unused = unowned old.slots owned d s e sound spare

  within : s < length owned
  within = subst (λ r. r < length owned) here in_range

  at_subpool : BindsAt d (name_of d id) number s now.slots (slice_set owned s (Some (record { owner = key; number = n })))
  at_subpool = record {
    sound = bound_sound old.slots now.slots owned key n s x.0 sound x.1 low (place x.0 x.1) (fits x.0 x.1) free within unused (entered x.0 x.1) others;
    binds = binds_at old.slots now.slots owned key n s x.0 sound x.1 low (place x.0 x.1) (fits x.0 x.1) free within unused (entered x.0 x.1) others d id number e f same;
    names = λ k. names_at old.slots now.slots owned key n s x.0 sound x.1 low (place x.0 x.1) (fits x.0 x.1) free within unused (entered x.0 x.1) others k ∙ ap (λ v. name_at v k) e;
  }

  pub bound : BindsAt d (name_of d id) number s now.slots (slice_set owned i (Some (record { owner = key; number = n })))
  bound = subst (λ r. BindsAt d (name_of d id) number s now.slots (slice_set owned r (Some (record { owner = key; number = n })))) (sym here) at_subpool

  -- the same by the task's name
  pub bound_of : (t : Name) → name_of d id ≡ t → BindsAt d t number s now.slots (slice_set owned i (Some (record { owner = key; number = n })))
  bound_of t q = subst (λ t. BindsAt d t number s now.slots (slice_set owned i (Some (record { owner = key; number = n })))) q bound
