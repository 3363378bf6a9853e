-- The first task after a given name, as the value of `Tasks` has it.
use Rattle.std.proofs.Common.{◌≡◌, ℕ, true, false, List, Option, Some, None, IsSome, MatchOption, refl, sym, ap, subst, ◌∙◌}
use Rattle.std.specs.FinMap.{get}
use Rattle.mvs_model.specs.declared.name.Name.{Name}
use Rattle.mvs_model.specs.NextName.{is_before, IsAfter, IsNextName}
use Rattle.task_owner.specs.Tasks.{TasksValue}
use Rattle.task_owner.specs.Seats.{item_at, directory, IsSound}
use Rattle.task_owner.specs.declared.task_slot.TaskSlot.{TaskSlot}
use Rattle.task_owner.specs.declared.task_slot.Owned.{Owned}
use Rattle.task_owner.proofs.Reading.{no_task, a_task}

module _ (seats : List (Option TaskSlot)) (owned : List (Option Owned)) (d : TasksValue) (given : Option Name) (view : directory seats owned ≡ d) (sound : IsSound seats owned) where
  none_after : ((k : ℕ) (x : TaskSlot) → item_at seats k ≡ Some x → IsAfter x.name given → ⊥) → (n : Name) → IsAfter n given → get d.owners.tasks n ≡ None
  none_after none n after = no_task seats owned d n view (λ k x there same. none k x there (subst (λ m. IsAfter m given) (sym same) after))

  none_between : (next : Name) → ((k : ℕ) (x : TaskSlot) → item_at seats k ≡ Some x → IsAfter x.name given → is_before x.name next ≡ false) → (n : Name) → IsAfter n given → is_before n next ≡ true → get d.owners.tasks n ≡ None
  none_between next least n after before = no_task seats owned d n view (λ k x there same. (
      let e : true ≡ false = sym before ∙ ap (λ m. is_before m next) (sym same) ∙ least k x there (subst (λ m. IsAfter m given) (sym same) after) in cc))

  pub next_is : (found : Option Name)
      → MatchOption found ((k : ℕ) (x : TaskSlot) → item_at seats k ≡ Some x → IsAfter x.name given → ⊥)
      (λ next. ((k : ℕ) × (x : TaskSlot) × (item_at seats k ≡ Some x) × (x.name ≡ next) × IsAfter next given)
      × ((k : ℕ) (x : TaskSlot) → item_at seats k ≡ Some x → IsAfter x.name given → is_before x.name next ≡ false))
      → IsNextName (get d.owners.tasks) given found
  next_is None h = none_after h
  next_is (Some next) h =
      let f = h.0 in
      (subst (λ n. IsSome (get d.owners.tasks n)) f.3 (subst IsSome (sym (a_task seats owned d f.0 f.1 view sound f.2)) refl), f.4, none_between next h.1)
