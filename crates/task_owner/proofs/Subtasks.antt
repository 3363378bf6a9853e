-- The subtasks that a task attached.
use Rattle.std.proofs.Common.{◌≡◌, ℕ, Bool, true, false, List, Option, Some, None, is_some, IsTrue, sym, ap, subst, refl, ◌∙◌, ◌≢◌}
use Rattle.std.specs.Prelude.{MatchOption, IfSome}
use Rattle.std.proofs.lemmas.List.Folds.{Any-from_list_any, list_any-from_Any}
use Rattle.std.proofs.lemmas.Map.Views.{Contains-from_any}
use Rattle.std.specs.List.{list_any, Contains}
use Rattle.std.specs.Option.{option_map}
use Rattle.std.specs.FinMap.{FinMap, get, keys, contains_key-keys}
use Rattle.mvs_model.specs.declared.name.Name.{Name}
use Rattle.mvs_model.specs.Name.{name_cmp, same_name}
use Rattle.mvs_model.specs.Finite.{has}
use Rattle.mvs_model.specs.Owners.{Task, IsMother, has_subtask}
use Rattle.mvs_model.proofs.Orders.{same_name_is, same_name_self}
use Rattle.task_owner.specs.Tasks.{TasksValue, IsTask, name_of}
use Rattle.task_owner.specs.Seats.{item_at, seat_named, mother_of, task_of, directory, IsSound, Distinct}
use Rattle.task_owner.specs.declared.task_slot.TaskSlot.{TaskSlot}
use Rattle.task_owner.specs.declared.task_slot.Owned.{Owned}
use Rattle.task_owner.proofs.Places.{of_mapped}
use Rattle.task_owner.proofs.Reading.{found_at, view-task, the_seat, name_is, a_task}
use Rattle.mvs_model.proofs.Tests.{same_test}

module _ {X : Type 0} (m : FinMap name_cmp X) (p : X → Bool) where
  -- a key whose value passes the test, and the test of all keys
  key_passes : (q : Name) (v : X) → get m q ≡ Some v → p v ≡ true → list_any (λ x. has p (get m x)) (keys m) ≡ true
  key_passes q v e t =
      let r : Contains (keys m) q = Contains-from_any same_name_is q (keys m) (sym (contains_key-keys m q) ∙ ap is_some e) in
      list_any-from_Any (λ x. has p (get m x)) (keys m) (r.0, q, r.1, r.2, ap (has p) e ∙ t)

  passing_key : list_any (λ x. has p (get m x)) (keys m) ≡ true → (q : Name) × (v : X) × (get m q ≡ Some v) × (p v ≡ true)
  passing_key t = let r = Any-from_list_any (λ x. has p (get m x)) (keys m) t in by r.1 (get m r.1) refl r.4 where
    by : (q : Name) (o : Option X) → get m q ≡ o → has p o ≡ true → (q : Name) × (v : X) × (get m q ≡ Some v) × (p v ≡ true)
    by q None e h = absurd (let f : false ≡ true = h in cc)
    by q (Some v) e h = (q, v, e, h)

-- the mother of a task, at keys and by names
pub mother_key : (seats : List (Option TaskSlot)) → Distinct seats → (m : Option ℕ) (key : ℕ) (x : TaskSlot) → item_at seats key ≡ Some x → has (same_name x.name) (mother_of seats m) ≡ true → m ≡ Some key
mother_key seats distinct None key x h e = absurd (let f : false ≡ true = e in cc)
mother_key seats distinct (Some m) key x h e = by (item_at seats m) refl e where
  by : (o : Option TaskSlot) → item_at seats m ≡ o → has (same_name x.name) (option_map (λ y. y.name) o) ≡ true → Some m ≡ Some key
  by None f t = absurd (let g : false ≡ true = t in cc)
  by (Some z) f t = ap Some (distinct m key z x f h (sym (same_name_is x.name z.name t)))

-- whether the task of this name attached it
abbrev attached_by : Name → Task → Bool
attached_by t task = has (same_name t) task.mother

-- the test of the map is that of the keys
pub subtask_test : (seats : List (Option TaskSlot)) (owned : List (Option Owned)) (d : TasksValue) (key id : ℕ) (e : directory seats owned ≡ d) (f : key ≡ id) (sound : IsSound seats owned) (active : IsTask d id)
    → (r : Bool) → (IsTrue r → (k : ℕ) × (x : TaskSlot) × (item_at seats k ≡ Some x) × (x.mother ≡ Some key)) → ((k : ℕ) × (x : TaskSlot) × (item_at seats k ≡ Some x) × (x.mother ≡ Some key) → IsTrue r)
    → r ≡ has_subtask d.owners (name_of d id)
subtask_test seats owned d key id e f sound active r there back = same_test r (has_subtask d.owners (name_of d id)) yes known where
  mother : (x : TaskSlot) × (item_at seats key ≡ Some x)
  mother = the_seat seats owned d key id e f active

  named : name_of d id ≡ mother.0.name
  named = name_is seats owned d key id e f sound mother.0 mother.1

  yes : r ≡ true → has_subtask d.owners (name_of d id) ≡ true
  yes t =
      let c = there t in
      key_passes d.owners.tasks (attached_by (name_of d id)) c.1.name (task_of seats c.1) (a_task seats owned d c.0 c.1 e sound c.2)
      (ap (λ m. has (same_name (name_of d id)) (mother_of seats m)) c.3 ∙ ap (λ o. has (same_name (name_of d id)) (option_map (λ y. y.name) o)) mother.1 ∙ ap (λ n. same_name n mother.0.name) named ∙ same_name_self mother.0.name)

  known : has_subtask d.owners (name_of d id) ≡ true → r ≡ true
  known t =
      let q = passing_key d.owners.tasks (attached_by (name_of d id)) t in
      let y = of_mapped (task_of seats) (seat_named seats q.0) q.1 (sym (view-task seats owned q.0) ∙ ap (λ (v : TasksValue). get v.owners.tasks q.0) e ∙ q.2) in
      let at = found_at seats q.0 y.0 y.1 in
      back (at.0, y.0, at.1, mother_key seats sound.distinct y.0.mother key mother.0 mother.1 (ap (λ n. has (same_name n) (mother_of seats y.0.mother)) (sym named) ∙ ap (λ (t : Task). has (same_name (name_of d id)) t.mother) y.2 ∙ q.3))

-- what is known of a subtask that was looked for
pub child_test : (seats : List (Option TaskSlot)) (owned : List (Option Owned)) (d : TasksValue) (key id : ℕ) (e : directory seats owned ≡ d) (f : key ≡ id) (sound : IsSound seats owned) (active : IsTask d id)
    → (r : Option Name) → MatchOption r ((k : ℕ) (x : TaskSlot) → item_at seats k ≡ Some x → x.mother ≢ Some key) (λ name. (k : ℕ) × (x : TaskSlot) × (item_at seats k ≡ Some x) × (x.mother ≡ Some key) × (x.name ≡ name))
    → is_some r ≡ has_subtask d.owners (name_of d id)
child_test seats owned d key id e f sound active None none = subtask_test seats owned d key id e f sound active false (λ t. absurd (let g : false ≡ true = t in cc)) (λ c. absurd (none c.0 c.1 c.2 c.3))
child_test seats owned d key id e f sound active (Some name) h = subtask_test seats owned d key id e f sound active true (λ _. (h.0, h.1, h.2, h.3)) (λ _. refl)

child_mother : (seats : List (Option TaskSlot)) (owned : List (Option Owned)) (d : TasksValue) (key id : ℕ) (e : directory seats owned ≡ d) (f : key ≡ id) (sound : IsSound seats owned) (active : IsTask d id)
    → (name : Name) → (k : ℕ) × (x : TaskSlot) × (item_at seats k ≡ Some x) × (x.mother ≡ Some key) × (x.name ≡ name) → IsMother d.owners (name_of d id) name
child_mother seats owned d key id e f sound active name h =
    let mother = the_seat seats owned d key id e f active in
    subst (λ n. IsMother d.owners (name_of d id) n) h.4 (
      task_of seats h.1,
      a_task seats owned d h.0 h.1 e sound h.2,
      ap (mother_of seats) h.3 ∙ ap (option_map (λ y. y.name)) mother.1 ∙ ap Some (sym (name_is seats owned d key id e f sound mother.0 mother.1)),
    )

pub child_correct : (seats : List (Option TaskSlot)) (owned : List (Option Owned)) (d : TasksValue) (key id : ℕ) (e : directory seats owned ≡ d) (f : key ≡ id) (sound : IsSound seats owned) (active : IsTask d id)
    → (r : Option Name) → MatchOption r ((k : ℕ) (x : TaskSlot) → item_at seats k ≡ Some x → x.mother ≢ Some key) (λ name. (k : ℕ) × (x : TaskSlot) × (item_at seats k ≡ Some x) × (x.mother ≡ Some key) × (x.name ≡ name))
    → IfSome r (λ name. IsMother d.owners (name_of d id) name)
child_correct seats owned d key id e f sound active None h = tt
child_correct seats owned d key id e f sound active (Some name) h = child_mother seats owned d key id e f sound active name h
