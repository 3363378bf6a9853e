-- The fields of `Tasks` keep what callers rely on.
use Rattle.std.proofs.Common.{◌≡◌, ℕ, zero, suc, ◌<◌, ◌≤◌, true, false, List, length, Option, Some, None, is_some, count_by, sym, ap, subst, refl, ◌∙◌, arith, ◌⊎◌, inl, inr}
use Rattle.std.proofs.lemmas.Bool.{cases_lt}
use Rattle.std.specs.Option.{option_map}
use Rattle.std.specs.FinMap.{get}
use Rattle.mvs_model.specs.declared.name.Name.{Name}
use Rattle.mvs_model.specs.Owners.{Task, is_active, entry, IsMother, Descends, subtask, further}
use Rattle.task_owner.specs.Tasks.{TasksValue}
use Rattle.mvs_model.specs.Consistent.{IsFirst, OwnersConsistent}
use Rattle.task_owner.specs.Seats.{item_at, number_of, seat_named, mother_of, task_of, entry_of, owner_name, directory, MayHave, IsSound}
use Rattle.task_owner.specs.declared.task_slot.TaskSlot.{TaskSlot}
use Rattle.task_owner.specs.declared.task_slot.Owned.{Owned}
use Rattle.task_owner.proofs.Places.{of_some, of_mapped, past_end}
use Rattle.task_owner.proofs.Reading.{found, found_at, view-task, view-entry, view-owner}
use Rattle.mvs_model.proofs.Keepers.{not_of_step}
use Rattle.mvs_model.specs.Subpool.{is_step_number}
use Rattle.task_owner.proofs.Having.{is_number}
use Rattle.task_owner.proofs.Count.{tasks_len}
use Rattle.task_owner.proofs.Fallen.{is_mother, not_itself}

module _ (seats : List (Option TaskSlot)) (owned : List (Option Owned)) (sound : IsSound seats owned) where
  pub at_name : (k : ℕ) (x : TaskSlot) → item_at seats k ≡ Some x → get (directory seats owned).owners.tasks x.name ≡ Some (task_of seats x)
  at_name k x h = view-task seats owned x.name ∙ ap (option_map (task_of seats)) (found seats k x sound.distinct h)

  -- the task of a name, at its key
  pub key_of : (q : Name) (task : Task) → get (directory seats owned).owners.tasks q ≡ Some task → (k : ℕ) × (x : TaskSlot) × (item_at seats k ≡ Some x) × (x.name ≡ q) × (task_of seats x ≡ task)
  key_of q task h =
      let x = of_mapped (task_of seats) (seat_named seats q) task (sym (view-task seats owned q) ∙ h) in
      let r = found_at seats q x.0 x.1 in
      (r.0, x.0, r.1, r.2, x.2)

  -- a subpool that a task has, at its key
  entry_key : (q : Name) (n s : ℕ) → entry (directory seats owned).owners q n ≡ Some s → (k : ℕ) × (x : TaskSlot) × (item_at seats k ≡ Some x) × (x.name ≡ q) × (number_of x n ≡ Some s)
  entry_key q n s h = by (seat_named seats q) refl (sym (view-entry seats owned q n) ∙ h) where
    by : (o : Option TaskSlot) → seat_named seats q ≡ o → entry_of (seat_named seats q) n ≡ Some s → (k : ℕ) × (x : TaskSlot) × (item_at seats k ≡ Some x) × (x.name ≡ q) × (number_of x n ≡ Some s)
    by None e g = absurd (let f : None ≡ Some s = sym (ap (λ o. entry_of o n) e) ∙ g in cc)
    by (Some x) e g = let r = found_at seats q x e in (r.0, x, r.1, r.2, sym (ap (λ o. entry_of o n) e) ∙ g)

  is_there : (k : ℕ) (x : TaskSlot) (q : Name) → item_at seats k ≡ Some x → x.name ≡ q → is_active (directory seats owned).owners q ≡ true
  is_there k x q h e = ap (λ t. is_some (get (directory seats owned).owners.tasks t)) (sym e) ∙ ap is_some (at_name k x h)

  -- a task without a mother has none at her key
  pub no_mother : (k : ℕ) (x : TaskSlot) → item_at seats k ≡ Some x → mother_of seats x.mother ≡ None → x.mother ≡ None
  no_mother k x h e = by x.mother refl e where
    by : (o : Option ℕ) → x.mother ≡ o → mother_of seats o ≡ None → o ≡ None
    by None f g = refl
    by (Some m) f g =
        let z = of_some (item_at seats m) (sound.mothers k m x h f) in
        absurd (let i : Some z.0.name ≡ None = sym (ap (option_map (λ (v : TaskSlot). v.name)) z.1) ∙ g in cc)

  pub one_first : (t q : Name) → IsFirst (directory seats owned).owners t → IsFirst (directory seats owned).owners q → t ≡ q
  one_first t q (a, ha, ea) (b, hb, eb) =
      let j = key_of t a ha in
      let k = key_of q b hb in
      let same : j.0 ≡ k.0 = sound.first j.0 k.0 j.1 k.1 j.2 k.2 (no_mother j.0 j.1 j.2 (ap (λ (v : Task). v.mother) j.4 ∙ ea)) (no_mother k.0 k.1 k.2 (ap (λ (v : Task). v.mother) k.4 ∙ eb)) in
      let f : Some j.1 ≡ Some k.1 = sym j.2 ∙ ap (item_at seats) same ∙ k.2 in
      let alike : j.1 ≡ k.1 = cc in
      sym j.3 ∙ ap (λ (v : TaskSlot). v.name) alike ∙ k.3

  -- up the mothers to the first, as the ranks fall
  pub up : (bound k : ℕ) (x : TaskSlot) → item_at seats k ≡ Some x → sound.ranked.0 k < bound
      → (t : Name) × IsFirst (directory seats owned).owners t × ((x.name ≡ t) ⊎ Descends (directory seats owned).owners t x.name)
  up zero k x h l = absurd (omega arith)
  up (suc bound) k x h l = by x.mother refl (up bound) where
    by : (o : Option ℕ) → x.mother ≡ o → ((j : ℕ) (z : TaskSlot) → item_at seats j ≡ Some z → sound.ranked.0 j < bound → (t : Name) × IsFirst (directory seats owned).owners t × ((z.name ≡ t) ⊎ Descends (directory seats owned).owners t z.name))
        → (t : Name) × IsFirst (directory seats owned).owners t × ((x.name ≡ t) ⊎ Descends (directory seats owned).owners t x.name)
    by None e f = (x.name, (task_of seats x, at_name k x h, ap (mother_of seats) e), inl refl)
    by (Some m) e f =
        let z = of_some (item_at seats m) (sound.mothers k m x h e) in
        let lower : sound.ranked.0 m < sound.ranked.0 k = sound.ranked.1 k m x h e in
        let r = f m z.0 z.1 (omega arith) in
        let mother : IsMother (directory seats owned).owners z.0.name x.name = is_mother seats owned k x sound h k m x z.0 h e z.1 in
        (r.0, r.1, inr (two r.0 z.0.name r.2 mother))
      where
        two : (t n : Name) → (n ≡ t) ⊎ Descends (directory seats owned).owners t n → IsMother (directory seats owned).owners n x.name → Descends (directory seats owned).owners t x.name
        two t n (inl p) i = subtask (subst (λ q. IsMother (directory seats owned).owners q x.name) p i)
        two t n (inr d) i = further d i

  descends_active : (t x : Name) → Descends (directory seats owned).owners t x → is_active (directory seats owned).owners x ≡ true
  descends_active t x (subtask m) = ap is_some m.1
  descends_active t x (further d m) = ap is_some m.1

  pub keeps : length owned ≡ 4098 → count_by is_some seats ≤ 32 → OwnersConsistent (directory seats owned).owners
  keeps long few = record {
    few = subst (λ n. n ≤ 32) (sym (tasks_len seats owned sound)) few;
    mothers = λ t x h. mothers t x h;
    one_first = one_first;
    reached = λ x h. let task = of_some (get (directory seats owned).owners.tasks x) h in let k = key_of x task.0 task.1 in reached x k.0 k.1 k.2 k.3;
    no_cycle = λ t d. let task = of_some (get (directory seats owned).owners.tasks t) (descends_active t t d) in let k = key_of t task.0 task.1 in
        not_itself seats owned k.0 k.1 sound k.2 (subst (λ n. Descends (directory seats owned).owners n n) (sym k.3) d);
    owned = λ t s h. its_number t s (item_at owned s) refl (sym (view-owner seats owned s) ∙ h);
    has_owner = λ t n s h.
        let k = entry_key t n s h in
        let o = sound.entries k.0 n s k.1 k.2 k.4 in
        let z = sound.owners s o.0 o.1 in
        ap is_some (view-owner seats owned s ∙ ap (owner_name seats) o.1 ∙ ap (option_map (λ (v : TaskSlot). v.name)) z.1);
    one_number = λ t q m n s g h.
        let j = entry_key t m s g in
        let k = entry_key q n s h in
        let a = sound.entries j.0 m s j.1 j.2 j.4 in
        let b = sound.entries k.0 n s k.1 k.2 k.4 in
        let f : Some a.0 ≡ Some b.0 = sym a.1 ∙ b.1 in
        let same : a.0 ≡ b.0 = cc in
        sym a.2 ∙ ap (λ (o : Owned). o.number) same ∙ b.2;
    active = λ t n s h. let k = entry_key t n s h in is_there k.0 k.1 t k.2 k.3;
    numbers = λ t n s h. let k = entry_key t n s h in is_number k.1 n (sound.places k.0 n s k.1 k.2 k.4);
    step_numbers = λ t n s h e. let k = entry_key t n s h in subst (IsFirst (directory seats owned).owners) k.3 (of_step k.0 k.1 n k.2 e (sound.places k.0 n s k.1 k.2 k.4));
    subpools = λ t s h. low t s (sym (view-owner seats owned s) ∙ h);
  } where
    of_step : (k : ℕ) (x : TaskSlot) (n : ℕ) → item_at seats k ≡ Some x → is_step_number n ≡ true → MayHave x n → IsFirst (directory seats owned).owners x.name
    of_step k x n h e (inl low) = absurd (let f : false ≡ true = sym (not_of_step n low) ∙ e in cc)
    of_step k x n h e (inr r) = (task_of seats x, at_name k x h, ap (mother_of seats) r.1)

    mothers : (t x : Name) → IsMother (directory seats owned).owners t x → is_active (directory seats owned).owners t ≡ true
    mothers t x (task, h, e) =
        let k = key_of x task h in
        by k.0 k.1 k.2 k.1.mother refl (ap (λ (v : Task). v.mother) k.4 ∙ e)
      where
        by : (k : ℕ) (y : TaskSlot) → item_at seats k ≡ Some y → (o : Option ℕ) → y.mother ≡ o → mother_of seats o ≡ Some t → is_active (directory seats owned).owners t ≡ true
        by k y a None f g = absurd (let i : ◌≡◌ {A = Option Name} None (Some t) = g in cc)
        by k y a (Some m) f g = let z = of_mapped (λ (v : TaskSlot). v.name) (item_at seats m) t g in is_there m z.0 t z.1 z.2

    reached : (x : Name) (k : ℕ) (y : TaskSlot) → item_at seats k ≡ Some y → y.name ≡ x → (t : Name) × IsFirst (directory seats owned).owners t × ((x ≡ t) ⊎ Descends (directory seats owned).owners t x)
    reached x k y h e = subst (λ q. (t : Name) × IsFirst (directory seats owned).owners t × ((q ≡ t) ⊎ Descends (directory seats owned).owners t q)) e (up (suc (sound.ranked.0 k)) k y h (omega arith))

    its_number : (t : Name) (s : ℕ) (o : Option Owned) → item_at owned s ≡ o → owner_name seats (item_at owned s) ≡ Some t → (n : ℕ) × (entry (directory seats owned).owners t n ≡ Some s)
    its_number t s None e h = absurd (let f : None ≡ Some t = sym (ap (owner_name seats) e) ∙ h in cc)
    its_number t s (Some o) e h =
        let z = sound.owners s o e in
        let f : Some z.0.name ≡ Some t = sym (ap (owner_name seats) e ∙ ap (option_map (λ (v : TaskSlot). v.name)) z.1) ∙ h in
        let same : z.0.name ≡ t = cc in
        (o.number, ap (λ q. entry (directory seats owned).owners q o.number) (sym same) ∙ view-entry seats owned z.0.name o.number ∙ ap (λ y. entry_of y o.number) (found seats o.owner z.0 sound.distinct z.1) ∙ z.2)

    low : (t : Name) (s : ℕ) → owner_name seats (item_at owned s) ≡ Some t → s < 4098
    low t s h = by (cases_lt s 4098) where
      by : (s < 4098) ⊎ (4098 ≤ s) → s < 4098
      by (inl l) = l
      by (inr l) = absurd (let f : None ≡ Some t = sym (ap (owner_name seats) (past_end owned s (omega (arith, long, l)))) ∙ h in cc)

-- the same of the value of `Tasks`
pub kept_at : (seats : List (Option TaskSlot)) (owned : List (Option Owned)) (d : TasksValue) → directory seats owned ≡ d → IsSound seats owned → length owned ≡ 4098 → count_by is_some seats ≤ 32 → OwnersConsistent d.owners
kept_at seats owned d e sound long few = subst (λ (v : TasksValue). OwnersConsistent v.owners) e (keeps seats owned sound long few)
