-- The task whose subpool a task means by a number, at its key.
use Rattle.std.proofs.Common.{◌≡◌, ◌≢◌, ℕ, suc, ◌<◌, ◌||◌, Bool, true, false, cond, List, Option, Some, None, is_some, IsSome, unwrap_or, ltb, sym, ap, subst, refl, ◌∙◌, arith, inl, inr}
use Rattle.std.proofs.lemmas.Bool.Decides.{nat_tests}
use Rattle.mvs_model.specs.declared.name.Name.{Name}
use Rattle.mvs_model.specs.Subpool.{is_subpool_number, is_step_number}
use Rattle.mvs_model.specs.Owners.{Owners, Task, entry, job_step_task, effective_task, subpool_meant}
use Rattle.mvs_model.specs.Consistent.{IsFirst}
use Rattle.mvs_model.proofs.Keepers.{first_of, first_some}
use Rattle.task_owner.specs.Tasks.{TasksValue, name_at, IsTask, name_of}
use Rattle.task_owner.specs.Seats.{item_at, number_of, mother_of, task_of, entry_of, directory, MayHave, IsSound}
use Rattle.task_owner.specs.declared.task_slot.TaskSlot.{TaskSlot}
use Rattle.task_owner.specs.declared.task_slot.Owned.{Owned}
use Rattle.task_owner.proofs.Reading.{found, view-entry, name_at_is, the_seat, name_is}
use Rattle.task_owner.proofs.Keeping.{at_name, key_of, no_mother, one_first, up}

-- a number that is not the job step task's is each task's own
pub own_keeper : (o : Owners) (t : Name) (n : ℕ) → is_step_number n ≡ false → effective_task o t n ≡ t
own_keeper o t n e = ap (λ b. cond b (unwrap_or (job_step_task o) t) t) e

-- one that is his is the job step task's
pub step_keeper : (o : Owners) (t q : Name) (n : ℕ) → is_step_number n ≡ true → job_step_task o ≡ Some q → effective_task o t n ≡ q
step_keeper o t q n e f = ap (λ b. cond b (unwrap_or (job_step_task o) t) t) e ∙ ap (λ first. unwrap_or first t) f

-- and where there is no job step task, each task's own
pub lone_keeper : (o : Owners) (t : Name) (n : ℕ) → job_step_task o ≡ None → effective_task o t n ≡ t
lone_keeper o t n f = ap (λ first. cond (is_step_number n) (unwrap_or first t) t) f ∙ at (is_step_number n) where
  at : (b : Bool) → cond b t t ≡ t
  at true = refl
  at false = refl

module _ (seats : List (Option TaskSlot)) (owned : List (Option Owned)) (sound : IsSound seats owned) where
  abbrev D : Owners
  D = (directory seats owned).owners

  -- the task without a mother is the job step task
  first_is : (k : ℕ) (x : TaskSlot) → item_at seats k ≡ Some x → x.mother ≡ None → job_step_task D ≡ Some x.name
  first_is k x h e = by (job_step_task D) refl (first_some D x.name first) where
    first : IsFirst D x.name
    first = (task_of seats x, at_name seats owned sound k x h, ap (mother_of seats) e)

    by : (o : Option Name) → job_step_task D ≡ o → IsSome (job_step_task D) → job_step_task D ≡ Some x.name
    by None f g = absurd (let i : false ≡ true = sym (ap (λ (o : Option Name). is_some o) f) ∙ g in cc)
    by (Some q) f g = f ∙ ap Some (one_first seats owned sound q x.name (first_of D q f) first)

  -- the key of the job step task
  first_key : (q : Name) → job_step_task D ≡ Some q → (k : ℕ) × (x : TaskSlot) × (item_at seats k ≡ Some x) × (x.name ≡ q) × (x.mother ≡ None)
  first_key q f =
      let first = first_of D q f in
      let k = key_of seats owned sound q first.0 first.1 in
      (k.0, k.1, k.2, k.3, no_mother seats owned sound k.0 k.1 k.2 (ap (λ (task : Task). task.mother) k.4 ∙ first.2))

  -- where each task has a mother there is none
  no_first : ((k : ℕ) (x : TaskSlot) → item_at seats k ≡ Some x → x.mother ≢ None) → job_step_task D ≡ None
  no_first h = by (job_step_task D) refl where
    by : (o : Option Name) → job_step_task D ≡ o → o ≡ None
    by None f = refl
    by (Some q) f = let k = first_key q f in absurd (h k.0 k.1 k.2 k.4)

  -- the keeper may have a subpool under the number
  may_have_at : (k : ℕ) (y : TaskSlot) (t : Name) (n : ℕ) → item_at seats k ≡ Some y → y.name ≡ effective_task D t n → is_subpool_number n ≡ true → MayHave y n
  may_have_at k y t n h e valid = by (is_step_number n) refl where
    low : (n : ℕ) (b : Bool) → b ≡ false → (ltb n 128 || b) ≡ true → n < 128
    low n true f g = absurd (let i : true ≡ false = f in cc)
    low n false f g = by_test (ltb n 128) refl g where
      by_test : (b : Bool) → ltb n 128 ≡ b → (b || false) ≡ true → n < 128
      by_test true i j = grind (arith, nat_tests)
      by_test false i j = absurd (let l : false ≡ true = j in cc)

    by : (b : Bool) → is_step_number n ≡ b → MayHave y n
    by false f = inl (low n (is_step_number n) f valid)
    by true f = inr (f, two (job_step_task D) refl) where
      first : (q : Name) × IsFirst D q
      first = let r = up seats owned sound (suc (sound.ranked.0 k)) k y h (omega arith) in (r.0, r.1)

      two : (o : Option Name) → job_step_task D ≡ o → y.mother ≡ None
      two None g = absurd (let i : false ≡ true = sym (ap (λ (o : Option Name). is_some o) g) ∙ first_some D first.0 first.1 in cc)
      two (Some q) g =
          let same : y.name ≡ q = e ∙ step_keeper D t q n f g in
          let z = first_key q g in
          let at : z.0 ≡ k = sound.distinct z.0 k z.1 y z.2 h (z.3 ∙ sym same) in
          let i : Some z.1 ≡ Some y = sym z.2 ∙ ap (item_at seats) at ∙ h in
          let alike : z.1 ≡ y = cc in
          ap (λ (v : TaskSlot). v.mother) (sym alike) ∙ z.4

  -- the keeper for a task is active
  keeper_seat : (k : ℕ) (x : TaskSlot) (n : ℕ) → item_at seats k ≡ Some x → (j : ℕ) × (y : TaskSlot) × (item_at seats j ≡ Some y) × (y.name ≡ effective_task D x.name n)
  keeper_seat k x n h = by (is_step_number n) refl (job_step_task D) refl where
    by : (b : Bool) → is_step_number n ≡ b → (o : Option Name) → job_step_task D ≡ o → (j : ℕ) × (y : TaskSlot) × (item_at seats j ≡ Some y) × (y.name ≡ effective_task D x.name n)
    by false e o f = (k, x, h, sym (own_keeper D x.name n e))
    by true e None f = (k, x, h, sym (lone_keeper D x.name n f))
    by true e (Some q) f = let z = first_key q f in (z.0, z.1, z.2, z.3 ∙ sym (step_keeper D x.name q n e f))

-- the same of the value of `Tasks`
module _ (seats : List (Option TaskSlot)) (owned : List (Option Owned)) (d : TasksValue) (e : directory seats owned ≡ d) (sound : IsSound seats owned) where
  pub common_found : (n : ℕ) (k : ℕ) (x : TaskSlot) → is_step_number n ≡ true → item_at seats k ≡ Some x → x.mother ≡ None → (t : Name) → name_at d k ≡ Some (effective_task d.owners t n)
  common_found n k x step h none t =
      name_at_is seats owned d k x e h
      ∙ ap Some (sym (subst (λ (v : TasksValue). effective_task v.owners t n ≡ x.name) e (step_keeper (directory seats owned).owners t x.name n step (first_is seats owned sound k x h none))))

  pub common_none : (n : ℕ) → ((k : ℕ) (x : TaskSlot) → item_at seats k ≡ Some x → x.mother ≢ None) → (t : Name) → effective_task d.owners t n ≡ t
  common_none n h t = subst (λ (v : TasksValue). effective_task v.owners t n ≡ t) e (lone_keeper (directory seats owned).owners t n (no_first seats owned sound h))

  pub may_have : (k : ℕ) (y : TaskSlot) (t : Name) (n : ℕ) → item_at seats k ≡ Some y → y.name ≡ effective_task d.owners t n → is_subpool_number n ≡ true → MayHave y n
  may_have k y t n h same valid = may_have_at seats owned sound k y t n h (same ∙ ap (λ (v : TasksValue). effective_task v.owners t n) (sym e)) valid

  -- a task means no subpool by a number: the number's keeper is active, and has none under it
  pub none_meant : (key id n : ℕ) → key ≡ id → IsTask d id → is_subpool_number n ≡ true → subpool_meant d.owners (name_of d id) n ≡ None
      → (k : ℕ) × (y : TaskSlot) × (item_at seats k ≡ Some y) × MayHave y n × (number_of y n ≡ None)
  none_meant key id n f active valid none =
      let x = the_seat seats owned d key id e f active in
      let name = name_is seats owned d key id e f sound x.0 x.1 in
      let y = keeper_seat seats owned sound key x.0 n x.1 in
      let entry_is : entry (directory seats owned).owners y.1.name n ≡ number_of y.1 n = view-entry seats owned y.1.name n ∙ ap (λ o. entry_of o n) (found seats y.0 y.1 sound.distinct y.2) in
      let meant : entry (directory seats owned).owners (effective_task (directory seats owned).owners x.0.name n) n ≡ None =
      ap (λ (v : TasksValue). subpool_meant v.owners x.0.name n) e ∙ ap (λ t. subpool_meant d.owners t n) (sym name) ∙ none in (
        y.0,
        y.1,
        y.2,
        may_have_at seats owned sound y.0 y.1 x.0.name n y.2 y.3 valid,
        sym entry_is ∙ ap (λ t. entry (directory seats owned).owners t n) y.3 ∙ meant,
      )

  -- the task at the keeper's key may have a subpool under the number
  pub keeper_place : (key id n number : ℕ) (t : Name) → key ≡ id → name_of d id ≡ effective_task d.owners t number → n ≡ number → is_subpool_number n ≡ true → (x : TaskSlot) → item_at seats key ≡ Some x → MayHave x n
  keeper_place key id n number t f same is valid x h =
      may_have key x t n h (sym (name_is seats owned d key id e f sound x h) ∙ same ∙ ap (effective_task d.owners t) (sym is)) valid
