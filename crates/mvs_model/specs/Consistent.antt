-- What the tasks and their subpools keep in every state of a run, also when the job step task has ended.
use Rattle.std.specs.Prelude.{◌≡◌, ◌⊎◌, ℕ, ◌<◌, ◌≤◌, true, Some, None, IsSome}
use Rattle.std.specs.FinMap.{get, len}
use Rattle.mvs_model.specs.declared.name.Name.{Name}
use Rattle.mvs_model.specs.Subpool.{IsSubpoolNumber, is_step_number}
use Rattle.mvs_model.specs.Owners.{Task, Owners, is_active, entry, IsMother, Descends}
use Rattle.mvs_model.specs.Numbers.{most_tasks, most_subpools}

-- The task is active and nobody attached it.
abbrev pub IsFirst : Owners → Name → Type 0
IsFirst o t = (task : Task) × (get o.tasks t ≡ Some task) × (task.mother ≡ None)

-- At most 32 tasks are active. If there are any, they are one tree: one of them has no mother, all others descend from it, and none
-- descends from itself. The subpools that the tasks have are those that have an owner. Each has one number, and its owner has it.
-- Only the task without a mother has the numbers 131 and 132.
pub record OwnersConsistent (o : Owners) : Type 0 where
  pub few : len o.tasks ≤ most_tasks
  pub mothers : (t x : Name) → IsMother o t x → is_active o t ≡ true
  pub one_first : (t q : Name) → IsFirst o t → IsFirst o q → t ≡ q
  pub reached : (x : Name) → is_active o x ≡ true → (t : Name) × IsFirst o t × ((x ≡ t) ⊎ Descends o t x)
  pub no_cycle : (t : Name) → Descends o t t → ⊥
  pub owned : (t : Name) (s : ℕ) → get o.owner s ≡ Some t → (n : ℕ) × (entry o t n ≡ Some s)
  pub has_owner : (t : Name) (n s : ℕ) → entry o t n ≡ Some s → IsSome (get o.owner s)
  pub one_number : (t q : Name) (m n s : ℕ) → entry o t m ≡ Some s → entry o q n ≡ Some s → m ≡ n
  pub active : (t : Name) (n s : ℕ) → entry o t n ≡ Some s → is_active o t ≡ true
  pub numbers : (t : Name) (n s : ℕ) → entry o t n ≡ Some s → IsSubpoolNumber n
  pub step_numbers : (t : Name) (n s : ℕ) → entry o t n ≡ Some s → is_step_number n ≡ true → IsFirst o t
  pub subpools : (t : Name) (s : ℕ) → get o.owner s ≡ Some t → s < most_subpools
