-- How `Tasks` keeps its tasks. No public clause cites this module.
use Rattle.std.specs.Prelude.{◌≡◌, ◌⊎◌, ℕ, ◌<◌, true, List, [], ◌∷◌, map, length, Option, Some, None, IsSome, slice_index_or, nat_lt, if◌then◌else◌}
use Rattle.std.specs.Option.{option_map}
use Rattle.mvs_model.specs.declared.name.Name.{Name}
use Rattle.mvs_model.specs.Name.{name_cmp, same_name}
use Rattle.mvs_model.specs.Owners.{entry_cmp, Task}
use Rattle.mvs_model.specs.Keyed.{keyed, pairs_below}
use Rattle.mvs_model.specs.Table.{table}
use Rattle.task_owner.specs.Tasks.{TasksValue}
use Rattle.task_owner.specs.declared.task_slot.TaskSlot.{TaskSlot}
use Rattle.task_owner.specs.declared.task_slot.Owned.{Owned}
use Rattle.mvs_model.specs.Numbers.{subpool_numbers, task_numbers}
use Rattle.mvs_model.specs.Subpool.{is_step_number}

-- what the list has at a place, and nothing past its end
abbrev pub item_at : {X : Type 0} → List (Option X) → ℕ → Option X
item_at xs k = slice_index_or xs k None

-- the name of the task at a key
abbrev pub name_of_seat : List (Option TaskSlot) → ℕ → Option Name
name_of_seat seats key = option_map (λ x. x.name) (item_at seats key)

-- the subpool that a task has under a number
abbrev pub number_of : TaskSlot → ℕ → Option ℕ
number_of x n = if nat_lt n subpool_numbers then item_at x.numbers n else None

-- the first task of this name
abbrev pub seat_named : List (Option TaskSlot) → Name → Option TaskSlot
seat_named [] t = None
seat_named (None ∷ rest) t = seat_named rest t
seat_named (Some x ∷ rest) t = if same_name t x.name then Some x else seat_named rest t

-- the names of the tasks
abbrev pub names : List (Option TaskSlot) → List Name
names [] = []
names (None ∷ rest) = names rest
names (Some x ∷ rest) = x.name ∷ names rest

-- the name of the mother
abbrev pub mother_of : List (Option TaskSlot) → Option ℕ → Option Name
mother_of seats None = None
mother_of seats (Some key) = name_of_seat seats key

-- the properties of a task
abbrev pub task_of : List (Option TaskSlot) → TaskSlot → Task
task_of seats x = record { mother = mother_of seats x.mother; residence = x.residence }

-- the subpool that a task, if there is one, has under a number
abbrev pub entry_of : Option TaskSlot → ℕ → Option ℕ
entry_of None n = None
entry_of (Some x) n = number_of x n

-- the name of the owner, if there is one
abbrev pub owner_name : List (Option TaskSlot) → Option Owned → Option Name
owner_name seats None = None
owner_name seats (Some o) = name_of_seat seats o.owner

-- the tasks and their subpools
unfoldable pub directory : List (Option TaskSlot) → List (Option Owned) → TasksValue
directory seats owned = record {
  owners = record {
    tasks = keyed name_cmp (names seats) (λ t. option_map (task_of seats) (seat_named seats t));
    table = keyed entry_cmp (pairs_below (names seats) subpool_numbers) (λ e. entry_of (seat_named seats e.0) e.1);
    owner = table (length owned) (λ s. owner_name seats (item_at owned s));
  };
  names = map (option_map (λ x. x.name)) seats;
}

-- no two tasks have one name
abbrev pub Distinct : List (Option TaskSlot) → Type 0
Distinct seats = (j k : ℕ) (x y : TaskSlot) → item_at seats j ≡ Some x → item_at seats k ≡ Some y → x.name ≡ y.name → j ≡ k

-- each mother is active
abbrev pub MothersActive : List (Option TaskSlot) → Type 0
MothersActive seats = (k m : ℕ) (x : TaskSlot) → item_at seats k ≡ Some x → x.mother ≡ Some m → IsSome (item_at seats m)

-- a mother has a lower rank than her subtasks
abbrev pub Ranks : List (Option TaskSlot) → (ℕ → ℕ) → Type 0
Ranks seats rank = (k m : ℕ) (x : TaskSlot) → item_at seats k ≡ Some x → x.mother ≡ Some m → rank m < rank k

-- The task may have a subpool under the number: under those that each task has for itself, and without a mother also under
-- those of the job step task.
abbrev pub MayHave : TaskSlot → ℕ → Type 0
MayHave x n = (n < task_numbers) ⊎ ((is_step_number n ≡ true) × (x.mother ≡ None))

-- No two tasks have the same name, each mother is active and no task descends from itself, at most one task has no mother, and the
-- subpools that the tasks have are those that have an owner. Each has one number that its owner and all who have it may use, and
-- its owner has it.
pub record IsSound (seats : List (Option TaskSlot)) (owned : List (Option Owned)) : Type 0 where
  pub distinct : Distinct seats
  pub mothers : MothersActive seats
  pub ranked : (rank : ℕ → ℕ) × Ranks seats rank
  pub first : (j k : ℕ) (x y : TaskSlot) → item_at seats j ≡ Some x → item_at seats k ≡ Some y → x.mother ≡ None → y.mother ≡ None → j ≡ k
  pub entries : (k n s : ℕ) (x : TaskSlot) → item_at seats k ≡ Some x → number_of x n ≡ Some s → (o : Owned) × (item_at owned s ≡ Some o) × (o.number ≡ n)
  pub places : (k n s : ℕ) (x : TaskSlot) → item_at seats k ≡ Some x → number_of x n ≡ Some s → MayHave x n
  pub owners : (s : ℕ) (o : Owned) → item_at owned s ≡ Some o → (x : TaskSlot) × (item_at seats o.owner ≡ Some x) × (number_of x o.number ≡ Some s)
