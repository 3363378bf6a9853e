-- Tasks, the subpools that they have under numbers, and who owns a subpool.
use Rattle.std.specs.Prelude.{◌≡◌, ◌↔◌, ℕ, suc, ◌<◌, Bool, true, false, not, ◌&&◌, ◌||◌, ◌==◌, List, find, Option, Some, None, is_some, if◌then◌else◌, IsSome, MatchOption, refl}
use Rattle.std.specs.Option.{unwrap_or}
use Rattle.std.specs.List.{list_any, Contains}
use Rattle.std.specs.List.Sorted.{IsStrictlySortedBy}
use Rattle.std.specs.declared.cmp.Ordering.{Ordering}
use Rattle.std.specs.Ordering.{nat_cmp, then_cmp, on}
use Rattle.std.specs.FinMap.{FinMap, get, contains_key, keys, code}
use Rattle.std.specs.Coded.{Coded, code_by, coded×, coded_ℕ, coded_bool, coded_option}
use Rattle.mvs_model.specs.declared.name.Name.{Name}
use Rattle.mvs_model.specs.declared.want.Residence.{Residence}
use Rattle.mvs_model.specs.declared.want.Residence.TheVariants.{Below, Above}
use Rattle.mvs_model.specs.Name.{name_cmp, same_name, name_code}
use Rattle.mvs_model.specs.Finite.{Changes, Keeps, has, any_below}
use Rattle.mvs_model.specs.Gifts.{GiftsValue, gives, shares}
use Rattle.mvs_model.specs.Numbers.{task_numbers}
use Rattle.mvs_model.specs.Subpool.{is_step_number}

-- An active task: who attached it (nobody, for the job step task), and where it resides. (Assembler Services Guide,
-- subtasking)
pub record Task : Type 0 where
  pub mother : Option Name
  pub residence : Residence

-- by the task's name, and then by the number
abbrev pub entry_cmp : Name × ℕ → Name × ℕ → Ordering
entry_cmp = then_cmp (on (λ e. e.0) name_cmp) (on (λ e. e.1) nat_cmp)

-- The active tasks, the subpool that a task has under a number, and the task that owns a subpool. (Assembler Services
-- Guide, owning and sharing subpools)
pub record Owners : Type 0 where
  pub tasks : FinMap name_cmp Task
  pub table : FinMap entry_cmp ℕ
  pub owner : FinMap nat_cmp Name

-- codes, for a model's value
abbrev is_above : Residence → Bool
is_above Below = false
is_above Above = true

-- the residence that this says
abbrev above_if : Bool → Residence
above_if false = Below
above_if true = Above

-- the residence is the given one
abbrev above_if-is_above : (r : Residence) → above_if (is_above r) ≡ r
above_if-is_above Below = refl
above_if-is_above Above = refl

-- the code of a task
abbrev pub task_code : Coded Task
task_code =
    code_by (Option Name × Residence)
    (coded× (coded_option name_code) (code_by Bool coded_bool is_above above_if above_if-is_above))
    (λ t. (t.mother, t.residence))
    (λ p. record { mother = p.0; residence = p.1 })
    (λ _. refl)

-- the code of a task with a number
abbrev pub entry_code : Coded (Name × ℕ)
entry_code = coded× name_code coded_ℕ

-- the code of all three maps
abbrev pub owners_code : Coded Owners
owners_code =
    code_by (FinMap name_cmp Task × (FinMap entry_cmp ℕ × FinMap nat_cmp Name))
    (coded× (code name_code task_code) (coded× (code entry_code coded_ℕ) (code coded_ℕ name_code)))
    (λ o. (o.tasks, (o.table, o.owner)))
    (λ p. record { tasks = p.0; table = p.1.0; owner = p.1.1 })
    (λ _. refl)

-- whether the task is active
abbrev pub is_active : Owners → Name → Bool
is_active o t = contains_key o.tasks t

-- the subpool that the task has under the number
abbrev pub entry : Owners → Name → ℕ → Option ℕ
entry o t number = get o.table (t, number)

-- the task attached the other, which is active
abbrev pub IsMother : Owners → Name → Name → Type 0
IsMother o t other = (task : Task) × (get o.tasks other ≡ Some task) × (task.mother ≡ Some t)

-- whether it did
abbrev is_child : Name → Task → Bool
is_child t task = has (same_name t) task.mother

-- whether the task has an active subtask
abbrev pub has_subtask : Owners → Name → Bool
has_subtask o t = list_any (λ x. has (is_child t) (get o.tasks x)) (keys o.tasks)

-- whether the task owns the subpool
abbrev pub owns : Owners → Name → ℕ → Bool
owns o t s = has (same_name t) (get o.owner s)

-- the job step task: the active task that nobody attached
abbrev pub job_step_task : Owners → Option Name
job_step_task o = find (λ t. has (λ task. not (is_some task.mother)) (get o.tasks t)) (keys o.tasks)

-- whose subpool a task means by a number: the job step task's for 131 and 132, and else its own. (this project's choice)
abbrev pub effective_task : Owners → Name → ℕ → Name
effective_task o t number = if is_step_number number then unwrap_or (job_step_task o) t else t

-- the subpool that a task means by a number, where it is there
abbrev pub subpool_meant : Owners → Name → ℕ → Option ℕ
subpool_meant o t number = entry o (effective_task o t number) number

-- Nobody owns the subpool, and each lower one has an owner. (that the least is taken is this project's choice)
pub record IsSpare (o : Owners) (s : ℕ) : Type 0 where
  pub spare : get o.owner s ≡ None
  pub least : (r : ℕ) → r < s → IsSome (get o.owner r)

-- What the task has under the number, or else the least subpool without an owner. (Assembler Services Guide, creating
-- subpools)
abbrev pub SubpoolOf : Owners → Name → ℕ → ℕ → Type 0
SubpoolOf o t number s = MatchOption (entry o t number) (IsSpare o s) (λ r. s ≡ r)

-- The task now has the subpool under the number and owns it, and all else is as before.
pub record Binds (old : Owners) (t : Name) (number s : ℕ) (new : Owners) : Type 0 where
  pub tasks : new.tasks ≡ old.tasks
  pub table : Changes (get old.table) (λ e. same_name e.0 t && (e.1 == number)) (Some s) (get new.table)
  pub owner : Changes (get old.owner) (λ r. r == s) (Some t) (get new.owner)

-- The task has the subpool under the number: as before, or as a new one that it owns. (Assembler Services Guide, creating
-- subpools)
abbrev pub Enters : Owners → Name → ℕ → ℕ → Owners → Type 0
Enters old t number s new = MatchOption (entry old t number) (Binds old t number s new) (λ _. new ≡ old)

-- The task has a subpool for each selected number below the bound. Missing ones are created in rising order. (Assembler Services
-- Reference, ATTACH, SHSPV; that they are created is this project's choice)
pub data EntersBelow (old : Owners) (t : Name) (wanted : ℕ → Bool) : ℕ → Owners → Type 0 where
  none : EntersBelow old t wanted 0 old
  passed : {number : ℕ} {now : Owners} → EntersBelow old t wanted number now → wanted number ≡ false → EntersBelow old t wanted (suc number) now
  entered : (s : ℕ) {number : ℕ} {now new : Owners} → EntersBelow old t wanted number now → wanted number ≡ true → SubpoolOf now t number s → Enters now t number s new → EntersBelow old t wanted (suc number) new

-- whether the mother gives a number whose subpool she does not own. (this project's choice)
abbrev pub gives_shared : Owners → Name → GiftsValue → Bool
gives_shared o mother gifts = any_below (λ n. gives gifts n && has (λ s. not (owns o mother s)) (entry o mother n)) task_numbers

-- whether the subpool is one that the mother has under a number that she gives
abbrev pub is_given : Owners → Name → GiftsValue → ℕ → Bool
is_given o mother gifts s = any_below (λ n. gives gifts n && has (λ r. r == s) (entry o mother n)) task_numbers

-- what a task has under a number once the mother's gifts are handed over: the subtask has what is given and shared, the
-- mother has no more what she gave
abbrev pub handed : Owners → Name → Name → GiftsValue → Name → ℕ → Option ℕ
handed ready mother name gifts t number =
    if same_name t name then (if gives gifts number || shares gifts number then entry ready mother number else None)
    else (if same_name t mother && gives gifts number then None else entry ready t number)

-- The mother has a subpool under each number that she shares. The name is then that of an active task, which has what she
-- gives and shares, and owns what she gives; all else is as before. (Assembler Services Reference, ATTACH; what becomes of
-- numbers that the mother does not have is this project's choice)
pub record Attach (old : Owners) (mother name : Name) (gifts : GiftsValue) (residence : Residence) (new : Owners) : Type 0 where
  pub ready : Owners
  pub made : EntersBelow old mother (shares gifts) task_numbers ready
  pub tasks : Changes (get old.tasks) (same_name name) (Some (record { mother = Some mother; residence = residence })) (get new.tasks)
  pub table : (t : Name) (number : ℕ) → entry new t number ≡ handed ready mother name gifts t number
  pub owner : Changes (get ready.owner) (is_given ready mother gifts) (Some name) (get new.owner)

-- The other task is a subtask of the task, or of one of its descendants. (Assembler Services Guide, subtasking)
pub data Descends (o : Owners) (t : Name) : Name → Type 0 where
  subtask : {x : Name} → IsMother o t x → Descends o t x
  further : {m x : Name} → Descends o t m → IsMother o m x → Descends o t x

-- The names are those of the task's descendants, in byte order. (the order is this project's choice)
pub record AreDescendants (o : Owners) (t : Name) (names : List Name) : Type 0 where
  pub sorted : IsStrictlySortedBy name_cmp names
  pub descendants : (x : Name) → Contains names x ↔ Descends o t x

-- whether the name is the task's or one of those that fall with it
abbrev pub is_among_ended : Name → List Name → Name → Bool
is_among_ended t fallen x = same_name x t || list_any (same_name x) fallen

-- whether the subpool is owned by the task or by one that ends with it
abbrev pub ends_with : Owners → Name → List Name → ℕ → Bool
ends_with o t fallen s = has (is_among_ended t fallen) (get o.owner s)

-- The task and those that fall with it are no longer active, and their entries go. The subpools that they own have no
-- owner, and no task has an entry for one of these. All else is as before. (Assembler Services Guide, owning and sharing
-- subpools)
pub record Ends (old : Owners) (t : Name) (fallen : List Name) (new : Owners) : Type 0 where
  pub tasks : Keeps (get old.tasks) (λ x _. not (is_among_ended t fallen x)) (get new.tasks)
  pub table : Keeps (get old.table) (λ e s. not (is_among_ended t fallen e.0 || ends_with old t fallen s)) (get new.table)
  pub owner : Keeps (get old.owner) (λ _ x. not (is_among_ended t fallen x)) (get new.owner)
