-- States while a task hands over what it gives and shares. No public clause uses this module.
use Rattle.std.specs.Prelude.{◌≡◌, ℕ, ◌<◌, ◌==◌, ◌&&◌, ◌||◌, List, Bool, not, Option, Some, None, nat_lt, if◌then◌else◌}
use Rattle.mvs_model.specs.Gifts.{GiftsValue, gives, shares}
use Rattle.std.specs.FinMap.{get}
use Rattle.mvs_model.specs.declared.name.Name.{Name}
use Rattle.mvs_model.specs.declared.want.Residence.{Residence}
use Rattle.mvs_model.specs.Name.{same_name}
use Rattle.mvs_model.specs.Finite.{Changes, has}
use Rattle.mvs_model.specs.Owners.{Owners, SubpoolOf, Enters, EntersBelow, entry, owns, handed, is_given}
use Rattle.task_owner.specs.Tasks.{TasksValue, name_at, name_of}
use Rattle.task_owner.specs.Seats.{item_at}
use Rattle.task_owner.specs.declared.task_slot.TaskSlot.{TaskSlot}
use Rattle.task_owner.specs.declared.task_slot.Owned.{Owned}
use Rattle.mvs_model.specs.Numbers.{subpool_numbers}

-- what the subtask has under a number
abbrev pub taken : GiftsValue → List (Option ℕ) → ℕ → Option ℕ
taken gifts numbers n = if gives gifts n || shares gifts n then item_at numbers n else None

-- what the mother still has under it
abbrev pub left_over : GiftsValue → List (Option ℕ) → ℕ → Option ℕ
left_over gifts numbers n = if gives gifts n then None else item_at numbers n

-- a subtask's numbers with what the mother shares, and with what she gives
abbrev pub with_shared : GiftsValue → List (Option ℕ) → List (Option ℕ) → ℕ → Option ℕ
with_shared gifts numbers subtask n = if shares gifts n then item_at numbers n else item_at subtask n

abbrev pub with_given : GiftsValue → List (Option ℕ) → List (Option ℕ) → ℕ → Option ℕ
with_given gifts numbers subtask n = if gives gifts n then item_at numbers n else item_at subtask n

-- a task that no longer has what it gives
pub record Leaves (gifts : GiftsValue) (old now : TaskSlot) : Type 0 where
  pub name : now.name ≡ old.name
  pub mother : now.mother ≡ old.mother
  pub residence : now.residence ≡ old.residence
  pub numbers : (n : ℕ) → n < subpool_numbers → item_at now.numbers n ≡ left_over gifts old.numbers n

-- whether the mother at the key owns it and gives it
abbrev pub is_handed : GiftsValue → ℕ → Owned → Bool
is_handed gifts mother o = (o.owner == mother) && gives gifts o.number

-- who owns a subpool of the mother once it is the other task's
abbrev pub owned_anew : ℕ → ℕ → Option Owned → Option Owned
owned_anew mother key None = None
owned_anew mother key (Some o) = Some (if o.owner == mother then record { owner = key; number = o.number } else o)

-- it is given by a number below the bound
abbrev pub passed_below : GiftsValue → ℕ → ℕ → ℕ → Option Owned → Option Owned
passed_below gifts mother key bound None = None
passed_below gifts mother key bound (Some o) = Some (if is_handed gifts mother o && nat_lt o.number bound then record { owner = key; number = o.number } else o)

-- who owns it once the mother has given it to the task at the other key
abbrev pub passed_on : GiftsValue → ℕ → ℕ → Option Owned → Option Owned
passed_on gifts mother key None = None
passed_on gifts mother key (Some o) = Some (if is_handed gifts mother o then record { owner = key; number = o.number } else o)

-- whether the mother gives the number and does not own what she has under it
abbrev pub is_shared_gift : Owners → Name → GiftsValue → ℕ → Bool
is_shared_gift o mother gifts n = gives gifts n && has (λ s. not (owns o mother s)) (entry o mother n)

-- the task has a subpool under the number, as before or as a new one
pub record GetsEntry (old : Owners) (t : Name) (number : ℕ) (new : Owners) : Type 0 where
  pub subpool : ℕ
  pub chosen : SubpoolOf old t number subpool
  pub entered : Enters old t number subpool new

-- the mother has a subpool under each number below the bound that she shares
pub record SharesBelow (old : TasksValue) (t : ℕ) (gifts : GiftsValue) (bound : ℕ) (now : TasksValue) : Type 0 where
  pub made : EntersBelow old.owners (name_of old t) (shares gifts) bound now.owners
  pub names : (id : ℕ) → name_at now id ≡ name_at old id

-- the name is that of an active task now, which has what the mother gives and shares and owns what she gives
pub record Admits (old : Owners) (mother name : Name) (gifts : GiftsValue) (residence : Residence) (new : Owners) : Type 0 where
  pub tasks : Changes (get old.tasks) (same_name name) (Some (record { mother = Some mother; residence = residence })) (get new.tasks)
  pub table : (t : Name) (number : ℕ) → entry new t number ≡ handed old mother name gifts t number
  pub owner : Changes (get old.owner) (is_given old mother gifts) (Some name) (get new.owner)
