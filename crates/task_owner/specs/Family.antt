-- States while a task and its descendants are removed. No public clause uses this module.
use Rattle.std.specs.Prelude.{◌≡◌, ℕ, ◌+◌, ◌<◌, ◌≤◌, ◌==◌, ◌&&◌, List, length, Bool, true, not, Option, Some, None, is_some, count_by, nat_lt, if◌then◌else◌}
use Rattle.std.specs.List.{list_any}
use Rattle.slab.specs.Slab.{Slab, get, slab_len}
use Rattle.mvs_model.specs.declared.name.Name.{Name}
use Rattle.mvs_model.specs.Name.{same_name}
use Rattle.mvs_model.specs.Finite.{Keeps, has, kept}
use Rattle.mvs_model.specs.Owners.{is_among_ended}
use Rattle.mvs_model.specs.Storage.{is_one_of}
use Rattle.task_owner.specs.Seats.{item_at, number_of}
use Rattle.task_owner.specs.declared.task_slot.TaskSlot.{TaskSlot}
use Rattle.task_owner.specs.declared.task_slot.Owned.{Owned}

-- new is old, but with what the goal has at each place below the bound
abbrev pub MadeBelow : {X : Type 0} → (ℕ → Option X) → (ℕ → Option X) → ℕ → (ℕ → Option X) → Type 0
MadeBelow old goal bound new = (k : ℕ) → new k ≡ (if nat_lt k bound then goal k else old k)

-- the task at the key is a subtask of the one at t, or of one that descends from it
pub data Below (seats : List (Option TaskSlot)) (t : ℕ) : ℕ → Type 0 where
  child : {k : ℕ} (x : TaskSlot) → item_at seats k ≡ Some x → x.mother ≡ Some t → Below seats t k
  lower : {m k : ℕ} (x : TaskSlot) → Below seats t m → item_at seats k ≡ Some x → x.mother ≡ Some m → Below seats t k

-- The task of this name, at t, and those of the names are out, and each of the names is that of one descendant.
pub record Falls (old : Slab TaskSlot) (t : ℕ) (name : Name) (names : List Name) (now : Slab TaskSlot) : Type 0 where
  pub kept : Keeps (get old) (λ _ x. not (is_among_ended name names x.name)) (get now)
  pub below : (q : Name) → list_any (same_name q) names ≡ true → (k : ℕ) × (x : TaskSlot) × (get old k ≡ Some x) × (x.name ≡ q) × Below old.slots t k
  pub once : (q : Name) → count_by (same_name q) names ≤ 1
  pub len : slab_len now + length names + 1 ≡ slab_len old
  pub capacity : now.capacity ≡ old.capacity

-- whether the owner is active
abbrev pub is_owner_active : Slab TaskSlot → Owned → Bool
is_owner_active active o = is_some (get active o.owner)

-- whether the subpool has an owner that is not active
abbrev pub falls_free : Slab TaskSlot → List (Option Owned) → ℕ → Bool
falls_free active owned s = has (λ o. not (is_owner_active active o)) (item_at owned s)

-- the set has the subpools whose owner is not active
abbrev pub IsFreed : Slab TaskSlot → List (Option Owned) → List ℕ → Type 0
IsFreed active owned freed = (s : ℕ) → is_one_of freed s ≡ falls_free active owned s

-- whether the task at the key owns it
abbrev pub is_of : ℕ → Option Owned → Bool
is_of key = has (λ (o : Owned). o.owner == key)

-- each subpool has its number with its owner
abbrev pub OwnersHave : List (Option TaskSlot) → List (Option Owned) → Type 0
OwnersHave seats owned = (s : ℕ) (o : Owned) → item_at owned s ≡ Some o → (x : TaskSlot) × (item_at seats o.owner ≡ Some x) × (number_of x o.number ≡ Some s)

-- each subpool of a task has its number there
abbrev pub EntriesStand : List (Option TaskSlot) → List (Option Owned) → Type 0
EntriesStand seats owned = (k n s : ℕ) (x : TaskSlot) → item_at seats k ≡ Some x → number_of x n ≡ Some s → (o : Owned) × (item_at owned s ≡ Some o) × (o.number ≡ n)

-- whether the subpool has an owner
abbrev pub has_owner : List (Option Owned) → ℕ → Bool
has_owner owned s = is_some (item_at owned s)

-- a task with only the entries of subpools that pass the test
pub record TrimsBy (test : ℕ → Bool) (old now : TaskSlot) : Type 0 where
  pub name : now.name ≡ old.name
  pub mother : now.mother ≡ old.mother
  pub residence : now.residence ≡ old.residence
  pub numbers : (n : ℕ) → number_of now n ≡ kept test (number_of old n)

-- the same where there is a task
abbrev pub IsTrimmedBy : (ℕ → Bool) → Option TaskSlot → Option TaskSlot → Type 0
IsTrimmedBy test None now = now ≡ None
IsTrimmedBy test (Some x) now = (y : TaskSlot) × (now ≡ Some y) × TrimsBy test x y

-- with only the entries of subpools that have an owner
abbrev pub IsTrimmed : List (Option Owned) → Option TaskSlot → Option TaskSlot → Type 0
IsTrimmed owned = IsTrimmedBy (has_owner owned)

-- a task that no longer has the subpool under the number
pub record Loses (number s : ℕ) (old now : TaskSlot) : Type 0 where
  pub name : now.name ≡ old.name
  pub mother : now.mother ≡ old.mother
  pub residence : now.residence ≡ old.residence
  pub numbers : (n : ℕ) → number_of now n ≡ (if (n == number) && has (λ r. r == s) (number_of old n) then None else number_of old n)

-- the same where there is a task
abbrev pub IsLost : ℕ → ℕ → Option TaskSlot → Option TaskSlot → Type 0
IsLost number s None now = now ≡ None
IsLost number s (Some x) now = (y : TaskSlot) × (now ≡ Some y) × Loses number s x y

-- below the bound the tasks have lost it, and from it on they are as before
pub record LostBelow (number s : ℕ) (old : Slab TaskSlot) (bound : ℕ) (now : Slab TaskSlot) : Type 0 where
  pub below : (k : ℕ) → k < bound → IsLost number s (get old k) (get now k)
  pub later : (k : ℕ) → bound ≤ k → get now k ≡ get old k
  pub len : slab_len now ≡ slab_len old
  pub capacity : now.capacity ≡ old.capacity

-- whether the subpool is one of the set below the bound
abbrev pub is_freed_below : List ℕ → ℕ → ℕ → Bool
is_freed_below freed bound s = nat_lt s bound && is_one_of freed s

-- The subpools of the set that are below the bound have no owner, and no task has an entry for one of these.
pub record FreedBelow (old : Slab TaskSlot) (owned : List (Option Owned)) (freed : List ℕ) (bound : ℕ) (now : Slab TaskSlot) (left : List (Option Owned)) : Type 0 where
  pub owners : (s : ℕ) → item_at left s ≡ (if is_freed_below freed bound s then None else item_at owned s)
  pub each : (k : ℕ) → IsTrimmedBy (λ s. not (is_freed_below freed bound s)) (get old k) (get now k)
  pub sizes : length left ≡ length owned
  pub len : slab_len now ≡ slab_len old
  pub capacity : now.capacity ≡ old.capacity
