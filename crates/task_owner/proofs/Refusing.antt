-- Why an attach is refused.
use Rattle.std.proofs.Common.{MatchOption, ◌≡◌, ℕ, Bool, false, not, ◌&&◌, List, Option, Some, None, is_some, count_by, sym, ap, refl, ◌∙◌}
use Rattle.std.specs.FinMap.{len}
use Rattle.mvs_model.specs.declared.name.Name.{Name}
use Rattle.mvs_model.specs.declared.refusal.Refusal.{Refusal}
use Rattle.mvs_model.specs.Gifts.{GiftsValue, gives}
use Rattle.mvs_model.specs.Finite.{has}
use Rattle.mvs_model.specs.Owners.{Owners, entry, owns}
use Rattle.task_owner.specs.Tasks.{TasksValue}
use Rattle.task_owner.specs.Seats.{directory, IsSound}
use Rattle.task_owner.specs.Handing.{is_shared_gift}
use Rattle.task_owner.specs.declared.task_slot.TaskSlot.{TaskSlot}
use Rattle.task_owner.specs.declared.task_slot.Owned.{Owned}
use Rattle.task_owner.proofs.Count.{tasks_len}

-- what the two calls say of a number
pub shared_gift : (o : Owners) (t : Name) (gifts : GiftsValue) (n m : ℕ) (a b : Bool) → a ≡ gives gifts n → m ≡ n → b ≡ has (λ s. not (owns o t s)) (entry o t m) → (a && b) ≡ is_shared_gift o t gifts n
shared_gift o t gifts n m a b f g h = λ i. f i && (h ∙ ap (λ k. has (λ s. not (owns o t s)) (entry o t k)) g) i

-- what holds where there is no refusal
pub passed_by : {P : Type 0} (R : Refusal → Type 0) (r : Option Refusal) → MatchOption r P R → ((x : Refusal) → r ≡ Some x → ⊥) → P
passed_by R None p none = p
passed_by R (Some x) p none = absurd (none x refl)

module _ (seats : List (Option TaskSlot)) (owned : List (Option Owned)) (d : TasksValue) (e : directory seats owned ≡ d) (sound : IsSound seats owned) where
  pub len_is : len d.owners.tasks ≡ count_by is_some seats
  len_is = ap (λ (v : TasksValue). len v.owners.tasks) (sym e) ∙ tasks_len seats owned sound

pub not_given : (o : Owners) (mother : Name) (gifts : GiftsValue) (n : ℕ) → gives gifts n ≡ false → is_shared_gift o mother gifts n ≡ false
not_given o mother gifts n e = ap (λ b. b && has (λ s. not (owns o mother s)) (entry o mother n)) e
