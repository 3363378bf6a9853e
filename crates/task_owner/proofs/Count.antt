-- How many tasks the map has.
use Rattle.std.proofs.Common.{◌≡◌, ℕ, suc, ◌+◌, Bool, true, false, cond, ◌||◌, List, [], ◌∷◌, Option, Some, None, is_some, count_by, ap, refl, ◌∙◌, arith}
use Rattle.std.proofs.lemmas.List.Sums.{sum_by-cons}
use Rattle.std.specs.List.{list_any}
use Rattle.std.specs.Option.{option_map}
use Rattle.std.specs.FinMap.{FinMap, get, len, len-empty, len-insert}
use Rattle.mvs_model.specs.Name.{name_cmp, same_name}
use Rattle.mvs_model.specs.Keyed.{keyed, put_in}
use Rattle.mvs_model.proofs.Keyed.{get-keyed}
use Rattle.mvs_model.proofs.Orders.{name_cmp_total, name_cmp-IsAntisymmetric, same_name_is}
use Rattle.mvs_model.specs.declared.name.Name.{Name}
use Rattle.task_owner.specs.Seats.{item_at, seat_named, names, task_of, directory, IsSound, Distinct}
use Rattle.task_owner.specs.declared.task_slot.TaskSlot.{TaskSlot}
use Rattle.task_owner.specs.declared.task_slot.Owned.{Owned}
use Rattle.task_owner.proofs.Reading.{rest_distinct, found}

-- the first name is not that of a later task
no_other : (x : TaskSlot) (rest : List (Option TaskSlot)) (seats : List (Option TaskSlot)) → Distinct (Some x ∷ seats) → ((k : ℕ) (y : TaskSlot) → item_at rest k ≡ Some y → (j : ℕ) × (item_at seats j ≡ Some y)) → list_any (same_name x.name) (names rest) ≡ false
no_other x [] seats d h = refl
no_other x (None ∷ rest) seats d h = no_other x rest seats d (λ k y e. h (suc k) y e)
no_other x (Some z ∷ rest) seats d h = by (same_name x.name z.name) (same_name_is x.name z.name) (no_other x rest seats d (λ k y e. h (suc k) y e)) where
  by : (b : Bool) → (b ≡ true → x.name ≡ z.name) → list_any (same_name x.name) (names rest) ≡ false → (b || list_any (same_name x.name) (names rest)) ≡ false
  by true f e = let j = h 0 z refl in absurd (let n : 0 ≡ suc j.0 = d 0 (suc j.0) x z refl j.1 (f refl) in omega arith)
  by false f e = e

put_len : {X : Type 0} (k : Name) (v : X) (o : Option X) (m : FinMap name_cmp X) → o ≡ Some v → get m k ≡ None → len (put_in name_cmp k o m) ≡ len m + 1
put_len k v o m e h = ap (λ p. len (put_in name_cmp k p m)) e ∙ len-insert name_cmp_total m k v ∙ ap (λ p. cond (is_some p) (len m) (len m + 1)) h

-- the map has as many tasks as the slab, where the function has a value at each of the names
names_len : {X : Type 0} (seats : List (Option TaskSlot)) (f : Name → Option X) → Distinct seats → ((k : ℕ) (x : TaskSlot) → item_at seats k ≡ Some x → (v : X) × (f x.name ≡ Some v)) → len (keyed name_cmp (names seats) f) ≡ count_by is_some seats
unfolding keyed
names_len {X} [] f d h = len-empty name_cmp X
names_len (None ∷ rest) f d h = names_len rest f (rest_distinct None rest d) (λ k x e. h (suc k) x e)
names_len (Some x ∷ rest) f d h =
    let v = h 0 x refl in
    let absent : get (keyed name_cmp (names rest) f) x.name ≡ None = get-keyed name_cmp_total name_cmp-IsAntisymmetric (names rest) f x.name ∙ ap (λ b. cond b (f x.name) None) (no_other x rest rest d (λ k y e. (k, e))) in
    let ih : len (keyed name_cmp (names rest) f) ≡ count_by is_some rest = names_len rest f (rest_distinct (Some x) rest d) (λ k x e. h (suc k) x e) in
    let one : count_by is_some (Some x ∷ rest) ≡ 1 + count_by is_some rest = sum_by-cons (λ (o : Option TaskSlot). cond (is_some o) 1 0) (Some x) rest in
    put_len x.name v.0 (f x.name) (keyed name_cmp (names rest) f) v.1 absent ∙ omega arith

pub tasks_len : (seats : List (Option TaskSlot)) (owned : List (Option Owned)) → IsSound seats owned → len (directory seats owned).owners.tasks ≡ count_by is_some seats
unfolding directory
tasks_len seats owned sound = names_len seats (λ t. option_map (task_of seats) (seat_named seats t)) sound.distinct (λ k x h. (task_of seats x, ap (option_map (task_of seats)) (found seats k x sound.distinct h)))
