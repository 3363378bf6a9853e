-- What the view of `Tasks` says at a key and at a name.
use Rattle.std.proofs.Common.{◌≡◌, ◌≢◌, ℕ, zero, suc, ◌<◌, Bool, true, false, cond, ◌&&◌, ◌||◌, List, [], ◌∷◌, length, Option, Some, None, IsSome, unwrap_or, slice_index_or, ltb, sym, ap, subst, refl, ◌∙◌, arith, ◌⊎◌, inl, inr}
use Rattle.std.proofs.lemmas.Bool.Decides.{nat_tests}
use Rattle.std.specs.List.{list_any}
use Rattle.std.specs.Option.{option_map}
use Rattle.std.specs.FinMap.{get}
use Rattle.mvs_model.specs.declared.name.Name.{Name}
use Rattle.mvs_model.specs.Name.{same_name}
use Rattle.mvs_model.specs.Owners.{entry}
use Rattle.mvs_model.specs.Keyed.{pairs_below}
use Rattle.mvs_model.proofs.Keyed.{get-keyed_all, any-pairs_below}
use Rattle.mvs_model.proofs.Orders.{name_cmp_total, entry_cmp_total, name_cmp-IsAntisymmetric, entry_cmp-IsAntisymmetric, same_name_is, same_name_self}
use Rattle.mvs_model.proofs.Tables.{get-table_all}
use Rattle.task_owner.specs.Tasks.{TasksValue, name_at, IsTask, name_of, residence_of}
use Rattle.task_owner.specs.Seats.{item_at, name_of_seat, number_of, seat_named, names, task_of, entry_of, owner_name, directory, IsSound, Distinct}
use Rattle.task_owner.specs.declared.task_slot.TaskSlot.{TaskSlot}
use Rattle.task_owner.specs.declared.task_slot.Owned.{Owned}
use Rattle.task_owner.proofs.Places.{at_map, past_end, of_some, same_default}

-- two names are the same or not, and the test says which
pub name_cases : (a b : Name) → ((same_name a b ≡ true) × (a ≡ b)) ⊎ ((same_name a b ≡ false) × (a ≢ b))
name_cases a b = by (same_name a b) refl where
  by : (c : Bool) → same_name a b ≡ c → ((same_name a b ≡ true) × (a ≡ b)) ⊎ ((same_name a b ≡ false) × (a ≢ b))
  by true t = inl (t, same_name_is a b t)
  by false t = inr (t, λ e. (let f : true ≡ false = sym (same_name_self a) ∙ ap (same_name a) e ∙ t in cc))

none_named : (seats : List (Option TaskSlot)) (t : Name) → list_any (same_name t) (names seats) ≡ false → seat_named seats t ≡ None
none_named [] t e = refl
none_named (None ∷ rest) t e = none_named rest t e
none_named (Some x ∷ rest) t e = by (same_name t x.name) e (none_named rest t) where
  by : (b : Bool) → (b || list_any (same_name t) (names rest)) ≡ false → (list_any (same_name t) (names rest) ≡ false → seat_named rest t ≡ None) → cond b (Some x) (seat_named rest t) ≡ None
  by true h f = absurd (let e : true ≡ false = h in cc)
  by false h f = f h

module _ (seats : List (Option TaskSlot)) (owned : List (Option Owned)) where
  pub view-name : (k : ℕ) → name_at (directory seats owned) k ≡ name_of_seat seats k
  unfolding directory
  view-name k = at_map (λ x. x.name) seats k

  pub view-task : (t : Name) → get (directory seats owned).owners.tasks t ≡ option_map (task_of seats) (seat_named seats t)
  unfolding directory
  view-task t = get-keyed_all name_cmp_total name_cmp-IsAntisymmetric (names seats) (λ u. option_map (task_of seats) (seat_named seats u)) t (λ e. ap (option_map (task_of seats)) (none_named seats t e))

  past : (o : Option TaskSlot) (n : ℕ) → ltb n 133 ≡ false → entry_of o n ≡ None
  past None n e = refl
  past (Some x) n e = ap (λ b. cond b (item_at x.numbers n) None) e

  pub view-entry : (t : Name) (n : ℕ) → entry (directory seats owned).owners t n ≡ entry_of (seat_named seats t) n
  unfolding directory
  view-entry t n = get-keyed_all entry_cmp_total entry_cmp-IsAntisymmetric (pairs_below (names seats) 133) (λ e. entry_of (seat_named seats e.0) e.1) (t, n) (λ e. by (list_any (same_name t) (names seats)) (ltb n 133) (sym (any-pairs_below t n (names seats) 133) ∙ e) (none_named seats t) (past (seat_named seats t) n)) where
    by : (b c : Bool) → (b && c) ≡ false → (b ≡ false → seat_named seats t ≡ None) → (c ≡ false → entry_of (seat_named seats t) n ≡ None) → entry_of (seat_named seats t) n ≡ None
    by true true e f g = absurd (let h : true ≡ false = e in cc)
    by true false e f g = g refl
    by false c e f g = ap (λ o. entry_of o n) (f refl)

  pub view-owner : (s : ℕ) → get (directory seats owned).owners.owner s ≡ owner_name seats (item_at owned s)
  unfolding directory
  view-owner s = get-table_all (length owned) (λ r. owner_name seats (item_at owned r)) (λ r h. ap (owner_name seats) (past_end owned r h)) s

pub rest_distinct : (o : Option TaskSlot) (rest : List (Option TaskSlot)) → Distinct (o ∷ rest) → Distinct rest
rest_distinct o rest h j k x y ex ey e = let f : suc j ≡ suc k = h (suc j) (suc k) x y ex ey e in omega arith

-- a task is found by its name
pub found : (seats : List (Option TaskSlot)) (k : ℕ) (x : TaskSlot) → Distinct seats → item_at seats k ≡ Some x → seat_named seats x.name ≡ Some x
found [] k x h e = absurd (let f : ◌≡◌ {A = Option TaskSlot} None (Some x) = e in cc)
found (None ∷ rest) zero x h e = absurd (let f : ◌≡◌ {A = Option TaskSlot} None (Some x) = e in cc)
found (None ∷ rest) (suc k) x h e = found rest k x (rest_distinct None rest h) e
found (Some y ∷ rest) zero x h e = let same : y ≡ x = (let f : Some y ≡ Some x = e in cc) in subst (λ (z : TaskSlot). cond (same_name z.name y.name) (Some y) (seat_named rest z.name) ≡ Some z) same (ap (λ b. cond b (Some y) (seat_named rest y.name)) (same_name_self y.name))
found (Some y ∷ rest) (suc k) x h e = by (same_name x.name y.name) (same_name_is x.name y.name) (found rest k x (rest_distinct (Some y) rest h) e) where
  by : (b : Bool) → (b ≡ true → x.name ≡ y.name) → seat_named rest x.name ≡ Some x → cond b (Some y) (seat_named rest x.name) ≡ Some x
  by true f r = absurd (let z : 0 ≡ suc k = h 0 (suc k) y x refl e (sym (f refl)) in omega arith)
  by false f r = r

-- what is found by a name has this name and a key
pub found_at : (seats : List (Option TaskSlot)) (t : Name) (x : TaskSlot) → seat_named seats t ≡ Some x → (k : ℕ) × (item_at seats k ≡ Some x) × (x.name ≡ t)
found_at [] t x e = absurd (let f : ◌≡◌ {A = Option TaskSlot} None (Some x) = e in cc)
found_at (None ∷ rest) t x e = let r = found_at rest t x e in (suc r.0, r.1, r.2)
found_at (Some y ∷ rest) t x e = by (same_name t y.name) (same_name_is t y.name) e (found_at rest t x) where
  by : (b : Bool) → (b ≡ true → t ≡ y.name) → cond b (Some y) (seat_named rest t) ≡ Some x → (seat_named rest t ≡ Some x → (k : ℕ) × (item_at rest k ≡ Some x) × (x.name ≡ t)) → (k : ℕ) × (item_at (Some y ∷ rest) k ≡ Some x) × (x.name ≡ t)
  by true f e g = let same : y ≡ x = (let h : Some y ≡ Some x = e in cc) in (0, e, subst (λ (z : TaskSlot). z.name ≡ t) same (sym (f refl)))
  by false f e g = let r = g e in (suc r.0, r.1, r.2)

-- where no task has the name, none is found by it
pub not_found : (seats : List (Option TaskSlot)) (t : Name) → ((k : ℕ) (x : TaskSlot) → item_at seats k ≡ Some x → x.name ≢ t) → seat_named seats t ≡ None
not_found seats t h = by (seat_named seats t) refl where
  by : (o : Option TaskSlot) → seat_named seats t ≡ o → o ≡ None
  by None e = refl
  by (Some x) e = let r = found_at seats t x e in absurd (h r.0 x r.1 r.2)

-- the value of `Tasks` and an identifier, in place of the fields that they are views of
along : (seats : List (Option TaskSlot)) (owned : List (Option Owned)) (d : TasksValue) (key id : ℕ) (P : TasksValue → ℕ → Type 0) → directory seats owned ≡ d → key ≡ id → P (directory seats owned) key → P d id
along seats owned d key id P e f h = subst (λ (v : TasksValue). P v id) e (subst (λ (k : ℕ). P (directory seats owned) k) f h)

-- a seat that has a name is one
pub seat_there : (o : Option TaskSlot) → IsSome (option_map (λ x. x.name) o) → IsSome o
seat_there None h = h
seat_there (Some x) h = refl

module _ (seats : List (Option TaskSlot)) (owned : List (Option Owned)) (d : TasksValue) (key id : ℕ) (e : directory seats owned ≡ d) (f : key ≡ id) where
  pub at_id : name_at d id ≡ name_of_seat seats key
  at_id = along seats owned d key id (λ v k. name_at v k ≡ name_of_seat seats key) e f (view-name seats owned key)

  pub is_seat : IsTask d id → IsSome (item_at seats key)
  is_seat h = seat_there (item_at seats key) (subst IsSome at_id h)

  -- the task of an identifier
  pub the_seat : IsTask d id → (x : TaskSlot) × (item_at seats key ≡ Some x)
  the_seat h = of_some (item_at seats key) (is_seat h)

  module _ (sound : IsSound seats owned) (x : TaskSlot) (h : item_at seats key ≡ Some x) where
    pub name_is : name_of d id ≡ x.name
    name_is = ap (λ o. unwrap_or o []) (at_id ∙ ap (option_map (λ x. x.name)) h)

    pub task_is : get d.owners.tasks (name_of d id) ≡ Some (task_of seats x)
    task_is =
        ap (get d.owners.tasks) name_is
        ∙ subst (λ (v : TasksValue). get v.owners.tasks x.name ≡ Some (task_of seats x)) e
        (view-task seats owned x.name ∙ ap (option_map (task_of seats)) (found seats key x sound.distinct h))

    pub residence_is : residence_of d.owners (name_of d id) ≡ Some x.residence
    residence_is = ap (option_map (λ task. task.residence)) task_is

    pub entry_is : (n : ℕ) → entry d.owners (name_of d id) n ≡ number_of x n
    entry_is n =
        ap (λ t. entry d.owners t n) name_is
        ∙ subst (λ (v : TasksValue). entry v.owners x.name n ≡ number_of x n) e
        (view-entry seats owned x.name n ∙ ap (λ o. entry_of o n) (found seats key x sound.distinct h))

-- below the bound the number is what the array has
pub low_number : (n : ℕ) (o : Option ℕ) → n < 133 → cond (ltb n 133) o None ≡ o
low_number n o h = grind (arith, nat_tests)

-- the number at an index in range
pub number_is : (x : TaskSlot) (n : ℕ) (d : Option ℕ) → n < length x.numbers → n < 133 → slice_index_or x.numbers n d ≡ number_of x n
number_is x n d h b = same_default x.numbers n d None h ∙ sym (low_number n (item_at x.numbers n) b)

-- an identifier's name where its key has a task
pub name_at_is : (seats : List (Option TaskSlot)) (owned : List (Option Owned)) (d : TasksValue) (key : ℕ) (x : TaskSlot) → directory seats owned ≡ d → item_at seats key ≡ Some x → name_at d key ≡ Some x.name
name_at_is seats owned d key x e h = at_id seats owned d key key e refl ∙ ap (option_map (λ x. x.name)) h

pub no_task : (seats : List (Option TaskSlot)) (owned : List (Option Owned)) (d : TasksValue) (t : Name) → directory seats owned ≡ d → ((k : ℕ) (x : TaskSlot) → item_at seats k ≡ Some x → x.name ≢ t) → get d.owners.tasks t ≡ None
no_task seats owned d t e h = subst (λ (v : TasksValue). get v.owners.tasks t ≡ None) e (view-task seats owned t ∙ ap (option_map (task_of seats)) (not_found seats t h))

pub a_task : (seats : List (Option TaskSlot)) (owned : List (Option Owned)) (d : TasksValue) (k : ℕ) (x : TaskSlot) → directory seats owned ≡ d → IsSound seats owned → item_at seats k ≡ Some x → get d.owners.tasks x.name ≡ Some (task_of seats x)
a_task seats owned d k x e sound h = subst (λ (v : TasksValue). get v.owners.tasks x.name ≡ Some (task_of seats x)) e (view-task seats owned x.name ∙ ap (option_map (task_of seats)) (found seats k x sound.distinct h))
