-- A task gets a subpool under a number.
use Rattle.std.proofs.Common.{◌≡◌, ◌≢◌, ℕ, ◌<◌, true, false, cond, ◌&&◌, List, length, Option, Some, None, IsSome, slice_set, eqb, ltb, sym, ap, subst, refl, ◌∙◌, ◌⊎◌, inl, inr}
use Rattle.std.specs.Option.{option_map}
use Rattle.std.specs.FinMap.{get, same_map}
use Rattle.mvs_model.specs.declared.name.Name.{Name}
use Rattle.mvs_model.specs.Name.{same_name}
use Rattle.mvs_model.specs.Owners.{Binds}
use Rattle.mvs_model.proofs.Orders.{name_cmp_total, name_cmp-IsAntisymmetric}
use Rattle.task_owner.specs.Tasks.{TasksValue, name_at, name_of}
use Rattle.task_owner.specs.Seats.{item_at, name_of_seat, number_of, seat_named, mother_of, task_of, entry_of, owner_name, directory, MayHave, IsSound, Distinct}
use Rattle.task_owner.specs.declared.task_slot.TaskSlot.{TaskSlot}
use Rattle.task_owner.specs.declared.task_slot.Owned.{Owned}
use Rattle.task_owner.proofs.Having.{same_place}
use Rattle.task_owner.proofs.Places.{set_here, set_apart, same_or_not}
use Rattle.task_owner.proofs.Reading.{found, found_at, not_found, name_cases, low_number, view-task, view-entry, view-owner, view-name, name_is, seat_there}
use Rattle.std.proofs.lemmas.Bool.Decides.{eqb_tells}

-- where the tasks of a name are the same, the same is found by it
pub same_lookup : (seats next : List (Option TaskSlot)) (t : Name) → Distinct seats → Distinct next
    → ((k : ℕ) (x : TaskSlot) → item_at seats k ≡ Some x → x.name ≡ t → item_at next k ≡ Some x)
    → ((k : ℕ) (x : TaskSlot) → item_at next k ≡ Some x → x.name ≡ t → item_at seats k ≡ Some x)
    → seat_named next t ≡ seat_named seats t
same_lookup seats next t d e there back = by (seat_named seats t) refl where
  by : (o : Option TaskSlot) → seat_named seats t ≡ o → seat_named next t ≡ o
  by (Some x) h =
      let r = found_at seats t x h in
      ap (seat_named next) (sym r.2) ∙ found next r.0 x e (there r.0 x r.1 r.2)
  by None h = not_found next t (λ k x g n. let f : None ≡ Some x = sym h ∙ ap (seat_named seats) (sym n) ∙ found seats k x d (back k x g n) in absurd (cc))

module _ (seats next : List (Option TaskSlot)) (owned : List (Option Owned)) (key n s : ℕ) (x : TaskSlot)
    (sound : IsSound seats owned) (at : item_at seats key ≡ Some x) (low : n < 133) (place : MayHave x n) (fits : n < length x.numbers) (free : number_of x n ≡ None)
    (in_range : s < length owned) (spare : item_at owned s ≡ None) where
  abbrev now : TaskSlot
  now = record x { numbers = slice_set x.numbers n (Some s) }

  abbrev by_key : Owned
  by_key = record { owner = key; number = n }

  abbrev owners_next : List (Option Owned)
  owners_next = slice_set owned s (Some by_key)

  number_here : number_of now n ≡ Some s
  number_here = ap (λ o. cond (ltb n 133) o None) (set_here x.numbers n (Some s) fits) ∙ low_number n (Some s) low

  number_apart : (m : ℕ) → m ≢ n → number_of now m ≡ number_of x m
  number_apart m h = ap (λ o. cond (ltb m 133) o None) (set_apart x.numbers n m (Some s) h)

  module _ (entered : item_at next key ≡ Some now) (others : (k : ℕ) → k ≢ key → item_at next k ≡ item_at seats k) where
    -- a task after it is the task that got the subpool, or one as before
    split : (k : ℕ) (y : TaskSlot) → item_at next k ≡ Some y → ((k ≡ key) × (y ≡ now)) ⊎ ((k ≢ key) × (item_at seats k ≡ Some y))
    split k y h = by (same_or_not k key) where
      by : (k ≡ key) ⊎ (k ≢ key) → ((k ≡ key) × (y ≡ now)) ⊎ ((k ≢ key) × (item_at seats k ≡ Some y))
      by (inl e) = inl (e, (let f : Some y ≡ Some now = sym h ∙ ap (item_at next) e ∙ entered in cc))
      by (inr d) = inr (d, sym (others k d) ∙ h)

    before : (k : ℕ) (y : TaskSlot) → item_at next k ≡ Some y → (z : TaskSlot) × (item_at seats k ≡ Some z) × (z.name ≡ y.name) × (z.mother ≡ y.mother)
    before k y h = by (split k y h) where
      by : ((k ≡ key) × (y ≡ now)) ⊎ ((k ≢ key) × (item_at seats k ≡ Some y)) → (z : TaskSlot) × (item_at seats k ≡ Some z) × (z.name ≡ y.name) × (z.mother ≡ y.mother)
      by (inl r) = (x, ap (item_at seats) r.0 ∙ at, ap (λ (z : TaskSlot). z.name) (sym r.1), ap (λ (z : TaskSlot). z.mother) (sym r.1))
      by (inr r) = (y, r.1, refl, refl)

    names_kept : (m : ℕ) → name_of_seat next m ≡ name_of_seat seats m
    names_kept m = by (same_or_not m key) where
      by : (m ≡ key) ⊎ (m ≢ key) → name_of_seat next m ≡ name_of_seat seats m
      by (inl e) = ap (name_of_seat next) e ∙ ap (option_map (λ z. z.name)) entered ∙ sym (ap (option_map (λ z. z.name)) at) ∙ ap (name_of_seat seats) (sym e)
      by (inr d) = ap (option_map (λ z. z.name)) (others m d)

    is_some_name : (o : Option TaskSlot) → IsSome o → IsSome (option_map (λ z. z.name) o)
    is_some_name None h = h
    is_some_name (Some y) h = refl

    still : (m : ℕ) → IsSome (item_at seats m) → IsSome (item_at next m)
    still m h = seat_there (item_at next m) (subst IsSome (sym (names_kept m)) (is_some_name (item_at seats m) h))

    owned_here : item_at owners_next s ≡ Some by_key
    owned_here = set_here owned s (Some by_key) in_range

    owned_kept : (r : ℕ) (o : Owned) → item_at owned r ≡ Some o → item_at owners_next r ≡ Some o
    owned_kept r o h = set_apart owned s r (Some by_key) (λ e. let f : None ≡ Some o = sym spare ∙ ap (item_at owned) (sym e) ∙ h in absurd (cc)) ∙ h

    pub bound_sound : IsSound next owners_next
    bound_sound = record {
      distinct = λ j k y z hy hz e. let a = before j y hy in let b = before k z hz in sound.distinct j k a.0 b.0 a.1 b.1 (a.2 ∙ e ∙ sym b.2);
      mothers = λ k m y h e. let a = before k y h in still m (sound.mothers k m a.0 a.1 (a.3 ∙ e));
      ranked = (sound.ranked.0, λ k m y h e. let a = before k y h in sound.ranked.1 k m a.0 a.1 (a.3 ∙ e));
      first = λ j k y z hy hz e f. let a = before j y hy in let b = before k z hz in sound.first j k a.0 b.0 a.1 b.1 (a.3 ∙ e) (b.3 ∙ f);
      entries = λ k m r y h e. entries k m r y e (split k y h) (same_or_not m n);
      places = λ k m r y h e. places k m r y e (split k y h) (same_or_not m n);
      owners = λ r o h. owners r o h (same_or_not r s);
    } where
      places : (k m r : ℕ) (y : TaskSlot) → number_of y m ≡ Some r → ((k ≡ key) × (y ≡ now)) ⊎ ((k ≢ key) × (item_at seats k ≡ Some y)) → (m ≡ n) ⊎ (m ≢ n) → MayHave y m
      places k m r y e (inl q) (inl p) = subst (λ v. MayHave y v) (sym p) (same_place x y n (ap (λ (z : TaskSlot). z.mother) (sym q.1)) place)
      places k m r y e (inl q) (inr d) =
          same_place x y m (ap (λ (z : TaskSlot). z.mother) (sym q.1)) (sound.places key m r x at (sym (number_apart m d) ∙ ap (λ z. number_of z m) (sym q.1) ∙ e))
      places k m r y e (inr q) p = sound.places k m r y q.1 e

      old_entry : (k m r : ℕ) (y : TaskSlot) → item_at seats k ≡ Some y → number_of y m ≡ Some r → (o : Owned) × (item_at owners_next r ≡ Some o) × (o.number ≡ m)
      old_entry k m r y h e = let o = sound.entries k m r y h e in (o.0, owned_kept r o.0 o.1, o.2)

      entries : (k m r : ℕ) (y : TaskSlot) → number_of y m ≡ Some r → ((k ≡ key) × (y ≡ now)) ⊎ ((k ≢ key) × (item_at seats k ≡ Some y)) → (m ≡ n) ⊎ (m ≢ n) → (o : Owned) × (item_at owners_next r ≡ Some o) × (o.number ≡ m)
      entries k m r y e (inl q) (inl p) =
          let f : Some r ≡ Some s = sym e ∙ ap (λ z. number_of z m) q.1 ∙ ap (number_of now) p ∙ number_here in
          let g : r ≡ s = cc in
          (by_key, ap (item_at owners_next) g ∙ owned_here, sym p)
      entries k m r y e (inl q) (inr d) = old_entry key m r x at (sym (number_apart m d) ∙ ap (λ z. number_of z m) (sym q.1) ∙ e)
      entries k m r y e (inr q) p = old_entry k m r y q.1 e

      old_owner : (r : ℕ) (o : Owned) (z : TaskSlot) → item_at seats o.owner ≡ Some z → number_of z o.number ≡ Some r → (o.owner ≡ key) ⊎ (o.owner ≢ key) → (y : TaskSlot) × (item_at next o.owner ≡ Some y) × (number_of y o.number ≡ Some r)
      old_owner r o z h e (inr d) = (z, others o.owner d ∙ h, e)
      old_owner r o z h e (inl p) =
          let f : Some z ≡ Some x = sym h ∙ ap (item_at seats) p ∙ at in
          let same : z ≡ x = cc in
          let has : number_of x o.number ≡ Some r = ap (λ y. number_of y o.number) (sym same) ∙ e in
          let apart : o.number ≢ n = λ q. (let g : None ≡ Some r = sym free ∙ ap (number_of x) (sym q) ∙ has in absurd (cc)) in
          (now, ap (item_at next) p ∙ entered, number_apart o.number apart ∙ has)

      owners : (r : ℕ) (o : Owned) → item_at owners_next r ≡ Some o → (r ≡ s) ⊎ (r ≢ s) → (y : TaskSlot) × (item_at next o.owner ≡ Some y) × (number_of y o.number ≡ Some r)
      owners r o h (inl p) =
          let f : Some by_key ≡ Some o = sym owned_here ∙ ap (item_at owners_next) (sym p) ∙ h in
          let same : by_key ≡ o = cc in
          (now, ap (λ (i : Owned). item_at next i.owner) (sym same) ∙ entered, ap (λ (i : Owned). number_of now i.number) (sym same) ∙ number_here ∙ ap Some (sym p))
      owners r o h (inr d) =
          let old : item_at owned r ≡ Some o = sym (set_apart owned s r (Some by_key) d) ∙ h in
          let z = sound.owners r o old in
          old_owner r o z.0 z.1 z.2 (same_or_not o.owner key)

    same_named : (q : Name) → q ≢ x.name → seat_named next q ≡ seat_named seats q
    same_named q d = same_lookup seats next q sound.distinct bound_sound.distinct
        (λ k y h e. others k (λ p. (let f : Some y ≡ Some x = sym h ∙ ap (item_at seats) p ∙ at in let same : y ≡ x = cc in d (sym e ∙ ap (λ (z : TaskSlot). z.name) same))) ∙ h)
        (λ k y h e. by k y e (split k y h)) where
          by : (k : ℕ) (y : TaskSlot) → y.name ≡ q → ((k ≡ key) × (y ≡ now)) ⊎ ((k ≢ key) × (item_at seats k ≡ Some y)) → item_at seats k ≡ Some y
          by k y e (inl r) = absurd (d (sym e ∙ ap (λ (z : TaskSlot). z.name) r.1))
          by k y e (inr r) = r.1

    named_now : seat_named next x.name ≡ Some now
    named_now = found next key now bound_sound.distinct entered

    named_old : seat_named seats x.name ≡ Some x
    named_old = found seats key x sound.distinct at

    same_mother : (m : Option ℕ) → mother_of next m ≡ mother_of seats m
    same_mother None = refl
    same_mother (Some m) = names_kept m

    same_task : (y : TaskSlot) → task_of next y ≡ task_of seats y
    same_task y = ap (λ m. record { mother = m; residence = y.residence }) (same_mother y.mother)

    tasks_at : (q : Name) → get (directory next owners_next).owners.tasks q ≡ get (directory seats owned).owners.tasks q
    tasks_at q = view-task next owners_next q ∙ by (name_cases q x.name) ∙ sym (view-task seats owned q) where
      mapped : (o : Option TaskSlot) → option_map (task_of next) o ≡ option_map (task_of seats) o
      mapped None = refl
      mapped (Some y) = ap Some (same_task y)

      by : ((same_name q x.name ≡ true) × (q ≡ x.name)) ⊎ ((same_name q x.name ≡ false) × (q ≢ x.name)) → option_map (task_of next) (seat_named next q) ≡ option_map (task_of seats) (seat_named seats q)
      by (inl r) =
          ap (λ t. option_map (task_of next) (seat_named next t)) r.1 ∙ ap (option_map (task_of next)) named_now ∙ ap Some (same_task now)
          ∙ sym (ap (option_map (task_of seats)) named_old) ∙ ap (λ t. option_map (task_of seats) (seat_named seats t)) (sym r.1)
      by (inr r) = ap (option_map (task_of next)) (same_named q r.1) ∙ mapped (seat_named seats q)

    entries_at : (q : Name) (m : ℕ) → entry_of (seat_named next q) m ≡ cond (same_name q x.name && eqb m n) (Some s) (entry_of (seat_named seats q) m)
    entries_at q m = by (name_cases q x.name) (eqb_tells m n) where
      by : ((same_name q x.name ≡ true) × (q ≡ x.name)) ⊎ ((same_name q x.name ≡ false) × (q ≢ x.name)) → ((eqb m n ≡ true) × (m ≡ n)) ⊎ ((eqb m n ≡ false) × (m ≢ n))
          → entry_of (seat_named next q) m ≡ cond (same_name q x.name && eqb m n) (Some s) (entry_of (seat_named seats q) m)
      by (inr r) p = ap (λ o. entry_of o m) (same_named q r.1) ∙ ap (λ b. cond (b && eqb m n) (Some s) (entry_of (seat_named seats q) m)) (sym r.0)
      by (inl r) (inl p) =
          ap (λ t. entry_of (seat_named next t) m) r.1 ∙ ap (λ o. entry_of o m) named_now ∙ ap (number_of now) p.1 ∙ number_here
          ∙ (λ i. cond (sym r.0 i && sym p.0 i) (Some s) (entry_of (seat_named seats q) m))
      by (inl r) (inr p) =
          ap (λ t. entry_of (seat_named next t) m) r.1 ∙ ap (λ o. entry_of o m) named_now ∙ number_apart m p.1
          ∙ sym (ap (λ o. entry_of o m) named_old) ∙ ap (λ t. entry_of (seat_named seats t) m) (sym r.1)
          ∙ (λ i. cond (sym r.0 i && sym p.0 i) (Some s) (entry_of (seat_named seats q) m))

    owners_at : (r : ℕ) → owner_name next (item_at owners_next r) ≡ cond (eqb r s) (Some x.name) (owner_name seats (item_at owned r))
    owners_at r = by (eqb_tells r s) where
      names : (o : Option Owned) → owner_name next o ≡ owner_name seats o
      names None = refl
      names (Some o) = names_kept o.owner

      by : ((eqb r s ≡ true) × (r ≡ s)) ⊎ ((eqb r s ≡ false) × (r ≢ s)) → owner_name next (item_at owners_next r) ≡ cond (eqb r s) (Some x.name) (owner_name seats (item_at owned r))
      by (inl p) = ap (λ i. owner_name next (item_at owners_next i)) p.1 ∙ ap (owner_name next) owned_here ∙ ap (option_map (λ z. z.name)) entered ∙ ap (λ b. cond b (Some x.name) (owner_name seats (item_at owned r))) (sym p.0)
      by (inr p) = ap (owner_name next) (set_apart owned s r (Some by_key) p.1) ∙ names (item_at owned r) ∙ ap (λ b. cond b (Some x.name) (owner_name seats (item_at owned r))) (sym p.0)

    binds : Binds (directory seats owned).owners x.name n s (directory next owners_next).owners
    binds = record {
      tasks = same_map name_cmp_total name_cmp-IsAntisymmetric _ _ tasks_at;
      table = λ e. view-entry next owners_next e.0 e.1 ∙ entries_at e.0 e.1 ∙ ap (cond (same_name e.0 x.name && eqb e.1 n) (Some s)) (sym (view-entry seats owned e.0 e.1));
      owner = λ r. view-owner next owners_next r ∙ owners_at r ∙ ap (cond (eqb r s) (Some x.name)) (sym (view-owner seats owned r));
    }

    pub names_at : (id : ℕ) → name_at (directory next owners_next) id ≡ name_at (directory seats owned) id
    names_at id = view-name next owners_next id ∙ names_kept id ∙ sym (view-name seats owned id)

    -- the same for the value of `Tasks`, an identifier, a number and a subpool
    pub binds_at : (d : TasksValue) (id num : ℕ) → directory seats owned ≡ d → key ≡ id → n ≡ num → Binds d.owners (name_of d id) num s (directory next owners_next).owners
    binds_at d id num e f g =
        subst (λ t. Binds d.owners t num s (directory next owners_next).owners) (sym (name_is seats owned d key id e f sound x at))
        (subst (λ (v : TasksValue). Binds v.owners x.name num s (directory next owners_next).owners) e
        (subst (λ m. Binds (directory seats owned).owners x.name m s (directory next owners_next).owners) g binds))
