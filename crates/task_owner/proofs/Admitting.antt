-- A subtask is admitted, and its mother hands over what she gives and shares.
use Rattle.std.proofs.Common.{◌≡◌, ◌≢◌, ℕ, ◌+◌, ◌<◌, Bool, true, false, cond, ◌&&◌, ◌||◌, ◌==◌, List, Option, Some, None, is_some, IsSome, eqb, ltb, sym, ap, subst, refl, ◌∙◌, arith, ◌⊎◌, inl, inr}
use Rattle.std.proofs.lemmas.Bool.{eq-eqb, eqb-true, and_parts}
use Rattle.std.proofs.lemmas.Bool.Decides.{nat_tests, eqb_tells}
use Rattle.std.specs.Option.{option_map}
use Rattle.mvs_model.specs.declared.name.Name.{Name}
use Rattle.mvs_model.specs.declared.want.Residence.{Residence}
use Rattle.mvs_model.specs.Name.{same_name}
use Rattle.mvs_model.specs.Gifts.{GiftsValue, gives, shares}
use Rattle.mvs_model.specs.Finite.{has}
use Rattle.mvs_model.specs.Owners.{entry, is_given}
use Rattle.mvs_model.proofs.Orders.{same_name_is, same_name_self}
use Rattle.task_owner.specs.Tasks.{name_at}
use Rattle.task_owner.specs.Seats.{item_at, name_of_seat, number_of, seat_named, mother_of, task_of, entry_of, owner_name, directory, MayHave, IsSound}
use Rattle.task_owner.specs.Handing.{Leaves, Admits, taken, is_handed, passed_on}
use Rattle.task_owner.specs.declared.task_slot.TaskSlot.{TaskSlot}
use Rattle.task_owner.specs.declared.task_slot.Owned.{Owned}
use Rattle.task_owner.proofs.Having.{same_place, gives_low, shares_low}
use Rattle.task_owner.proofs.Places.{same_or_not, of_some}
use Rattle.task_owner.proofs.Reading.{found, found_at, not_found, name_cases, view-task, view-entry, view-owner, view-name}
use Rattle.task_owner.proofs.AnyBelow.{found_below}
use Rattle.mvs_model.proofs.Below.{below_some}
use Rattle.mvs_model.proofs.Tests.{same_test}

-- a task that stays: it has lost what the mother at the key gives
record Stays (gifts : GiftsValue) (m k : ℕ) (old now : TaskSlot) : Type 0 where
  name : now.name ≡ old.name
  mother : now.mother ≡ old.mother
  residence : now.residence ≡ old.residence
  numbers : (n : ℕ) → number_of now n ≡ cond (eqb k m && gives gifts n) None (number_of old n)

module _ (seats mid next : List (Option TaskSlot)) (owned left : List (Option Owned)) (m key : ℕ) (x : TaskSlot) (name : Name) (residence : Residence) (numbers : List (Option ℕ)) (gifts : GiftsValue)
    (sound : IsSound seats owned) (at : item_at seats m ≡ Some x) (left_here : (y : TaskSlot) × (item_at mid m ≡ Some y) × Leaves gifts x y) (others : (k : ℕ) → k ≢ m → item_at mid k ≡ item_at seats k)
    (vacant : item_at mid key ≡ None) (here : item_at next key ≡ Some (record { name = name; mother = Some m; residence = residence; numbers = numbers })) (rest : (k : ℕ) → k ≢ key → item_at next k ≡ item_at mid k)
    (takes : (n : ℕ) → n < 133 → item_at numbers n ≡ taken gifts x.numbers n) (passed : (s : ℕ) → item_at left s ≡ passed_on gifts m key (item_at owned s))
    (new : (k : ℕ) (y : TaskSlot) → item_at seats k ≡ Some y → y.name ≢ name)
    (own : (n r : ℕ) (o : Owned) → gives gifts n ≡ true → number_of x n ≡ Some r → item_at owned r ≡ Some o → o.owner ≡ m) where
  abbrev w : TaskSlot
  w = record { name = name; mother = Some m; residence = residence; numbers = numbers }

  not_mother : m ≢ key
  not_mother e = let f : None ≡ Some left_here.0 = sym vacant ∙ ap (item_at mid) (sym e) ∙ left_here.1 in cc

  key_vacant : item_at seats key ≡ None
  key_vacant = sym (others key (λ e. not_mother (sym e))) ∙ vacant

  not_key : (k : ℕ) (y : TaskSlot) → item_at seats k ≡ Some y → k ≢ key
  not_key k y h e = let f : None ≡ Some y = sym key_vacant ∙ ap (item_at seats) (sym e) ∙ h in cc

  by_low : (n : ℕ) (o p : Option ℕ) (b : Bool) (v : Option ℕ) → (n < 133 → o ≡ cond b v p) → v ≡ None → cond (ltb n 133) o None ≡ cond b v (cond (ltb n 133) p None)
  by_low n o p b v h e = let f : n < 133 → o ≡ cond b v p = h in grind (arith, nat_tests)

  by_low_kept : (n : ℕ) (o p : Option ℕ) (b : Bool) → (n < 133 → o ≡ cond b p None) → cond (ltb n 133) o None ≡ cond b (cond (ltb n 133) p None) None
  by_low_kept n o p b h = let f : n < 133 → o ≡ cond b p None = h in grind (arith, nat_tests)

  w_numbers : (n : ℕ) → number_of w n ≡ cond (gives gifts n || shares gifts n) (number_of x n) None
  w_numbers n = by_low_kept n (item_at numbers n) (item_at x.numbers n) (gives gifts n || shares gifts n) (takes n)

  -- each task before stays
  after : (k : ℕ) (z : TaskSlot) → item_at seats k ≡ Some z → (y : TaskSlot) × (item_at next k ≡ Some y) × Stays gifts m k z y
  after k z h = by (eqb_tells k m) where
    by : ((eqb k m ≡ true) × (k ≡ m)) ⊎ ((eqb k m ≡ false) × (k ≢ m)) → (y : TaskSlot) × (item_at next k ≡ Some y) × Stays gifts m k z y
    by (inl p) =
        let f : Some x ≡ Some z = sym at ∙ ap (item_at seats) (sym p.1) ∙ h in
        let same : x ≡ z = cc in
        let y = left_here.0 in
        let r = left_here.2 in (
          y,
          rest k (not_key k z h) ∙ ap (item_at mid) p.1 ∙ left_here.1,
          subst (λ (v : TaskSlot). Stays gifts m k v y) same (record {
            name = r.name;
            mother = r.mother;
            residence = r.residence;
            numbers = λ n.
                by_low n (item_at y.numbers n) (item_at x.numbers n) (gives gifts n) None (r.numbers n) refl
                ∙ ap (λ b. cond (b && gives gifts n) None (number_of x n)) (sym p.0);
          }),
        )
    by (inr d) = (z, rest k (not_key k z h) ∙ others k d.1 ∙ h, record { name = refl; mother = refl; residence = refl; numbers = λ n. ap (λ b. cond (b && gives gifts n) None (number_of z n)) (sym d.0) })

  -- a task now is the new one, or was there
  before : (k : ℕ) (y : TaskSlot) → item_at next k ≡ Some y → ((k ≡ key) × (y ≡ w)) ⊎ ((z : TaskSlot) × (item_at seats k ≡ Some z) × Stays gifts m k z y)
  before k y h = by (same_or_not k key) where
    was : k ≢ key → (k ≡ m) ⊎ (k ≢ m) → (z : TaskSlot) × (item_at seats k ≡ Some z)
    was d (inl e) = (x, ap (item_at seats) e ∙ at)
    was d (inr f) = (y, sym (others k f) ∙ sym (rest k d) ∙ h)

    by : (k ≡ key) ⊎ (k ≢ key) → ((k ≡ key) × (y ≡ w)) ⊎ ((z : TaskSlot) × (item_at seats k ≡ Some z) × Stays gifts m k z y)
    by (inl e) = inl (e, (let f : Some y ≡ Some w = sym h ∙ ap (item_at next) e ∙ here in cc))
    by (inr d) =
        let z = was d (same_or_not k m) in
        let a = after k z.0 z.1 in
        let f : Some a.0 ≡ Some y = sym a.1 ∙ h in
        let same : a.0 ≡ y = cc in
        inr (z.0, z.1, subst (λ (v : TaskSlot). Stays gifts m k z.0 v) same a.2)

  -- who owns a subpool now
  passed_some : (s : ℕ) (o : Owned) → item_at owned s ≡ Some o → item_at left s ≡ Some (cond (is_handed gifts m o) (record { owner = key; number = o.number }) o)
  passed_some s o h = passed s ∙ ap (passed_on gifts m key) h

  passed_none : (s : ℕ) → item_at owned s ≡ None → item_at left s ≡ None
  passed_none s h = passed s ∙ ap (passed_on gifts m key) h

  same_number : (b : Bool) (o : Owned) → (cond b (record { owner = key; number = o.number }) o).number ≡ o.number
  same_number true o = refl
  same_number false o = refl

  rank_apart : (k : ℕ) → k ≢ key → cond (eqb k key) (sound.ranked.0 m + 1) (sound.ranked.0 k) ≡ sound.ranked.0 k
  rank_apart k d = by (eqb_tells k key) where
    by : ((eqb k key ≡ true) × (k ≡ key)) ⊎ ((eqb k key ≡ false) × (k ≢ key)) → cond (eqb k key) (sound.ranked.0 m + 1) (sound.ranked.0 k) ≡ sound.ranked.0 k
    by (inl p) = absurd (d p.1)
    by (inr p) = ap (λ b. cond b (sound.ranked.0 m + 1) (sound.ranked.0 k)) p.0

  pub admitted_sound : IsSound next left
  admitted_sound = record {
    distinct = λ j k y z hy hz e. distinct j k y z e (before j y hy) (before k z hz);
    mothers = λ k n y h e. mothers k n y e (before k y h);
    ranked = (λ k. cond (eqb k key) (sound.ranked.0 m + 1) (sound.ranked.0 k), λ k n y h e. ranks k n y e (before k y h));
    first = λ j k y z hy hz e f. first j k y z e f (before j y hy) (before k z hz);
    entries = λ k n s y h e. entries k n s y e (before k y h);
    places = λ k n s y h e. places k n s y e (before k y h);
    owners = λ s o h. owners s o h (item_at owned s) refl;
  } where
    distinct : (j k : ℕ) (y z : TaskSlot) → y.name ≡ z.name → ((j ≡ key) × (y ≡ w)) ⊎ ((v : TaskSlot) × (item_at seats j ≡ Some v) × Stays gifts m j v y) → ((k ≡ key) × (z ≡ w)) ⊎ ((v : TaskSlot) × (item_at seats k ≡ Some v) × Stays gifts m k v z) → j ≡ k
    distinct j k y z e (inl p) (inl q) = p.0 ∙ sym q.0
    distinct j k y z e (inl p) (inr q) = absurd (new k q.0 q.1 (sym q.2.name ∙ sym e ∙ ap (λ (v : TaskSlot). v.name) p.1))
    distinct j k y z e (inr p) (inl q) = absurd (new j p.0 p.1 (sym p.2.name ∙ e ∙ ap (λ (v : TaskSlot). v.name) q.1))
    distinct j k y z e (inr p) (inr q) = sound.distinct j k p.0 q.0 p.1 q.1 (sym p.2.name ∙ e ∙ q.2.name)

    still : (n : ℕ) (z : TaskSlot) → item_at seats n ≡ Some z → IsSome (item_at next n)
    still n z h = ap is_some (after n z h).1

    mothers : (k n : ℕ) (y : TaskSlot) → y.mother ≡ Some n → ((k ≡ key) × (y ≡ w)) ⊎ ((v : TaskSlot) × (item_at seats k ≡ Some v) × Stays gifts m k v y) → IsSome (item_at next n)
    mothers k n y e (inl p) =
        let f : Some m ≡ Some n = ap (λ (v : TaskSlot). v.mother) (sym p.1) ∙ e in
        let same : m ≡ n = cc in
        still n x (ap (item_at seats) (sym same) ∙ at)
    mothers k n y e (inr p) = let z = of_some (item_at seats n) (sound.mothers k n p.0 p.1 (sym p.2.mother ∙ e)) in still n z.0 z.1

    ranks : (k n : ℕ) (y : TaskSlot) → y.mother ≡ Some n → ((k ≡ key) × (y ≡ w)) ⊎ ((v : TaskSlot) × (item_at seats k ≡ Some v) × Stays gifts m k v y)
        → cond (eqb n key) (sound.ranked.0 m + 1) (sound.ranked.0 n) < cond (eqb k key) (sound.ranked.0 m + 1) (sound.ranked.0 k)
    ranks k n y e (inl p) =
        let f : Some m ≡ Some n = ap (λ (v : TaskSlot). v.mother) (sym p.1) ∙ e in
        let same : m ≡ n = cc in
        let low : cond (eqb n key) (sound.ranked.0 m + 1) (sound.ranked.0 n) ≡ sound.ranked.0 n = rank_apart n (λ q. not_mother (same ∙ q)) in
        let high : cond (eqb k key) (sound.ranked.0 m + 1) (sound.ranked.0 k) ≡ sound.ranked.0 m + 1 = ap (λ b. cond b (sound.ranked.0 m + 1) (sound.ranked.0 k)) (eq-eqb k key p.0) in
        let alike : sound.ranked.0 m ≡ sound.ranked.0 n = ap sound.ranked.0 same in
        subst (λ a. a < cond (eqb k key) (sound.ranked.0 m + 1) (sound.ranked.0 k)) (sym low) (subst (λ a. sound.ranked.0 n < a) (sym high) (let l : sound.ranked.0 n < sound.ranked.0 m + 1 = omega arith in l))
    ranks k n y e (inr p) =
        let mother : p.0.mother ≡ Some n = sym p.2.mother ∙ e in
        let z = of_some (item_at seats n) (sound.mothers k n p.0 p.1 mother) in
        subst (λ a. a < cond (eqb k key) (sound.ranked.0 m + 1) (sound.ranked.0 k)) (sym (rank_apart n (not_key n z.0 z.1)))
        (subst (λ a. sound.ranked.0 n < a) (sym (rank_apart k (not_key k p.0 p.1))) (sound.ranked.1 k n p.0 p.1 mother))

    first : (j k : ℕ) (y z : TaskSlot) → y.mother ≡ None → z.mother ≡ None → ((j ≡ key) × (y ≡ w)) ⊎ ((v : TaskSlot) × (item_at seats j ≡ Some v) × Stays gifts m j v y) → ((k ≡ key) × (z ≡ w)) ⊎ ((v : TaskSlot) × (item_at seats k ≡ Some v) × Stays gifts m k v z) → j ≡ k
    first j k y z e f (inl p) q = absurd (let g : Some m ≡ None = ap (λ (v : TaskSlot). v.mother) (sym p.1) ∙ e in cc)
    first j k y z e f (inr p) (inl q) = absurd (let g : Some m ≡ None = ap (λ (v : TaskSlot). v.mother) (sym q.1) ∙ f in cc)
    first j k y z e f (inr p) (inr q) = sound.first j k p.0 q.0 p.1 q.1 (sym p.2.mother ∙ e) (sym q.2.mother ∙ f)

    entry_left : (k n s : ℕ) (z : TaskSlot) → item_at seats k ≡ Some z → number_of z n ≡ Some s → (o : Owned) × (item_at left s ≡ Some o) × (o.number ≡ n)
    entry_left k n s z h e =
        let o = sound.entries k n s z h e in
        (cond (is_handed gifts m o.0) (record { owner = key; number = o.0.number }) o.0, passed_some s o.0 o.1, same_number (is_handed gifts m o.0) o.0 ∙ o.2)

    of_none_else : (b : Bool) (o : Option ℕ) (s : ℕ) → cond b None o ≡ Some s → o ≡ Some s
    of_none_else true o s e = absurd (let f : ◌≡◌ {A = Option ℕ} None (Some s) = e in cc)
    of_none_else false o s e = e

    of_else_none : (b : Bool) (o : Option ℕ) (s : ℕ) → cond b o None ≡ Some s → o ≡ Some s
    of_else_none true o s e = e
    of_else_none false o s e = absurd (let f : ◌≡◌ {A = Option ℕ} None (Some s) = e in cc)

    entries : (k n s : ℕ) (y : TaskSlot) → number_of y n ≡ Some s → ((k ≡ key) × (y ≡ w)) ⊎ ((v : TaskSlot) × (item_at seats k ≡ Some v) × Stays gifts m k v y) → (o : Owned) × (item_at left s ≡ Some o) × (o.number ≡ n)
    entries k n s y e (inl p) = entry_left m n s x at (of_else_none (gives gifts n || shares gifts n) (number_of x n) s (sym (w_numbers n) ∙ ap (λ v. number_of v n) (sym p.1) ∙ e))
    entries k n s y e (inr p) = entry_left k n s p.0 p.1 (of_none_else (eqb k m && gives gifts n) (number_of p.0 n) s (sym (p.2.numbers n) ∙ e))

    handed_low : (b c : Bool) (n : ℕ) (o : Option ℕ) (s : ℕ) → (b ≡ true → n < 128) → (c ≡ true → n < 128) → cond (b || c) o None ≡ Some s → n < 128
    handed_low true c n o s f g e = f refl
    handed_low false true n o s f g e = g refl
    handed_low false false n o s f g e = absurd (let h : ◌≡◌ {A = Option ℕ} None (Some s) = e in cc)

    places : (k n s : ℕ) (y : TaskSlot) → number_of y n ≡ Some s → ((k ≡ key) × (y ≡ w)) ⊎ ((v : TaskSlot) × (item_at seats k ≡ Some v) × Stays gifts m k v y) → MayHave y n
    places k n s y e (inl p) = inl (handed_low (gives gifts n) (shares gifts n) n (number_of x n) s (gives_low gifts n) (shares_low gifts n) (sym (w_numbers n) ∙ ap (λ v. number_of v n) (sym p.1) ∙ e))
    places k n s y e (inr p) = same_place p.0 y n (sym p.2.mother) (sound.places k n s p.0 p.1 (of_none_else (eqb k m && gives gifts n) (number_of p.0 n) s (sym (p.2.numbers n) ∙ e)))

    new_owner : (s : ℕ) (o : Owned) → item_at owned s ≡ Some o → (b : Bool) → is_handed gifts m o ≡ b
        → (y : TaskSlot) × (item_at next (cond b (record { owner = key; number = o.number }) o).owner ≡ Some y) × (number_of y (cond b (record { owner = key; number = o.number }) o).number ≡ Some s)
    new_owner s o h true t =
        let z = sound.owners s o h in
        let both = and_parts (eqb o.owner m) (gives gifts o.number) t in
        let f : Some z.0 ≡ Some x = sym z.1 ∙ ap (item_at seats) (eqb-true o.owner m both.0) ∙ at in
        let same : z.0 ≡ x = cc in
        (w, here, w_numbers o.number ∙ ap (λ b. cond (b || shares gifts o.number) (number_of x o.number) None) both.1 ∙ ap (λ (v : TaskSlot). number_of v o.number) (sym same) ∙ z.2)
    new_owner s o h false t =
        let z = sound.owners s o h in
        let y = after o.owner z.0 z.1 in
        (y.0, y.1, y.2.numbers o.number ∙ ap (λ b. cond b None (number_of z.0 o.number)) t ∙ z.2)

    owners : (s : ℕ) (o : Owned) → item_at left s ≡ Some o → (p : Option Owned) → item_at owned s ≡ p → (y : TaskSlot) × (item_at next o.owner ≡ Some y) × (number_of y o.number ≡ Some s)
    owners s o h None e = absurd (let f : None ≡ Some o = sym (passed_none s e) ∙ h in cc)
    owners s o h (Some p) e =
        let f : Some (cond (is_handed gifts m p) (record { owner = key; number = p.number }) p) ≡ Some o = sym (passed_some s p e) ∙ h in
        let same : cond (is_handed gifts m p) (record { owner = key; number = p.number }) p ≡ o = cc in
        subst (λ (v : Owned). (y : TaskSlot) × (item_at next v.owner ≡ Some y) × (number_of y v.number ≡ Some s)) same (new_owner s p e (is_handed gifts m p) refl)

  -- what is found by a name
  named_new : seat_named next name ≡ Some w
  named_new = found next key w admitted_sound.distinct here

  named_mother : seat_named seats x.name ≡ Some x
  named_mother = found seats m x sound.distinct at

  named_old : (q : Name) (z : TaskSlot) → seat_named seats q ≡ Some z → (k : ℕ) × (y : TaskSlot) × (item_at seats k ≡ Some z) × (z.name ≡ q) × (seat_named next q ≡ Some y) × Stays gifts m k z y
  named_old q z h =
      let r = found_at seats q z h in
      let a = after r.0 z r.1 in
      (r.0, a.0, r.1, r.2, ap (seat_named next) (sym (a.2.name ∙ r.2)) ∙ found next r.0 a.0 admitted_sound.distinct a.1, a.2)

  named_none : (q : Name) → name ≢ q → seat_named seats q ≡ None → seat_named next q ≡ None
  named_none q d h = not_found next q (λ k y g e. by k y e (before k y g)) where
    by : (k : ℕ) (y : TaskSlot) → y.name ≡ q → ((k ≡ key) × (y ≡ w)) ⊎ ((v : TaskSlot) × (item_at seats k ≡ Some v) × Stays gifts m k v y) → ⊥
    by k y e (inl p) = d (ap (λ (v : TaskSlot). v.name) (sym p.1) ∙ e)
    by k y e (inr p) = let f : None ≡ Some p.0 = sym h ∙ ap (seat_named seats) (sym e ∙ p.2.name) ∙ found seats k p.0 sound.distinct p.1 in cc

  name_kept : (k : ℕ) → k ≢ key → name_of_seat next k ≡ name_of_seat seats k
  name_kept k d = by (item_at seats k) refl where
    by : (o : Option TaskSlot) → item_at seats k ≡ o → name_of_seat next k ≡ name_of_seat seats k
    by None h = by_next (item_at next k) refl where
      by_next : (p : Option TaskSlot) → item_at next k ≡ p → name_of_seat next k ≡ name_of_seat seats k
      by_next None e = ap (option_map (λ v. v.name)) e ∙ sym (ap (option_map (λ v. v.name)) h)
      by_next (Some y) e = two (before k y e) where
        two : ((k ≡ key) × (y ≡ w)) ⊎ ((v : TaskSlot) × (item_at seats k ≡ Some v) × Stays gifts m k v y) → name_of_seat next k ≡ name_of_seat seats k
        two (inl p) = absurd (d p.0)
        two (inr p) = absurd (let f : None ≡ Some p.0 = sym h ∙ p.1 in cc)
    by (Some z) h = let a = after k z h in ap (option_map (λ v. v.name)) a.1 ∙ ap Some a.2.name ∙ sym (ap (option_map (λ v. v.name)) h)

  mother_kept : (k : ℕ) (z : TaskSlot) → item_at seats k ≡ Some z → (o : Option ℕ) → z.mother ≡ o → mother_of next o ≡ mother_of seats o
  mother_kept k z h None e = refl
  mother_kept k z h (Some n) e = let v = of_some (item_at seats n) (sound.mothers k n z h e) in name_kept n (not_key n v.0 v.1)

  mother_name : name_of_seat next m ≡ Some x.name
  mother_name = name_kept m not_mother ∙ ap (option_map (λ v. v.name)) at

  tasks_at : (q : Name) → option_map (task_of next) (seat_named next q) ≡ cond (same_name name q) (Some (record { mother = Some x.name; residence = residence })) (option_map (task_of seats) (seat_named seats q))
  tasks_at q = by (name_cases name q) where
    two : (o : Option TaskSlot) → seat_named seats q ≡ o → name ≢ q → option_map (task_of next) (seat_named next q) ≡ option_map (task_of seats) (seat_named seats q)
    two None h d = ap (option_map (task_of next)) (named_none q d h) ∙ sym (ap (option_map (task_of seats)) h)
    two (Some z) h d =
        let a = named_old q z h in
        ap (option_map (task_of next)) a.4
        ∙ (λ i. Some (record { mother = mother_of next (a.5.mother i); residence = a.5.residence i }))
        ∙ ap (λ o. Some (record { mother = o; residence = z.residence })) (mother_kept a.0 z a.2 z.mother refl)
        ∙ sym (ap (option_map (task_of seats)) h)

    by : ((same_name name q ≡ true) × (name ≡ q)) ⊎ ((same_name name q ≡ false) × (name ≢ q)) → option_map (task_of next) (seat_named next q) ≡ cond (same_name name q) (Some (record { mother = Some x.name; residence = residence })) (option_map (task_of seats) (seat_named seats q))
    by (inl p) =
        ap (λ t. option_map (task_of next) (seat_named next t)) (sym p.1) ∙ ap (option_map (task_of next)) named_new
        ∙ ap (λ o. Some (record { mother = o; residence = residence })) mother_name
        ∙ ap (λ b. cond b (Some (record { mother = Some x.name; residence = residence })) (option_map (task_of seats) (seat_named seats q))) (sym p.0)
    by (inr p) = two (seat_named seats q) refl p.1 ∙ ap (λ b. cond b (Some (record { mother = Some x.name; residence = residence })) (option_map (task_of seats) (seat_named seats q))) (sym p.0)

  entries_at : (q : Name) (n : ℕ) → entry_of (seat_named next q) n ≡ cond (same_name q name) (cond (gives gifts n || shares gifts n) (number_of x n) None) (cond (same_name q x.name && gives gifts n) None (entry_of (seat_named seats q) n))
  entries_at q n = by (name_cases q name) where
    none_either : (b : Bool) → ◌≡◌ {A = Option ℕ} None (cond b None None)
    none_either true = refl
    none_either false = refl

    two : (o : Option TaskSlot) → seat_named seats q ≡ o → name ≢ q → entry_of (seat_named next q) n ≡ cond (same_name q x.name && gives gifts n) None (entry_of (seat_named seats q) n)
    two None h d = ap (λ o. entry_of o n) (named_none q d h) ∙ none_either (same_name q x.name && gives gifts n) ∙ ap (λ o. cond (same_name q x.name && gives gifts n) None (entry_of o n)) (sym h)
    two (Some z) h d =
        let a = named_old q z h in
        let test : eqb a.0 m ≡ same_name q x.name = same_test (eqb a.0 m) (same_name q x.name)
        (λ t.
        let f : Some z ≡ Some x = sym a.2 ∙ ap (item_at seats) (eqb-true a.0 m t) ∙ at in
        let same : z ≡ x = cc in
        ap (λ t. same_name t x.name) (sym a.3 ∙ ap (λ (v : TaskSlot). v.name) same) ∙ same_name_self x.name)
        (λ t. eq-eqb a.0 m (sound.distinct a.0 m z x a.2 at (a.3 ∙ same_name_is q x.name t))) in
        ap (λ o. entry_of o n) a.4 ∙ a.5.numbers n ∙ ap (λ b. cond (b && gives gifts n) None (number_of z n)) test
        ∙ ap (λ o. cond (same_name q x.name && gives gifts n) None (entry_of o n)) (sym h)

    by : ((same_name q name ≡ true) × (q ≡ name)) ⊎ ((same_name q name ≡ false) × (q ≢ name))
        → entry_of (seat_named next q) n ≡ cond (same_name q name) (cond (gives gifts n || shares gifts n) (number_of x n) None) (cond (same_name q x.name && gives gifts n) None (entry_of (seat_named seats q) n))
    by (inl p) =
        ap (λ t. entry_of (seat_named next t) n) p.1 ∙ ap (λ o. entry_of o n) named_new ∙ w_numbers n
        ∙ ap (λ b. cond b (cond (gives gifts n || shares gifts n) (number_of x n) None) (cond (same_name q x.name && gives gifts n) None (entry_of (seat_named seats q) n))) (sym p.0)
    by (inr p) =
        two (seat_named seats q) refl (λ e. p.1 (sym e))
        ∙ ap (λ b. cond b (cond (gives gifts n || shares gifts n) (number_of x n) None) (cond (same_name q x.name && gives gifts n) None (entry_of (seat_named seats q) n))) (sym p.0)

  mother_entry : (n : ℕ) → entry (directory seats owned).owners x.name n ≡ number_of x n
  mother_entry n = view-entry seats owned x.name n ∙ ap (λ o. entry_of o n) named_mother

  -- what is given is what the mother owns and gives
  given_is : (s : ℕ) → is_given (directory seats owned).owners x.name gifts s ≡ has (is_handed gifts m) (item_at owned s)
  given_is s = same_test (is_given (directory seats owned).owners x.name gifts s) (has (is_handed gifts m) (item_at owned s)) there back where
    there_at : (n : ℕ) → n < 128 → gives gifts n ≡ true → (o : Option ℕ) → entry (directory seats owned).owners x.name n ≡ o → has (λ r. r == s) o ≡ true → has (is_handed gifts m) (item_at owned s) ≡ true
    there_at n l g None e t = absurd (let f : false ≡ true = t in cc)
    there_at n l g (Some r) e t =
        let number : number_of x n ≡ Some s = sym (mother_entry n) ∙ e ∙ ap Some (eqb-true r s t) in
        let o = sound.entries m n s x at number in
        let mine = own n s o.0 g number o.1 in
        ap (has (is_handed gifts m)) o.1 ∙ (λ i. eq-eqb o.0.owner m mine i && (ap (gives gifts) o.2 ∙ g) i)

    there : is_given (directory seats owned).owners x.name gifts s ≡ true → has (is_handed gifts m) (item_at owned s) ≡ true
    there t =
        let r = below_some (λ n. gives gifts n && has (λ r. r == s) (entry (directory seats owned).owners x.name n)) 128 t in
        let both = and_parts (gives gifts r.0) (has (λ r. r == s) (entry (directory seats owned).owners x.name r.0)) r.2 in
        there_at r.0 r.1 both.0 (entry (directory seats owned).owners x.name r.0) refl both.1

    back_at : (o : Option Owned) → item_at owned s ≡ o → has (is_handed gifts m) o ≡ true → is_given (directory seats owned).owners x.name gifts s ≡ true
    back_at None e t = absurd (let f : false ≡ true = t in cc)
    back_at (Some o) e t =
        let both = and_parts (eqb o.owner m) (gives gifts o.number) t in
        let z = sound.owners s o e in
        let f : Some z.0 ≡ Some x = sym z.1 ∙ ap (item_at seats) (eqb-true o.owner m both.0) ∙ at in
        let same : z.0 ≡ x = cc in
        let number : number_of x o.number ≡ Some s = ap (λ (v : TaskSlot). number_of v o.number) (sym same) ∙ z.2 in
        found_below (λ n. gives gifts n && has (λ r. r == s) (entry (directory seats owned).owners x.name n)) o.number 128 (gives_low gifts o.number both.1)
        (λ i. both.1 i && (ap (has (λ r. r == s)) (mother_entry o.number ∙ number) ∙ eq-eqb s s refl) i)

    back : has (is_handed gifts m) (item_at owned s) ≡ true → is_given (directory seats owned).owners x.name gifts s ≡ true
    back t = back_at (item_at owned s) refl t

  owners_at : (s : ℕ) → owner_name next (item_at left s) ≡ cond (has (is_handed gifts m) (item_at owned s)) (Some name) (owner_name seats (item_at owned s))
  owners_at s = by (item_at owned s) refl where
    by : (p : Option Owned) → item_at owned s ≡ p → owner_name next (item_at left s) ≡ cond (has (is_handed gifts m) p) (Some name) (owner_name seats p)
    by None e = ap (owner_name next) (passed_none s e)
    by (Some o) e = ap (owner_name next) (passed_some s o e) ∙ two (is_handed gifts m o) where
      z : (z : TaskSlot) × (item_at seats o.owner ≡ Some z) × (number_of z o.number ≡ Some s)
      z = sound.owners s o e

      two : (b : Bool) → name_of_seat next (cond b (record { owner = key; number = o.number }) o).owner ≡ cond b (Some name) (name_of_seat seats o.owner)
      two true = ap (option_map (λ (v : TaskSlot). v.name)) here
      two false = name_kept o.owner (not_key o.owner z.0 z.1)

  pub admits : Admits (directory seats owned).owners x.name name gifts residence (directory next left).owners
  admits = record {
    tasks = λ q. view-task next left q ∙ tasks_at q ∙ ap (cond (same_name name q) (Some (record { mother = Some x.name; residence = residence }))) (sym (view-task seats owned q));
    table = λ q n.
        view-entry next left q n ∙ entries_at q n
        ∙ (λ i. cond (same_name q name) (cond (gives gifts n || shares gifts n) (sym (mother_entry n) i) None) (cond (same_name q x.name && gives gifts n) None (sym (view-entry seats owned q n) i)));
    owner = λ s. view-owner next left s ∙ owners_at s ∙ (λ i. cond (sym (given_is s) i) (Some name) (sym (view-owner seats owned s) i));
  }

  pub named_here : name_at (directory next left) key ≡ Some name
  named_here = view-name next left key ∙ ap (option_map (λ v. v.name)) here

  pub nobody_before : name_at (directory seats owned) key ≡ None
  nobody_before = view-name seats owned key ∙ ap (option_map (λ v. v.name)) key_vacant

  pub others_named : (k : ℕ) → k ≢ key → name_at (directory next left) k ≡ name_at (directory seats owned) k
  others_named k d = view-name next left k ∙ name_kept k d ∙ sym (view-name seats owned k)
