-- Each change of tasks, tables and owners that is asked for can be made.
use Rattle.std.proofs.Common.{◌≡◌, ℕ, zero, suc, ◌+◌, ◌<◌, ◌≤◌, ◌⊎◌, inl, inr, Bool, true, false, cond, List, [], ◌∷◌, ◌++◌, map, Option, Some, None, eqb, arith, refl, sym, ap, ◌∙◌, subst, not, ◌&&◌, ◌||◌, ◌==◌, is_some, IsSome, MatchOption, nat_cmp}
use Rattle.std.proofs.lemmas.Bool.Decides.{nat_tests}
use Rattle.std.proofs.lemmas.List.Folds.{list_any-append}
use Rattle.std.specs.List.{list_any}
use Rattle.std.specs.Ordering.{eq_by_cmp}
use Rattle.std.specs.Cmp.{nat_cmp_total}
use Rattle.std.specs.FinMap.{FinMap, get, insert, keys, contains_key-keys, get-insert, nat_cmp-IsAntisymmetric}
use Rattle.std.proofs.lemmas.Bool.{or_left, or_right}
use Rattle.std.proofs.lemmas.Grind.{common_steps}
use Rattle.mvs_model.proofs.Types.{Name, Residence}
use Rattle.mvs_model.specs.Name.{same_name}
use Rattle.mvs_model.specs.Gifts.{GiftsValue, gives, shares}
use Rattle.mvs_model.specs.Finite.{has, any_below}
use Rattle.mvs_model.specs.Keyed.{keyed}
use Rattle.mvs_model.specs.Owners.{Owners, Task, entry_cmp, entry, IsSpare, SubpoolOf, Binds, Enters, EntersBelow, none, passed, entered, handed, Attach, is_among_ended, ends_with, Ends}
use Rattle.mvs_model.proofs.Decide.{Decided, decided_eq}
use Rattle.mvs_model.proofs.Orders.{name_cmp-IsAntisymmetric, entry_cmp_total, entry_cmp-IsAntisymmetric, same_entry_is, same_name_is, same_name_self, same_name_sym}
use Rattle.mvs_model.proofs.Tables.{eq_by_cmp_is}
use Rattle.mvs_model.proofs.Keyed.{get-keyed_all}
use Rattle.mvs_model.proofs.Made.{made_at, made_keeps}
use Rattle.mvs_model.proofs.Tests.{false_true, none_some, true_false}

-- the least number of which it holds, or of none below a bound
least_below : (P : ℕ → Type 0) → ((k : ℕ) → Decided (P k)) → (n : ℕ) → ((k : ℕ) × P k × ((j : ℕ) → j < k → P j → ⊥)) ⊎ ((j : ℕ) → j < n → P j → ⊥)
least_below P decide zero = inr (λ j l p. omega arith)
least_below P decide (suc n) =
    elim (least_below P decide n) [
      | inl found ↦ inl found
      | inr none_yet ↦ elim (decide n) [
        | inl p ↦ inl (n, p, none_yet)
        | inr q ↦ inr (λ j l p. elim (decided_eq j n) [ inl e ↦ q (subst P e p) | inr d ↦ none_yet j (let e : j ≡ n → ⊥ = d in omega arith) p ])
      ]
    ]

total : List ℕ → ℕ
total [] = 0
total (x ∷ xs) = x + total xs

at_most_total : (k : ℕ) (xs : List ℕ) → list_any (eq_by_cmp nat_cmp k) xs ≡ true → k ≤ total xs
unfolding total
at_most_total k [] h = false_true h
at_most_total k (x ∷ xs) h = grind (arith, nat_tests, total, eq_by_cmp_is, at_most_total k xs)

module _ (o : Owners) where
  -- nobody owns the number after all
  past : (s : ℕ) → total (keys o.owner) < s → get o.owner s ≡ None
  past s l = at (get o.owner s) refl where
    at : (v : Option Name) → get o.owner s ≡ v → v ≡ None
    at None e = refl
    at (Some t) e = absurd (let k : s ≤ total (keys o.owner) = at_most_total s (keys o.owner) (sym (contains_key-keys o.owner s) ∙ ap is_some e) in omega arith)

  nobody : (v : Option Name) → Decided (v ≡ None)
  nobody v = grind (arith, common_steps)

  somebody : (v : Option Name) → (v ≡ None → ⊥) → IsSome v
  somebody v h1 = grind (arith, common_steps)

  -- there is a spare subpool
  pub spare_some : (s : ℕ) × IsSpare o s
  spare_some =
      elim (least_below (λ s. get o.owner s ≡ None) (λ s. nobody (get o.owner s)) (total (keys o.owner) + 2)) [
        | inl found ↦ (found.0, record { spare = found.1; least = λ r l. somebody (get o.owner r) (found.2 r l) })
        | inr all ↦ absurd (all (total (keys o.owner) + 1) (omega arith) (past (total (keys o.owner) + 1) (omega arith)))
      ]

  -- the task has or would have a subpool under the number
  pub subpool_some : (t : Name) (number : ℕ) → (s : ℕ) × SubpoolOf o t number s
  subpool_some t number = at (entry o t number) where
    at : (e : Option ℕ) → (s : ℕ) × MatchOption e (IsSpare o s) (λ r. s ≡ r)
    at None = spare_some
    at (Some r) = (r, refl)

  bound : (t : Name) (number s : ℕ) → (new : Owners) × Binds o t number s new
  bound t number s = (
    record { tasks = o.tasks; table = insert o.table (t, number) s; owner = insert o.owner s t },
    record {
      tasks = refl;
      table = λ e. get-insert entry_cmp_total o.table (t, number) s e ∙ ap (λ b. cond b (Some s) (get o.table e)) (same_entry_is e (t, number));
      owner = λ r. get-insert nat_cmp_total o.owner s t r ∙ ap (λ b. cond b (Some t) (get o.owner r)) (eq_by_cmp_is r s);
    },
  )

  pub enters_some : (t : Name) (number s : ℕ) → (new : Owners) × Enters o t number s new
  enters_some t number s = at (entry o t number) where
    at : (e : Option ℕ) → (new : Owners) × MatchOption e (Binds o t number s new) (λ _. new ≡ o)
    at None = bound t number s
    at (Some r) = (o, refl)

  -- the task and those that fall with it can go
  pub ends_some : (t : Name) (fallen : List Name) → (new : Owners) × Ends o t fallen new
  ends_some t fallen =
      let tasks = made_keeps name_cmp-IsAntisymmetric o.tasks (λ x _. not (is_among_ended t fallen x)) in
      let table = made_keeps entry_cmp-IsAntisymmetric o.table (λ e s. not (is_among_ended t fallen e.0 || ends_with o t fallen s)) in
      let owner = made_keeps nat_cmp-IsAntisymmetric o.owner (λ _ x. not (is_among_ended t fallen x)) in (
        record { tasks = tasks.0; table = table.0; owner = owner.0 },
        record { tasks = tasks.1; table = table.1; owner = owner.1 },
      )

-- a subpool can be made under each wanted number
pub enters_below_some : (o : Owners) (t : Name) (wanted : ℕ → Bool) (n : ℕ) → (new : Owners) × EntersBelow o t wanted n new
enters_below_some o t wanted zero = (o, none)
enters_below_some o t wanted (suc n) = at (wanted n) refl (enters_below_some o t wanted n) where
  at : (b : Bool) → wanted n ≡ b → ((now : Owners) × EntersBelow o t wanted n now) → (new : Owners) × EntersBelow o t wanted (suc n) new
  at false e now = (now.0, passed now.1 e)
  at true e now = let s = subpool_some now.0 t n in let new = enters_some now.0 t n s.0 in (new.0, entered s.0 now.1 e s.1 new.1)

module _ (ready : Owners) (mother name : Name) (gifts : GiftsValue) where
  -- the table after the gifts are handed over
  after : Name × ℕ → Option ℕ
  after e = handed ready mother name gifts e.0 e.1

  places : List (Name × ℕ)
  places = keys ready.table ++ map (λ e. (name, e.1)) (keys ready.table)

  here : (t : Name) (n s : ℕ) → entry ready t n ≡ Some s → list_any (eq_by_cmp entry_cmp (t, n)) (keys ready.table) ≡ true
  here t n s e = sym (contains_key-keys ready.table (t, n)) ∙ ap is_some e

  one_there : (t : Name) (n : ℕ) (e : Name × ℕ) → eq_by_cmp entry_cmp (t, n) e ≡ true → eq_by_cmp entry_cmp (name, n) (name, e.1) ≡ true
  one_there t n e h = grind (arith, nat_tests, same_entry_is, same_name_self)

  there : (t : Name) (n : ℕ) (es : List (Name × ℕ)) → list_any (eq_by_cmp entry_cmp (t, n)) es ≡ true → list_any (eq_by_cmp entry_cmp (name, n)) (map (λ e. (name, e.1)) es) ≡ true
  there t n [] h = h
  there t n (e ∷ es) h = grind (arith, nat_tests, one_there, false_true, there t n es)

  among_places : (t : Name) (n s : ℕ) → after (t, n) ≡ Some s → list_any (eq_by_cmp entry_cmp (t, n)) places ≡ true
  unfolding after places
  among_places t n s h = list_any-append (eq_by_cmp entry_cmp (t, n)) (keys ready.table) _ ∙ at (same_name t name) (same_name_is t name) (gives gifts n || shares gifts n) (same_name t mother && gives gifts n) h where
    at : (a : Bool) → (a ≡ true → t ≡ name) → (b c : Bool) → cond a (cond b (entry ready mother n) None) (cond c None (entry ready t n)) ≡ Some s → (list_any (eq_by_cmp entry_cmp (t, n)) (keys ready.table) || list_any (eq_by_cmp entry_cmp (t, n)) (map (λ e. (name, e.1)) (keys ready.table))) ≡ true
    at true is true c e = or_right _ _ (subst (λ x. list_any (eq_by_cmp entry_cmp (x, n)) (map (λ e. (name, e.1)) (keys ready.table)) ≡ true) (sym (is refl)) (there mother n (keys ready.table) (here mother n s e)))
    at true is false c e = none_some e
    at false is b true e = none_some e
    at false is b false e = or_left _ _ (here t n s e)

  nothing_else : (e : Name × ℕ) → list_any (eq_by_cmp entry_cmp e) places ≡ false → after e ≡ None
  nothing_else e h = at (after e) refl where
    at : (v : Option ℕ) → after e ≡ v → v ≡ None
    at None f = refl
    at (Some s) f = true_false (sym (among_places e.0 e.1 s f) ∙ h)

  table_some : (new : FinMap entry_cmp ℕ) × ((t : Name) (n : ℕ) → get new (t, n) ≡ handed ready mother name gifts t n)
  unfolding after
  table_some = (keyed entry_cmp places after, λ t n. get-keyed_all entry_cmp_total entry_cmp-IsAntisymmetric places after (t, n) (nothing_else (t, n)))

  -- the owners after what is given below a bound is the subtask's
  put_owner : Bool → Option ℕ → FinMap nat_cmp Name → FinMap nat_cmp Name
  put_owner true (Some s) m = insert m s name
  put_owner true None m = m
  put_owner false v m = m

  given_below : ℕ → FinMap nat_cmp Name
  given_below zero = ready.owner
  given_below (suc n) = put_owner (gives gifts n) (entry ready mother n) (given_below n)

  one_more : (g : Bool) (v : Option ℕ) (m : FinMap nat_cmp Name) (c : Bool) (s : ℕ) → get m s ≡ cond c (Some name) (get ready.owner s) → get (put_owner g v m) s ≡ cond ((g && has (λ r. r == s) v) || c) (Some name) (get ready.owner s)
  unfolding put_owner
  one_more true (Some r) m c s h = get-insert nat_cmp_total m r name s ∙ ap (λ b. cond b (Some name) (get m s)) (eq_by_cmp_is s r ∙ turned) ∙ at (r == s) where
    turned : eqb s r ≡ (r == s)
    turned = grind (arith, nat_tests)

    at : (b : Bool) → cond b (Some name) (get m s) ≡ cond (b || c) (Some name) (get ready.owner s)
    at true = refl
    at false = h
  one_more true None m c s h = h
  one_more false v m c s h = h

  get-given_below : (n s : ℕ) → get (given_below n) s ≡ cond (any_below (λ k. gives gifts k && has (λ r. r == s) (entry ready mother k)) n) (Some name) (get ready.owner s)
  unfolding given_below any_below
  get-given_below zero s = refl
  get-given_below (suc n) s = one_more (gives gifts n) (entry ready mother n) (given_below n) _ s (get-given_below n s)

-- a subtask can be attached
pub attach_some : (o : Owners) (mother name : Name) (gifts : GiftsValue) (residence : Residence) → (new : Owners) × Attach o mother name gifts residence new
attach_some o mother name gifts residence =
    let task : Task = record { mother = Some mother; residence = residence } in
    let ready = enters_below_some o mother (shares gifts) 128 in
    let table = table_some ready.0 mother name gifts in (
      record { tasks = insert o.tasks name task; table = table.0; owner = given_below ready.0 mother name gifts 128 },
      record { ready = ready.0; made = ready.1; tasks = λ x. made_at o.tasks name task x ∙ ap (λ b. cond b (Some task) (get o.tasks x)) (same_name_sym x name); table = table.1; owner = get-given_below ready.0 mother name gifts 128 },
    )
