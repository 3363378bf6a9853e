-- A task ends, with its descendants.
use mathlib.Core.Bool.{not-not}
use Rattle.std.proofs.Common.{◌≡◌, ℕ, Bool, true, false, cond, not, ◌||◌, List, Option, Some, None, is_some, IsSome, sym, ap, subst, refl, ◌∙◌}
use Rattle.std.specs.Option.{option_map}
use Rattle.std.specs.FinMap.{get}
use Rattle.std.proofs.lemmas.Bool.{not-true}
use Rattle.mvs_model.specs.declared.name.Name.{Name}
use Rattle.mvs_model.specs.Finite.{Keeps, kept, has}
use Rattle.mvs_model.specs.Owners.{is_among_ended, Ends}
use Rattle.task_owner.specs.Tasks.{name_at}
use Rattle.task_owner.specs.Seats.{item_at, name_of_seat, number_of, seat_named, mother_of, task_of, entry_of, owner_name, directory, IsSound, MothersActive}
use Rattle.task_owner.specs.Family.{has_owner, TrimsBy, IsTrimmed}
use Rattle.task_owner.specs.declared.task_slot.TaskSlot.{TaskSlot}
use Rattle.task_owner.specs.declared.task_slot.Owned.{Owned}
use Rattle.task_owner.proofs.Places.{of_some}
use Rattle.task_owner.proofs.Reading.{found, found_at, not_found, view-task, view-entry, view-owner, view-name}
use Rattle.task_owner.proofs.Bools.{passing_kept, none_kept, all_kept}
use Rattle.task_owner.proofs.Having.{same_place}
use Rattle.mvs_model.proofs.Tests.{kept_is}

module _ (seats mid next : List (Option TaskSlot)) (owned left : List (Option Owned)) (t : Name) (fallen : List Name) (sound : IsSound seats owned)
    (out : Keeps (item_at seats) (λ _ (x : TaskSlot). not (is_among_ended t fallen x.name)) (item_at mid))
    (closed : MothersActive mid)
    (freed : Keeps (item_at owned) (λ _ (o : Owned). is_some (item_at mid o.owner)) (item_at left))
    (each : (k : ℕ) → IsTrimmed left (item_at mid k) (item_at next k)) where
  from_mid : (k : ℕ) (x : TaskSlot) → item_at mid k ≡ Some x → (item_at seats k ≡ Some x) × (is_among_ended t fallen x.name ≡ false)
  from_mid k x h = let r = kept_is (λ (y : TaskSlot). not (is_among_ended t fallen y.name)) (item_at seats k) x (sym (out k) ∙ h) in (r.0, not-true (is_among_ended t fallen x.name) r.1)

  to_mid : (k : ℕ) (x : TaskSlot) → item_at seats k ≡ Some x → item_at mid k ≡ cond (not (is_among_ended t fallen x.name)) (Some x) None
  to_mid k x h = out k ∙ ap (kept (λ (y : TaskSlot). not (is_among_ended t fallen y.name))) h

  trimmed : (k : ℕ) (x : TaskSlot) → item_at mid k ≡ Some x → (w : TaskSlot) × (item_at next k ≡ Some w) × TrimsBy (has_owner left) x w
  trimmed k x h = subst (λ o. IsTrimmed left o (item_at next k)) h (each k)

  before : (k : ℕ) (w : TaskSlot) → item_at next k ≡ Some w → (x : TaskSlot) × (item_at mid k ≡ Some x) × TrimsBy (has_owner left) x w
  before k w h = by (item_at mid k) refl (each k) where
    by : (o : Option TaskSlot) → item_at mid k ≡ o → IsTrimmed left o (item_at next k) → (x : TaskSlot) × (item_at mid k ≡ Some x) × TrimsBy (has_owner left) x w
    by None e r = let f : None ≡ Some w = sym r ∙ h in absurd (cc)
    by (Some x) e r = let f : Some r.0 ≡ Some w = sym r.1 ∙ h in let same : r.0 ≡ w = cc in (x, e, subst (λ (v : TaskSlot). TrimsBy (has_owner left) x v) same r.2)

  owner_back : (s : ℕ) (o : Owned) → item_at left s ≡ Some o → (item_at owned s ≡ Some o) × IsSome (item_at mid o.owner)
  owner_back s o h = kept_is (λ (p : Owned). is_some (item_at mid p.owner)) (item_at owned s) o (sym (freed s) ∙ h)

  pub ended_sound : IsSound next left
  ended_sound = record {
    distinct = λ j k v w hv hw e. let a = before j v hv in let b = before k w hw in sound.distinct j k a.0 b.0 (from_mid j a.0 a.1).0 (from_mid k b.0 b.1).0 (sym a.2.name ∙ e ∙ b.2.name);
    mothers = λ k m w h e.
        let a = before k w h in
        let z = of_some (item_at mid m) (closed k m a.0 a.1 (sym a.2.mother ∙ e)) in
        ap is_some (trimmed m z.0 z.1).1;
    ranked = (sound.ranked.0, λ k m w h e. let a = before k w h in sound.ranked.1 k m a.0 (from_mid k a.0 a.1).0 (sym a.2.mother ∙ e));
    first = λ j k v w hv hw e f. let a = before j v hv in let b = before k w hw in sound.first j k a.0 b.0 (from_mid j a.0 a.1).0 (from_mid k b.0 b.1).0 (sym a.2.mother ∙ e) (sym b.2.mother ∙ f);
    entries = λ k n s w h e.
        let a = before k w h in
        let r = kept_is (has_owner left) (number_of a.0 n) s (sym (a.2.numbers n) ∙ e) in
        let o = of_some (item_at left s) r.1 in
        let p = sound.entries k n s a.0 (from_mid k a.0 a.1).0 r.0 in
        let f : Some p.0 ≡ Some o.0 = sym p.1 ∙ (owner_back s o.0 o.1).0 in
        (p.0, o.1 ∙ sym f, p.2);
    places = λ k n s w h e.
        let a = before k w h in
        let r = kept_is (has_owner left) (number_of a.0 n) s (sym (a.2.numbers n) ∙ e) in
        same_place a.0 w n (sym a.2.mother) (sound.places k n s a.0 (from_mid k a.0 a.1).0 r.0);
    owners = λ s o h.
        let b = owner_back s o h in
        let z = of_some (item_at mid o.owner) b.1 in
        let x = sound.owners s o b.0 in
        let w = trimmed o.owner z.0 z.1 in
        let f : Some x.0 ≡ Some z.0 = sym x.1 ∙ (from_mid o.owner z.0 z.1).0 in
        let same : x.0 ≡ z.0 = cc in
        (w.0, w.1, w.2.numbers o.number ∙ ap (kept (has_owner left)) (ap (λ v. number_of v o.number) (sym same) ∙ x.2) ∙ passing_kept (has_owner left) s (ap is_some h));
  }

  -- what is found by a name that goes, and by one that stays
  gone : (q : Name) → is_among_ended t fallen q ≡ true → seat_named next q ≡ None
  gone q g = not_found next q (λ k w h e.
      let a = before k w h in
      let f : true ≡ false = sym g ∙ ap (is_among_ended t fallen) (sym e ∙ a.2.name) ∙ (from_mid k a.0 a.1).1 in cc)

  after : (q : Name) → is_among_ended t fallen q ≡ false → (x : TaskSlot) → seat_named seats q ≡ Some x → (k : ℕ) × (w : TaskSlot) × (item_at mid k ≡ Some x) × (seat_named next q ≡ Some w) × TrimsBy (has_owner left) x w
  after q g x h =
      let r = found_at seats q x h in
      let here : item_at mid r.0 ≡ Some x = to_mid r.0 x r.1 ∙ ap (λ b. cond (not b) (Some x) None) (ap (is_among_ended t fallen) r.2 ∙ g) in
      let w = trimmed r.0 x here in
      (r.0, w.0, here, ap (seat_named next) (sym (w.2.name ∙ r.2)) ∙ found next r.0 w.0 ended_sound.distinct w.1, w.2)

  after_none : (q : Name) → seat_named seats q ≡ None → seat_named next q ≡ None
  after_none q h = not_found next q (λ k w g e.
      let a = before k w g in
      let f : None ≡ Some a.0 = sym h ∙ ap (seat_named seats) (sym e ∙ a.2.name) ∙ found seats k a.0 sound.distinct (from_mid k a.0 a.1).0 in cc)

  -- the names of tasks that stay
  name_stays : (m : ℕ) → IsSome (item_at mid m) → name_of_seat next m ≡ name_of_seat seats m
  name_stays m h =
      let z = of_some (item_at mid m) h in
      let w = trimmed m z.0 z.1 in
      ap (option_map (λ v. v.name)) w.1 ∙ ap Some w.2.name ∙ sym (ap (option_map (λ v. v.name)) (from_mid m z.0 z.1).0)

  mother_kept : (o : Option ℕ) → ((m : ℕ) → o ≡ Some m → IsSome (item_at mid m)) → mother_of next o ≡ mother_of seats o
  mother_kept None h = refl
  mother_kept (Some m) h = name_stays m (h m refl)

  tasks_at : (q : Name) → option_map (task_of next) (seat_named next q) ≡ kept (λ _. not (is_among_ended t fallen q)) (option_map (task_of seats) (seat_named seats q))
  tasks_at q = by (is_among_ended t fallen q) refl where
    by : (b : Bool) → is_among_ended t fallen q ≡ b → option_map (task_of next) (seat_named next q) ≡ kept (λ _. not b) (option_map (task_of seats) (seat_named seats q))
    by true g = ap (option_map (task_of next)) (gone q g) ∙ sym (none_kept (option_map (task_of seats) (seat_named seats q)))
    by false g = two (seat_named seats q) refl ∙ sym (all_kept (option_map (task_of seats) (seat_named seats q))) where
      two : (o : Option TaskSlot) → seat_named seats q ≡ o → option_map (task_of next) (seat_named next q) ≡ option_map (task_of seats) (seat_named seats q)
      two None h = ap (option_map (task_of next)) (after_none q h) ∙ sym (ap (option_map (task_of seats)) h)
      two (Some x) h =
          let a = after q g x h in
          ap (option_map (task_of next)) a.3
          ∙ (λ i. Some (record { mother = mother_of next (a.4.mother i); residence = a.4.residence i }))
          ∙ ap (λ m. Some (record { mother = m; residence = x.residence })) (mother_kept x.mother (λ m e. closed a.0 m x a.2 e))
          ∙ sym (ap (option_map (task_of seats)) h)

  -- whether the owner of a subpool stays
  owner_stays : (s : ℕ) (o : Owned) (x : TaskSlot) → item_at seats o.owner ≡ Some x → is_some (item_at mid o.owner) ≡ not (is_among_ended t fallen x.name)
  owner_stays s o x h = ap is_some (to_mid o.owner x h) ∙ by (is_among_ended t fallen x.name) where
    by : (b : Bool) → is_some (cond (not b) (Some x) None) ≡ not b
    by true = refl
    by false = refl

  owners_at : (s : ℕ) → owner_name next (item_at left s) ≡ kept (λ q. not (is_among_ended t fallen q)) (owner_name seats (item_at owned s))
  owners_at s = by (item_at owned s) refl where
    by : (o : Option Owned) → item_at owned s ≡ o → owner_name next (item_at left s) ≡ kept (λ q. not (is_among_ended t fallen q)) (owner_name seats (item_at owned s))
    by None e = ap (owner_name next) (freed s ∙ ap (kept (λ (p : Owned). is_some (item_at mid p.owner))) e) ∙ sym (ap (λ p. kept (λ q. not (is_among_ended t fallen q)) (owner_name seats p)) e)
    by (Some o) e = two (is_among_ended t fallen x.0.name) refl ∙ sym named where
      x : (x : TaskSlot) × (item_at seats o.owner ≡ Some x) × (number_of x o.number ≡ Some s)
      x = sound.owners s o e

      named : kept (λ q. not (is_among_ended t fallen q)) (owner_name seats (item_at owned s)) ≡ cond (not (is_among_ended t fallen x.0.name)) (Some x.0.name) None
      named = ap (λ p. kept (λ q. not (is_among_ended t fallen q)) (owner_name seats p)) e ∙ ap (λ p. kept (λ q. not (is_among_ended t fallen q)) (option_map (λ (y : TaskSlot). y.name) p)) x.1

      now : item_at left s ≡ cond (not (is_among_ended t fallen x.0.name)) (Some o) None
      now = freed s ∙ ap (kept (λ (p : Owned). is_some (item_at mid p.owner))) e ∙ ap (λ b. cond b (Some o) None) (owner_stays s o x.0 x.1)

      two : (b : Bool) → is_among_ended t fallen x.0.name ≡ b → owner_name next (item_at left s) ≡ cond (not (is_among_ended t fallen x.0.name)) (Some x.0.name) None
      two true g = ap (owner_name next) (now ∙ ap (λ b. cond (not b) (Some o) None) g) ∙ sym (ap (λ b. cond (not b) (Some x.0.name) None) g)
      two false g =
          ap (owner_name next) (now ∙ ap (λ b. cond (not b) (Some o) None) g)
          ∙ name_stays o.owner (owner_stays s o x.0 x.1 ∙ ap not g) ∙ ap (option_map (λ y. y.name)) x.1
          ∙ sym (ap (λ b. cond (not b) (Some x.0.name) None) g)

  -- whether a subpool falls free
  pub freed_test : (s : ℕ) → has (λ (o : Owned). not (is_some (item_at mid o.owner))) (item_at owned s) ≡ has (is_among_ended t fallen) (owner_name seats (item_at owned s))
  freed_test s = by (item_at owned s) refl where
    by : (o : Option Owned) → item_at owned s ≡ o → has (λ (o : Owned). not (is_some (item_at mid o.owner))) o ≡ has (is_among_ended t fallen) (owner_name seats o)
    by None e = refl
    by (Some o) e =
        let x = sound.owners s o e in
        ap not (owner_stays s o x.0 x.1) ∙ not-not (is_among_ended t fallen x.0.name) ∙ sym (ap (λ p. has (is_among_ended t fallen) (option_map (λ (y : TaskSlot). y.name) p)) x.1)

  -- whether a subpool that a task has keeps its owner
  owner_left : (s : ℕ) (o : Owned) → item_at owned s ≡ Some o → has_owner left s ≡ not (has (is_among_ended t fallen) (owner_name seats (item_at owned s)))
  owner_left s o e =
      let x = sound.owners s o e in
      ap is_some (freed s ∙ ap (kept (λ (p : Owned). is_some (item_at mid p.owner))) e ∙ ap (λ b. cond b (Some o) None) (owner_stays s o x.0 x.1))
      ∙ by o (is_among_ended t fallen x.0.name) ∙ ap not (sym (ap (λ p. has (is_among_ended t fallen) (owner_name seats p)) e ∙ ap (λ p. has (is_among_ended t fallen) (option_map (λ (y : TaskSlot). y.name) p)) x.1))
    where
      by : (o : Owned) (b : Bool) → is_some (cond (not b) (Some o) None) ≡ not b
      by o true = refl
      by o false = refl

  entries_at : (q : Name) (n : ℕ) → entry_of (seat_named next q) n ≡ kept (λ s. not (is_among_ended t fallen q || has (is_among_ended t fallen) (owner_name seats (item_at owned s)))) (entry_of (seat_named seats q) n)
  entries_at q n = by (is_among_ended t fallen q) refl where
    by : (b : Bool) → is_among_ended t fallen q ≡ b → entry_of (seat_named next q) n ≡ kept (λ s. not (b || has (is_among_ended t fallen) (owner_name seats (item_at owned s)))) (entry_of (seat_named seats q) n)
    by true g = ap (λ o. entry_of o n) (gone q g) ∙ sym (none_kept (entry_of (seat_named seats q) n))
    by false g = two (seat_named seats q) refl where
      two : (o : Option TaskSlot) → seat_named seats q ≡ o → entry_of (seat_named next q) n ≡ kept (λ s. not (has (is_among_ended t fallen) (owner_name seats (item_at owned s)))) (entry_of (seat_named seats q) n)
      two None h = ap (λ o. entry_of o n) (after_none q h) ∙ sym (ap (λ o. kept (λ s. not (has (is_among_ended t fallen) (owner_name seats (item_at owned s)))) (entry_of o n)) h)
      two (Some x) h =
          ap (λ o. entry_of o n) a.3 ∙ a.4.numbers n ∙ agree (number_of x n) refl
          ∙ sym (ap (λ o. kept (λ s. not (has (is_among_ended t fallen) (owner_name seats (item_at owned s)))) (entry_of o n)) h)
        where
          a : (k : ℕ) × (w : TaskSlot) × (item_at mid k ≡ Some x) × (seat_named next q ≡ Some w) × TrimsBy (has_owner left) x w
          a = after q g x h

          agree : (o : Option ℕ) → number_of x n ≡ o → kept (has_owner left) o ≡ kept (λ s. not (has (is_among_ended t fallen) (owner_name seats (item_at owned s)))) o
          agree None e = refl
          agree (Some s) e =
              let o = sound.entries a.0 n s x (from_mid a.0 x a.2).0 e in
              ap (λ b. cond b (Some s) None) (owner_left s o.0 o.1)

  pub ends : Ends (directory seats owned).owners t fallen (directory next left).owners
  ends = record {
    tasks = λ q. view-task next left q ∙ tasks_at q ∙ ap (kept (λ _. not (is_among_ended t fallen q))) (sym (view-task seats owned q));
    table = λ e.
        view-entry next left e.0 e.1 ∙ entries_at e.0 e.1 ∙ ap (kept (λ s. not (is_among_ended t fallen e.0 || has (is_among_ended t fallen) (owner_name seats (item_at owned s))))) (sym (view-entry seats owned e.0 e.1))
        ∙ (λ i. kept (λ s. not (is_among_ended t fallen e.0 || has (is_among_ended t fallen) (sym (view-owner seats owned s) i))) (get (directory seats owned).owners.table e));
    owner = λ s. view-owner next left s ∙ owners_at s ∙ ap (kept (λ q. not (is_among_ended t fallen q))) (sym (view-owner seats owned s));
  }

  -- the names at the identifiers
  pub names_end : (id : ℕ) → name_at (directory next left) id ≡ kept (λ q. not (is_among_ended t fallen q)) (name_at (directory seats owned) id)
  names_end id = view-name next left id ∙ by (item_at seats id) refl ∙ ap (kept (λ q. not (is_among_ended t fallen q))) (sym (view-name seats owned id)) where
    by : (o : Option TaskSlot) → item_at seats id ≡ o → name_of_seat next id ≡ kept (λ q. not (is_among_ended t fallen q)) (name_of_seat seats id)
    by None e = ap (option_map (λ x. x.name)) none ∙ sym (ap (λ p. kept (λ q. not (is_among_ended t fallen q)) (option_map (λ (x : TaskSlot). x.name) p)) e) where
      none : item_at next id ≡ None
      none = subst (λ o. IsTrimmed left o (item_at next id)) (out id ∙ ap (kept (λ (y : TaskSlot). not (is_among_ended t fallen y.name))) e) (each id)
    by (Some x) e = two (is_among_ended t fallen x.name) refl ∙ sym (ap (λ p. kept (λ q. not (is_among_ended t fallen q)) (option_map (λ (x : TaskSlot). x.name) p)) e) where
      two : (b : Bool) → is_among_ended t fallen x.name ≡ b → name_of_seat next id ≡ cond (not (is_among_ended t fallen x.name)) (Some x.name) None
      two true g =
          ap (option_map (λ x. x.name)) (subst (λ o. IsTrimmed left o (item_at next id)) (to_mid id x e ∙ ap (λ b. cond (not b) (Some x) None) g) (each id))
          ∙ sym (ap (λ b. cond (not b) (Some x.name) None) g)
      two false g =
          let here : item_at mid id ≡ Some x = to_mid id x e ∙ ap (λ b. cond (not b) (Some x) None) g in
          name_stays id (ap is_some here) ∙ ap (option_map (λ x. x.name)) e ∙ sym (ap (λ b. cond (not b) (Some x.name) None) g)
