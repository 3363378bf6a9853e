-- All that the end of a task ensures, of the value of `Tasks`.
use Rattle.std.proofs.Common.{◌≡◌, ℕ, ◌<◌, ◌≤◌, ◌⊎◌, inl, inr, Bool, true, false, cond, not, ◌&&◌, ◌↔◌, List, length, Option, Some, None, IsSome, is_some, ltb, refl, sym, ap, subst, ◌∙◌, arith}
use Rattle.std.proofs.lemmas.Bool.{cases_lt}
use Rattle.std.proofs.lemmas.Bool.Decides.{nat_tests}
use Rattle.std.specs.List.{Contains}
use Rattle.std.specs.List.Sorted.{IsSorted, IsPermutation}
use Rattle.slab.specs.Slab.{Slab, get}
use Rattle.mvs_model.specs.declared.name.Name.{Name}
use Rattle.mvs_model.specs.Name.{name_cmp}
use Rattle.mvs_model.specs.Finite.{Keeps, kept, has}
use Rattle.mvs_model.specs.Storage.{is_one_of}
use Rattle.mvs_model.proofs.Elements.{one_of_contained, contained_one_of}
use Rattle.mvs_model.specs.Owners.{is_among_ended, ends_with, Ends, AreDescendants}
use Rattle.task_owner.specs.Tasks.{TasksValue, name_at, IsTask, name_of}
use Rattle.task_owner.specs.Seats.{item_at, number_of, directory, IsSound, MothersActive}
use Rattle.task_owner.specs.Family.{Falls, IsFreed, FreedBelow, EntriesStand, IsTrimmed, IsTrimmedBy, is_owner_active, has_owner, is_freed_below}
use Rattle.task_owner.specs.declared.task_slot.TaskSlot.{TaskSlot}
use Rattle.task_owner.specs.declared.task_slot.Owned.{Owned}
use Rattle.task_owner.proofs.Places.{past_end}
use Rattle.task_owner.proofs.Reading.{the_seat, name_is, view-owner}
use Rattle.task_owner.proofs.Bools.{same_kept}
use Rattle.task_owner.proofs.Fallen.{goes_sorted, fallen_is}
use Rattle.task_owner.proofs.Ending.{ended_sound, ends, names_end, freed_test}
use Rattle.mvs_model.proofs.Tests.{kept_is}

-- what callers learn, and that the fields are sound
pub record EndsAt (d : TasksValue) (t : Name) (names : List Name) (subpools : List ℕ) (next : List (Option TaskSlot)) (left : List (Option Owned)) : Type 0 where
  pub sound : IsSound next left
  pub fallen : AreDescendants d.owners t names
  pub ends : Ends d.owners t names (directory next left).owners
  pub freed : (s : ℕ) → Contains subpools s ↔ (ends_with d.owners t names s ≡ true)
  pub identifiers : (k : ℕ) → name_at (directory next left) k ≡ kept (λ x. not (is_among_ended t names x)) (name_at d k)

-- an owner that is kept is active
kept_active : (now : Slab TaskSlot) (o : Option Owned) (b : Bool) → b ≡ has (λ p. not (is_owner_active now p)) o → cond b None o ≡ kept (is_owner_active now) o
kept_active now None true e = refl
kept_active now None false e = refl
kept_active now (Some o) b e = ap (λ c. cond c None (Some o)) e ∙ by (is_owner_active now o) where
  by : (c : Bool) → cond (not c) None (Some o) ≡ cond c (Some o) None
  by true = refl
  by false = refl

-- the entries that are left are those of subpools that have an owner
trimmed_as : (test : ℕ → Bool) (left : List (Option Owned)) (x : Option TaskSlot) (now : Option TaskSlot) → ((y : TaskSlot) → x ≡ Some y → (n s : ℕ) → number_of y n ≡ Some s → test s ≡ has_owner left s) → IsTrimmedBy test x now → IsTrimmed left x now
trimmed_as test left None now h t = t
trimmed_as test left (Some x) now h t = (t.0, t.1, record { name = t.2.name; mother = t.2.mother; residence = t.2.residence; numbers = λ n. t.2.numbers n ∙ same_kept test (has_owner left) (number_of x n) (λ s e. h x refl n s e) })

module _ (mid next : Slab TaskSlot) (owned left : List (Option Owned)) (freed : List ℕ) (long : length owned ≡ 4098) (is_freed : IsFreed mid owned freed) (stand : EntriesStand mid.slots owned) (below : FreedBelow mid owned freed 4098 next left) where
  all_below : (s : ℕ) → is_freed_below freed 4098 s ≡ is_one_of freed s
  all_below s = by (cases_lt s 4098) where
    by : (s < 4098) ⊎ (4098 ≤ s) → is_freed_below freed 4098 s ≡ is_one_of freed s
    by (inl low) = ap (λ b. b && is_one_of freed s) (let t : ltb s 4098 ≡ true = grind (arith, nat_tests) in t)
    by (inr high) =
        ap (λ b. b && is_one_of freed s) (let t : ltb s 4098 ≡ false = grind (arith, nat_tests) in t)
        ∙ sym (is_freed s ∙ ap (has (λ (o : Owned). not (is_owner_active mid o))) (past_end owned s (omega (arith, long))))

  pub owners_left : (s : ℕ) → item_at left s ≡ kept (is_owner_active mid) (item_at owned s)
  owners_left s = below.owners s ∙ kept_active mid (item_at owned s) (is_freed_below freed 4098 s) (all_below s ∙ is_freed s)

  pub entries_left : (k : ℕ) → IsTrimmed left (get mid k) (get next k)
  entries_left k = trimmed_as (λ s. not (is_freed_below freed 4098 s)) left (get mid k) (get next k) test (below.each k) where
    test : (y : TaskSlot) → get mid k ≡ Some y → (n s : ℕ) → number_of y n ≡ Some s → not (is_freed_below freed 4098 s) ≡ has_owner left s
    test y h n s e =
        let o = stand k n s y h e in
        by (is_freed_below freed 4098 s) ∙ sym (ap is_some (below.owners s ∙ ap (λ p. cond (is_freed_below freed 4098 s) None p) o.1))
      where
        by : (b : Bool) → not b ≡ is_some (cond b None (Some (stand k n s y h e).0))
        by true = refl
        by false = refl

module _ (old now next : Slab TaskSlot) (owned left : List (Option Owned)) (d : TasksValue) (key id : ℕ) (e : directory old.slots owned ≡ d) (f : key ≡ id) (sound : IsSound old.slots owned) (active : IsTask d id)
    (names fallen : List Name) (freed : List ℕ) (falls : (x : TaskSlot) → get old key ≡ Some x → Falls old key x.name names now) (closed : MothersActive now.slots)
    (sorted : IsSorted name_cmp fallen) (same : IsPermutation names fallen) (listed : IsFreed now owned freed)
    (owner : Keeps (item_at owned) (λ _ o. is_owner_active now o) (item_at left)) (each : (k : ℕ) → IsTrimmed left (get now k) (get next k)) where
  y : (y : TaskSlot) × (item_at old.slots key ≡ Some y)
  y = the_seat old.slots owned d key id e f active

  named : y.0.name ≡ name_of d id
  named = sym (name_is old.slots owned d key id e f sound y.0 y.1)

  out : Keeps (item_at old.slots) (λ _ (x : TaskSlot). not (is_among_ended y.0.name fallen x.name)) (item_at now.slots)
  out k = (falls y.0 y.1).kept k ∙ (λ i. kept (λ (x : TaskSlot). not (goes_sorted y.0.name names fallen same x.name i)) (get old k))

  freed_is : (s : ℕ) → is_one_of freed s ≡ ends_with (directory old.slots owned).owners y.0.name fallen s
  freed_is s =
      listed s
      ∙ freed_test old.slots now.slots next.slots owned left y.0.name fallen sound out closed owner each s
      ∙ ap (has (is_among_ended y.0.name fallen)) (sym (view-owner old.slots owned s))

  at_view : EndsAt (directory old.slots owned) y.0.name fallen freed next.slots left
  at_view = record {
    sound = ended_sound old.slots now.slots next.slots owned left y.0.name fallen sound out closed owner each;
    fallen = fallen_is old now owned key y.0 names fallen sound y.1 (falls y.0 y.1) closed sorted same;
    ends = ends old.slots now.slots next.slots owned left y.0.name fallen sound out closed owner each;
    freed = λ s. (λ h. sym (freed_is s) ∙ one_of_contained freed s h, λ h. contained_one_of freed s (freed_is s ∙ h));
    identifiers = names_end old.slots now.slots next.slots owned left y.0.name fallen sound out closed owner each;
  }

  pub ended : EndsAt d (name_of d id) fallen freed next.slots left
  ended = subst (λ t. EndsAt d t fallen freed next.slots left) named (subst (λ (v : TasksValue). EndsAt v y.0.name fallen freed next.slots left) e at_view)

-- each subpool of the set had an owner
pub freed_had : (active : Slab TaskSlot) (owned : List (Option Owned)) (freed : List ℕ) → IsFreed active owned freed → (s : ℕ) → is_one_of freed s ≡ true → IsSome (item_at owned s)
freed_had active owned freed is s e = by (item_at owned s) (sym (is s) ∙ e) where
  by : (o : Option Owned) → has (λ p. not (is_owner_active active p)) o ≡ true → IsSome o
  by None h = absurd (let f : false ≡ true = h in cc)
  by (Some o) h = refl

-- the tasks that stay have entries as before
pub still_stand : (old now : Slab TaskSlot) (owned : List (Option Owned)) (keeps : TaskSlot → Bool) → IsSound old.slots owned → Keeps (get old) (λ _ x. keeps x) (get now) → EntriesStand now.slots owned
still_stand old now owned keeps sound out k n s x h e = sound.entries k n s x (kept_is keeps (get old k) x (sym (out k) ∙ h)).0 e
