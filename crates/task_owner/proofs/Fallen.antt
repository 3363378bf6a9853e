-- The names that fell are those of the descendants, and in strict order once sorted.
use Rattle.std.proofs.Common.{◌≡◌, ℕ, ◌+◌, ◌<◌, ◌≤◌, Bool, true, false, cond, not, ◌||◌, List, [], ◌∷◌, Option, Some, None, count_by, sym, ap, subst, refl, ◌∙◌, arith, ◌⊎◌, inl, inr}
use Rattle.std.proofs.lemmas.Cmp.{eq_by_cmp_equiv}
use Rattle.std.proofs.lemmas.List.Sums.{sum_by-cons}
use Rattle.std.proofs.lemmas.List.Sorted.{list_any-IsPermutation, sum_by-IsPermutation}
use Rattle.std.proofs.lemmas.List.Kept.{IsStrictlySortedBy-dedup}
use Rattle.std.proofs.lemmas.Map.Views.{Contains-from_any, list_any-from_Contains}
use Rattle.std.specs.List.{list_any, Contains, dedup, dedup_from}
use Rattle.std.specs.List.Sorted.{IsSorted, IsPermutation, IsStrictlySortedBy}
use Rattle.std.specs.Option.{option_map}
use Rattle.std.proofs.lemmas.Bool.{or_cases, not-false, or_right}
use Rattle.slab.specs.Slab.{Slab}
use Rattle.mvs_model.specs.declared.name.Name.{Name}
use Rattle.mvs_model.specs.Name.{name_cmp, same_name}
use Rattle.mvs_model.specs.Finite.{Keeps, kept}
use Rattle.mvs_model.specs.Owners.{Task, is_among_ended, IsMother, Descends, subtask, further, AreDescendants}
use Rattle.mvs_model.proofs.Orders.{name_cmp_total, same_name_is, same_name_self}
use Rattle.task_owner.specs.Seats.{item_at, seat_named, mother_of, task_of, directory, IsSound, MothersActive}
use Rattle.task_owner.specs.Family.{Falls, Below, child, lower}
use Rattle.task_owner.specs.declared.task_slot.TaskSlot.{TaskSlot}
use Rattle.task_owner.specs.declared.task_slot.Owned.{Owned}
use Rattle.task_owner.proofs.Places.{of_some, of_mapped}
use Rattle.task_owner.proofs.Reading.{found, found_at, view-task}
use Rattle.task_owner.proofs.Bools.{dropped_fails}
use Rattle.mvs_model.proofs.Tests.{kept_is}

-- a list that has each name once loses nothing where neighbours that are alike are joined
apart : (x y : Name) (ys : List Name) → count_by (same_name y) (x ∷ y ∷ ys) ≤ 1 → same_name y x ≡ false
apart x y ys once = by (same_name y x) refl where
  by : (b : Bool) → same_name y x ≡ b → b ≡ false
  by false e = refl
  by true e =
      let all : count_by (same_name y) (x ∷ y ∷ ys) ≡ 1 + (1 + count_by (same_name y) ys) =
      sum_by-cons (λ z. cond (same_name y z) 1 0) x (y ∷ ys) ∙ ap (λ n. cond (same_name y x) 1 0 + n) (sum_by-cons (λ z. cond (same_name y z) 1 0) y ys)
      ∙ (λ i. cond (e i) 1 0 + (cond (same_name_self y i) 1 0 + count_by (same_name y) ys)) in
      absurd (omega (arith, once, all))

rest_once : (x : Name) (xs : List Name) → ((q : Name) → count_by (same_name q) (x ∷ xs) ≤ 1) → (q : Name) → count_by (same_name q) xs ≤ 1
rest_once x xs once q =
    let all : count_by (same_name q) (x ∷ xs) ≡ cond (same_name q x) 1 0 + count_by (same_name q) xs = sum_by-cons (λ z. cond (same_name q z) 1 0) x xs in
    omega (arith, once q, all)

joined : (x : Name) (xs : List Name) → ((q : Name) → count_by (same_name q) (x ∷ xs) ≤ 1) → dedup_from same_name x xs ≡ x ∷ xs
joined x [] once = refl
joined x (y ∷ ys) once = ap (λ b. cond b (dedup_from same_name x ys) (x ∷ dedup_from same_name y ys)) (apart x y ys (once y)) ∙ ap (λ zs. x ∷ zs) (joined y ys (rest_once x (y ∷ ys) once))

all_joined : (xs : List Name) → ((q : Name) → count_by (same_name q) xs ≤ 1) → dedup same_name xs ≡ xs
all_joined [] once = refl
all_joined (x ∷ xs) once = joined x xs once

strictly : (xs : List Name) → IsSorted name_cmp xs → ((q : Name) → count_by (same_name q) xs ≤ 1) → IsStrictlySortedBy name_cmp xs
strictly xs sorted once = subst (IsStrictlySortedBy name_cmp) (all_joined xs once) (IsStrictlySortedBy-dedup name_cmp_total (λ x y. refl) xs sorted)

-- which names go does not depend on their order
pub goes_sorted : (t : Name) (names fallen : List Name) → IsPermutation names fallen → (q : Name) → is_among_ended t names q ≡ is_among_ended t fallen q
goes_sorted t names fallen p q = ap (λ b. same_name q t || b) (list_any-IsPermutation (same_name q) names fallen p)

-- a subtask and her mother, at their keys
record Attached (seats : List (Option TaskSlot)) (n q : Name) : Type 0 where
  key : ℕ
  seat : TaskSlot
  here : item_at seats key ≡ Some seat
  name : seat.name ≡ q
  mother_key : ℕ
  mother : seat.mother ≡ Some mother_key
  mother_seat : TaskSlot
  mother_here : item_at seats mother_key ≡ Some mother_seat
  mother_name : mother_seat.name ≡ n

module _ (seats : List (Option TaskSlot)) (owned : List (Option Owned)) (t : ℕ) (y : TaskSlot) (sound : IsSound seats owned) (at : item_at seats t ≡ Some y) where
  attached : (n q : Name) → IsMother (directory seats owned).owners n q → Attached seats n q
  attached n q (task, h, e) =
      let x = of_mapped (task_of seats) (seat_named seats q) task (sym (view-task seats owned q) ∙ h) in
      let k = found_at seats q x.0 x.1 in
      by k.0 x.0 k.1 k.2 x.0.mother refl (ap (λ (v : Task). v.mother) x.2 ∙ e)
    where
      by : (k : ℕ) (x : TaskSlot) → item_at seats k ≡ Some x → x.name ≡ q → (o : Option ℕ) → x.mother ≡ o → mother_of seats o ≡ Some n → Attached seats n q
      by k x a b None f g = absurd (let i : ◌≡◌ {A = Option Name} None (Some n) = g in cc)
      by k x a b (Some m) f g =
          let z = of_mapped (λ (w : TaskSlot). w.name) (item_at seats m) n g in
          record { key = k; seat = x; here = a; name = b; mother_key = m; mother = f; mother_seat = z.0; mother_here = z.1; mother_name = z.2 }

  pub is_mother : (k m : ℕ) (x z : TaskSlot) → item_at seats k ≡ Some x → x.mother ≡ Some m → item_at seats m ≡ Some z → IsMother (directory seats owned).owners z.name x.name
  is_mother k m x z hx e hz = (
    task_of seats x,
    view-task seats owned x.name ∙ ap (option_map (task_of seats)) (found seats k x sound.distinct hx),
    ap (mother_of seats) e ∙ ap (option_map (λ (w : TaskSlot). w.name)) hz,
  )

  -- what is below descends
  descends : (k : ℕ) → Below seats t k → (x : TaskSlot) → item_at seats k ≡ Some x → Descends (directory seats owned).owners y.name x.name
  descends k (child w hw e) x h =
      let f : Some w ≡ Some x = sym hw ∙ h in
      let same : w ≡ x = cc in
      subtask (is_mother k t x y h (ap (λ (v : TaskSlot). v.mother) (sym same) ∙ e) at)
  descends k (lower {m} w b hw e) x h =
      let f : Some w ≡ Some x = sym hw ∙ h in
      let same : w ≡ x = cc in
      let z = of_some (item_at seats m) (sound.mothers k m w hw e) in
      further (descends m b z.0 z.1) (is_mother k m x z.0 h (ap (λ (v : TaskSlot). v.mother) (sym same) ∙ e) z.1)

  -- what descends has a higher rank
  ranked : (n q : Name) → IsMother (directory seats owned).owners n q → ((m : ℕ) (z : TaskSlot) → item_at seats m ≡ Some z → z.name ≡ n → sound.ranked.0 t ≤ sound.ranked.0 m)
      → (k : ℕ) (x : TaskSlot) → item_at seats k ≡ Some x → x.name ≡ q → sound.ranked.0 t < sound.ranked.0 k
  ranked n q mother low k x h e =
      let r = attached n q mother in
      let same : r.key ≡ k = sound.distinct r.key k r.seat x r.here h (r.name ∙ sym e) in
      let up : sound.ranked.0 r.mother_key < sound.ranked.0 r.key = sound.ranked.1 r.key r.mother_key r.seat r.here r.mother in
      let least : sound.ranked.0 t ≤ sound.ranked.0 r.mother_key = low r.mother_key r.mother_seat r.mother_here r.mother_name in
      let alike : sound.ranked.0 r.key ≡ sound.ranked.0 k = ap sound.ranked.0 same in
      omega arith

  higher : (q : Name) → Descends (directory seats owned).owners y.name q → (k : ℕ) (x : TaskSlot) → item_at seats k ≡ Some x → x.name ≡ q → sound.ranked.0 t < sound.ranked.0 k
  higher q (subtask m) = ranked y.name q m (λ j z h e. let same : sound.ranked.0 j ≡ sound.ranked.0 t = ap sound.ranked.0 (sound.distinct j t z y h at e) in omega arith)
  higher q (further {m = n} d m) = ranked n q m (λ j z h e. let up : sound.ranked.0 t < sound.ranked.0 j = higher n d j z h e in omega arith)

  -- no task descends from itself
  pub not_itself : Descends (directory seats owned).owners y.name y.name → ⊥
  not_itself d = let h : sound.ranked.0 t < sound.ranked.0 t = higher y.name d t y at refl in omega arith

  module _ (mid : List (Option TaskSlot)) (names : List Name) (out : Keeps (item_at seats) (λ _ (x : TaskSlot). not (is_among_ended y.name names x.name)) (item_at mid)) (closed : MothersActive mid) where
    -- a subtask of one that goes is listed
    listed : (n q : Name) → is_among_ended y.name names n ≡ true → IsMother (directory seats owned).owners n q → Descends (directory seats owned).owners y.name q → list_any (same_name q) names ≡ true
    listed n q g mother d = by (item_at mid r.key) refl where
      r : Attached seats n q
      r = attached n q mother

      mother_out : item_at mid r.mother_key ≡ None
      mother_out = out r.mother_key ∙ ap (kept (λ (x : TaskSlot). not (is_among_ended y.name names x.name))) r.mother_here ∙ ap (λ b. cond (not b) (Some r.mother_seat) None) (ap (is_among_ended y.name names) r.mother_name ∙ g)

      two : (same_name q y.name ≡ true) ⊎ (list_any (same_name q) names ≡ true) → list_any (same_name q) names ≡ true
      two (inl e) = absurd (not_itself (subst (Descends (directory seats owned).owners y.name) (same_name_is q y.name e) d))
      two (inr e) = e

      by : (o : Option TaskSlot) → item_at mid r.key ≡ o → list_any (same_name q) names ≡ true
      by None e =
          let lost : is_among_ended y.name names r.seat.name ≡ true = not-false (is_among_ended y.name names r.seat.name) (dropped_fails (λ (x : TaskSlot). not (is_among_ended y.name names x.name)) r.seat (ap (kept (λ (x : TaskSlot). not (is_among_ended y.name names x.name))) (sym r.here) ∙ sym (out r.key) ∙ e)) in
          two (or_cases (same_name q y.name) (list_any (same_name q) names) (ap (is_among_ended y.name names) (sym r.name) ∙ lost))
      by (Some x) e =
          let was = kept_is (λ (z : TaskSlot). not (is_among_ended y.name names z.name)) (item_at seats r.key) x (sym (out r.key) ∙ e) in
          let f : Some r.seat ≡ Some x = sym r.here ∙ was.0 in
          let same : r.seat ≡ x = cc in
          let z = of_some (item_at mid r.mother_key) (closed r.key r.mother_key x e (ap (λ (v : TaskSlot). v.mother) (sym same) ∙ r.mother)) in
          absurd (let g : None ≡ Some z.0 = sym mother_out ∙ z.1 in cc)

    all_listed : (q : Name) → Descends (directory seats owned).owners y.name q → list_any (same_name q) names ≡ true
    all_listed q (subtask m) = listed y.name q (ap (λ b. b || list_any (same_name y.name) names) (same_name_self y.name)) m (subtask m)
    all_listed q (further {m = n} d m) =
        listed n q (ap (λ b. same_name n y.name || b) (all_listed n d) ∙ or_right (same_name n y.name) true refl) m (further d m)

-- the descendants, in byte order
pub fallen_is : (old now : Slab TaskSlot) (owned : List (Option Owned)) (t : ℕ) (y : TaskSlot) (names fallen : List Name) → IsSound old.slots owned → item_at old.slots t ≡ Some y → Falls old t y.name names now → MothersActive now.slots
    → IsSorted name_cmp fallen → IsPermutation names fallen → AreDescendants (directory old.slots owned).owners y.name fallen
fallen_is old now owned t y names fallen sound at r closed sorted same = record {
  sorted = strictly fallen sorted (λ q. let e = sum_by-IsPermutation (λ x. cond (same_name q x) 1 0) names fallen same in subst (λ n. n ≤ 1) (sym e) (r.once q));
  descendants = λ q. (there q, back q);
} where
  there : (q : Name) → Contains fallen q → Descends (directory old.slots owned).owners y.name q
  there q h =
      let b = r.below q (list_any-IsPermutation (same_name q) names fallen same ∙ list_any-from_Contains (eq_by_cmp_equiv name_cmp_total) q fallen h) in
      subst (Descends (directory old.slots owned).owners y.name) b.3 (descends old.slots owned t y sound at b.0 b.4 b.1 b.2)

  back : (q : Name) → Descends (directory old.slots owned).owners y.name q → Contains fallen q
  back q d = Contains-from_any same_name_is q fallen (sym (list_any-IsPermutation (same_name q) names fallen same) ∙ all_listed old.slots owned t y sound at now.slots names r.kept closed q d)
