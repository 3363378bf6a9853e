-- A task and its descendants are taken out, and their names listed.
use Rattle.std.proofs.Common.{◌≡◌, ◌≢◌, ℕ, ◌+◌, ◌≤◌, Bool, true, false, cond, not, ◌||◌, List, [], ◌∷◌, ◌++◌, length, length-append, Option, Some, None, count_by, sym, ap, subst, refl, ◌∙◌, arith, ◌⊎◌, inl, inr}
use Rattle.std.specs.Prelude.{IsSome}
use Rattle.std.proofs.lemmas.List.Folds.{list_any-append}
use Rattle.std.proofs.lemmas.List.Sums.{sum_by-cons, sum_by-append}
use Rattle.std.specs.List.{list_any}
use Rattle.std.proofs.lemmas.Bool.{not-true, or_cases, not-false, or_parts, or_right}
use Rattle.slab.specs.Slab.{Slab, get, slab_len, Updates}
use Rattle.mvs_model.specs.declared.name.Name.{Name}
use Rattle.mvs_model.specs.Name.{same_name}
use Rattle.mvs_model.specs.Finite.{kept}
use Rattle.mvs_model.specs.Owners.{is_among_ended}
use Rattle.mvs_model.proofs.Orders.{same_name_is, same_name_self}
use Rattle.task_owner.specs.Seats.{Distinct, MothersActive}
use Rattle.task_owner.specs.Family.{Falls, Below, child, lower}
use Rattle.task_owner.specs.declared.task_slot.TaskSlot.{TaskSlot}
use Rattle.task_owner.proofs.Places.{same_or_not, of_some}
use Rattle.task_owner.proofs.Reading.{name_cases}
use Rattle.task_owner.proofs.Bools.{or_false, dropped_fails, same_kept}
use Rattle.mvs_model.proofs.Tests.{kept_is}

-- the same tests, grouped otherwise
one_more : (a b c : Bool) → (a || (b || (c || false))) ≡ ((a || b) || c)
one_more true b c = refl
one_more false true c = refl
one_more false false c = or_false c

-- one more name
goes_more : (t : Name) (names : List Name) (x q : Name) → is_among_ended t (names ++ x ∷ []) q ≡ (is_among_ended t names q || same_name q x)
goes_more t names x q = ap (λ b. same_name q t || b) (list_any-append (same_name q) names (x ∷ [])) ∙ one_more (same_name q t) (list_any (same_name q) names) (same_name q x)

-- none passes where the list has none that does
count_none : {X : Type 0} (p : X → Bool) (xs : List X) → list_any p xs ≡ false → count_by p xs ≡ 0
count_none p [] h = refl
count_none {X} p (x ∷ xs) h =
    let parts = or_parts (p x) (list_any p xs) h in
    let rest : count_by p xs ≡ 0 = count_none p xs parts.1 in
    sum_by-cons (λ y. cond (p y) 1 0) x xs ∙ (λ i. cond (parts.0 i) 1 0 + rest i)

-- a new name stands once at the end
once_more : (q x : Name) (names : List Name) → count_by (same_name q) names ≤ 1 → list_any (same_name x) names ≡ false → count_by (same_name q) (names ++ x ∷ []) ≤ 1
once_more q x names once absent = by (name_cases q x) where
  all : count_by (same_name q) (names ++ x ∷ []) ≡ count_by (same_name q) names + (cond (same_name q x) 1 0 + 0)
  all = sum_by-append (λ y. cond (same_name q y) 1 0) names (x ∷ []) ∙ ap (λ n. count_by (same_name q) names + n) (sum_by-cons (λ y. cond (same_name q y) 1 0) x [])

  by : ((same_name q x ≡ true) × (q ≡ x)) ⊎ ((same_name q x ≡ false) × (q ≢ x)) → count_by (same_name q) (names ++ x ∷ []) ≤ 1
  by (inl r) =
      let none : count_by (same_name q) names ≡ 0 = count_none (same_name q) names (ap (λ n. list_any (same_name n) names) r.1 ∙ absent) in
      let sum : count_by (same_name q) (names ++ x ∷ []) ≡ 0 + (1 + 0) = all ∙ (λ i. none i + (cond (r.0 i) 1 0 + 0)) in
      omega arith
  by (inr r) =
      let sum : count_by (same_name q) (names ++ x ∷ []) ≡ count_by (same_name q) names + (0 + 0) = all ∙ (λ i. count_by (same_name q) names + (cond (r.0 i) 1 0 + 0)) in
      omega arith

module _ (old : Slab TaskSlot) (t : ℕ) (first : TaskSlot) (distinct : Distinct old.slots) (at : get old t ≡ Some first) where
  -- the first
  pub falls_first : (now : Slab TaskSlot) (names : List Name) → names ≡ [] → Updates old now t None → slab_len now + 1 ≡ slab_len old → now.capacity ≡ old.capacity → Falls old t first.name names now
  falls_first now names empty u len capacity = subst (λ ns. Falls old t first.name ns now) (sym empty) (record {
    kept = λ k. kept_at k (same_or_not k t);
    below = λ q h. absurd (let e : false ≡ true = h in cc);
    once = λ q. omega arith;
    len = omega arith;
    capacity = capacity;
  }) where
    kept_at : (k : ℕ) → (k ≡ t) ⊎ (k ≢ t) → get now k ≡ kept (λ y. not (is_among_ended first.name [] y.name)) (get old k)
    kept_at k (inl e) =
        ap (get now) e ∙ u.changed ∙ ap (λ b. cond (not (b || false)) (Some first) None) (sym (same_name_self first.name))
        ∙ ap (kept (λ (y : TaskSlot). not (is_among_ended first.name [] y.name))) (sym (ap (get old) e ∙ at))
    kept_at k (inr d) = u.others k d ∙ by (get old k) refl where
      by : (o : Option TaskSlot) → get old k ≡ o → o ≡ kept (λ y. not (is_among_ended first.name [] y.name)) o
      by None h = refl
      by (Some y) h = two (name_cases y.name first.name) where
        two : ((same_name y.name first.name ≡ true) × (y.name ≡ first.name)) ⊎ ((same_name y.name first.name ≡ false) × (y.name ≢ first.name)) → Some y ≡ kept (λ z. not (is_among_ended first.name [] z.name)) (Some y)
        two (inl r) = absurd (d (distinct k t y first h at r.1))
        two (inr r) = ap (λ b. cond (not (b || false)) (Some y) None) (sym r.0)

  -- and then one whose mother has gone
  module _ (mothers : MothersActive old.slots) (now next : Slab TaskSlot) (names : List Name) (key m : ℕ) (x : TaskSlot) (r : Falls old t first.name names now) (here : get now key ≡ Some x) (mother : x.mother ≡ Some m)
      (gone : get now m ≡ None) (u : Updates now next key None) where
    was : (get old key ≡ Some x) × (not (is_among_ended first.name names x.name) ≡ true)
    was = kept_is (λ (y : TaskSlot). not (is_among_ended first.name names y.name)) (get old key) x (sym (r.kept key) ∙ here)

    absent : list_any (same_name x.name) names ≡ false
    absent = (or_parts (same_name x.name first.name) (list_any (same_name x.name) names) (not-true (is_among_ended first.name names x.name) was.1)).1

    kept_more : (k : ℕ) → (k ≡ key) ⊎ (k ≢ key) → get next k ≡ kept (λ y. not (is_among_ended first.name (names ++ x.name ∷ []) y.name)) (get old k)
    kept_more k (inl e) =
        ap (get next) e ∙ u.changed
        ∙ ap (λ b. cond (not b) (Some x) None) (sym (goes_more first.name names x.name x.name ∙ ap (λ b. is_among_ended first.name names x.name || b) (same_name_self x.name) ∙ or_right (is_among_ended first.name names x.name) true refl))
        ∙ ap (kept (λ (y : TaskSlot). not (is_among_ended first.name (names ++ x.name ∷ []) y.name))) (sym (ap (get old) e ∙ was.0))
    kept_more k (inr d) = u.others k d ∙ r.kept k ∙ same_kept (λ (y : TaskSlot). not (is_among_ended first.name names y.name)) (λ (y : TaskSlot). not (is_among_ended first.name (names ++ x.name ∷ []) y.name)) (get old k) agree where
      agree : (y : TaskSlot) → get old k ≡ Some y → not (is_among_ended first.name names y.name) ≡ not (is_among_ended first.name (names ++ x.name ∷ []) y.name)
      agree y h = by (name_cases y.name x.name) where
        by : ((same_name y.name x.name ≡ true) × (y.name ≡ x.name)) ⊎ ((same_name y.name x.name ≡ false) × (y.name ≢ x.name)) → not (is_among_ended first.name names y.name) ≡ not (is_among_ended first.name (names ++ x.name ∷ []) y.name)
        by (inl p) = absurd (d (distinct k key y x h was.0 p.1))
        by (inr p) = ap not (sym (goes_more first.name names x.name y.name ∙ ap (λ b. is_among_ended first.name names y.name || b) p.0 ∙ or_false (is_among_ended first.name names y.name)))

    below_here : Below old.slots t key
    below_here = by (or_cases (same_name z.0.name first.name) (list_any (same_name z.0.name) names) fell) where
      z : (z : TaskSlot) × (get old m ≡ Some z)
      z = of_some (get old m) (mothers key m x was.0 mother)

      fell : is_among_ended first.name names z.0.name ≡ true
      fell = not-false (is_among_ended first.name names z.0.name) (dropped_fails (λ (y : TaskSlot). not (is_among_ended first.name names y.name)) z.0 (ap (kept (λ (y : TaskSlot). not (is_among_ended first.name names y.name))) (sym z.1) ∙ sym (r.kept m) ∙ gone))

      by : (same_name z.0.name first.name ≡ true) ⊎ (list_any (same_name z.0.name) names ≡ true) → Below old.slots t key
      by (inl p) =
          let e : m ≡ t = distinct m t z.0 first z.1 at (same_name_is z.0.name first.name p) in
          child x was.0 (mother ∙ ap Some e)
      by (inr p) =
          let b = r.below z.0.name p in
          let e : b.0 ≡ m = distinct b.0 m b.1 z.0 b.2 z.1 b.3 in
          lower x (subst (λ (j : ℕ). Below old.slots t j) e b.4) was.0 mother

    pub falls_more : (next_names : List Name) → next_names ≡ names ++ x.name ∷ [] → slab_len next + 1 ≡ slab_len now → next.capacity ≡ now.capacity → Falls old t first.name next_names next
    falls_more next_names e len capacity = subst (λ ns. Falls old t first.name ns next) (sym e) (record {
      kept = λ k. kept_more k (same_or_not k key);
      below = λ q h. below q (or_cases (list_any (same_name q) names) (same_name q x.name || false) (sym (list_any-append (same_name q) names (x.name ∷ [])) ∙ h));
      once = λ q. once_more q x.name names (r.once q) absent;
      len = (let long : length (names ++ x.name ∷ []) ≡ length names + 1 = length-append names (x.name ∷ []) in let before = r.len in omega arith);
      capacity = capacity ∙ r.capacity;
    }) where
      below : (q : Name) → (list_any (same_name q) names ≡ true) ⊎ ((same_name q x.name || false) ≡ true) → (k : ℕ) × (y : TaskSlot) × (get old k ≡ Some y) × (y.name ≡ q) × Below old.slots t k
      below q (inl h) = r.below q h
      below q (inr h) = (key, x, was.0, sym (same_name_is q x.name (sym (or_false (same_name q x.name)) ∙ h)), below_here)

-- a task that is not a mother goes alone
pub closed_alone : (old now : Slab TaskSlot) (t : ℕ) → MothersActive old.slots → ((k : ℕ) (x : TaskSlot) → get old k ≡ Some x → x.mother ≢ Some t) → Updates old now t None → MothersActive now.slots
closed_alone old now t mothers alone u k m x here mother = at (same_or_not k t) where
  at : (k ≡ t) ⊎ (k ≢ t) → IsSome (get now m)
  at (inl e) = absurd (let n : get now t ≡ None = u.changed in let f : None ≡ Some x = sym n ∙ ap (get now) (sym e) ∙ here in cc)
  at (inr d) = there (same_or_not m t) where
    was : get old k ≡ Some x
    was = sym (u.others k d) ∙ here

    there : (m ≡ t) ⊎ (m ≢ t) → IsSome (get now m)
    there (inl e) = absurd (alone k x was (mother ∙ ap Some e))
    there (inr f) = subst IsSome (sym (u.others m f)) (mothers k m x was mother)
