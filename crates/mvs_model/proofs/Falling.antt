-- The descendants of a task can be listed in byte order.
use Rattle.std.proofs.Common.{◌≡◌, ℕ, zero, suc, ◌+◌, ◌<◌, ◌≤◌, ◌⊎◌, inl, inr, Bool, true, false, cond, List, [], ◌∷◌, Option, arith, refl, sym, ap, ◌∙◌, subst, T, not, ◌&&◌, ◌||◌, is_some, filter, Contains, is_lt, Ordering, Less, map}
use Rattle.std.specs.List.{list_any, AllByRecursion}
use Rattle.std.specs.List.Sorted.{IsStrictlySortedBy}
use Rattle.std.proofs.lemmas.List.Kept.{IsStrictlySortedBy-filter}
use Rattle.std.proofs.lemmas.Map.Views.{Contains-from_any, list_any-from_Contains}
use Rattle.std.specs.Cmp.{eq_by_cmp_equiv, first_so, second_so}
use Rattle.std.specs.FinMap.{FinMap, get, keys, entries, entries_sorted, contains_key-keys, is_sorted}
use Rattle.std.specs.FinMap.Entries.{below_all}
use Rattle.std.proofs.lemmas.Bool.{and_from, or_right, or_left, or_cases, not-true}
use Rattle.std.proofs.lemmas.Bool.Decides.{nat_tests}
use Rattle.std.proofs.lemmas.Grind.{common_steps}
use Rattle.mvs_model.proofs.Types.{Name}
use Rattle.mvs_model.specs.Name.{name_cmp, same_name}
use Rattle.mvs_model.specs.Finite.{has}
use Rattle.mvs_model.specs.Owners.{Owners, Task, IsMother, Descends, subtask, further, AreDescendants}
use Rattle.mvs_model.proofs.Orders.{name_cmp_total, same_name_is, same_name_self}
use Rattle.mvs_model.proofs.Tests.{false_true, true_false}

is_true : (b : Bool) → T b → b ≡ true
is_true b h1 = grind (arith, common_steps)

is_less : (r : Ordering) → is_lt r ≡ true → r ≡ Less
is_less r h1 = grind (arith, nat_tests)

-- the keys of a map strictly rise
module _ {K X : Type 0} (R : K → K → Ordering) where
  below_each : (x : K) (es : List (K × X)) → below_all R x es ≡ true → AllByRecursion (λ y. R x y ≡ Less) (map (λ e. e.0) es)
  below_each x [] h = tt
  below_each x (e ∷ es) h = (is_less (R x e.0) (first_so _ _ h), below_each x es (second_so (is_lt (R x e.0)) _ h))

  rising : (es : List (K × X)) → is_sorted R es ≡ true → IsStrictlySortedBy R (map (λ e. e.0) es)
  unfolding IsStrictlySortedBy
  rising [] h = tt
  rising (e ∷ es) h = (below_each e.0 es (first_so _ _ h), rising es (second_so (below_all R e.0 es) _ h))

  pub keys_rise : (m : FinMap R X) → IsStrictlySortedBy R (keys m)
  keys_rise m = rising (entries m) (is_true _ (entries_sorted m))

-- whether a name stands in a list
abbrev pub among : Name → List Name → Bool
among x names = list_any (same_name x) names

joined : (b s f m q : Bool) → (s ≡ true → q ≡ b) → f ≡ (m && q) → cond b (s || f) f ≡ ((s || m) && q)
joined b s f m q h1 h2 = grind (arith, nat_tests)

pub among-filter : (p : Name → Bool) (x : Name) (names : List Name) → among x (filter p names) ≡ (among x names && p x)
among-filter p x [] = refl
among-filter p x (y ∷ names) = pushed (p y) ∙ joined (p y) (same_name x y) _ (among x names) (p x) (λ e. ap p (same_name_is x y e)) (among-filter p x names) where
  pushed : (b : Bool) → among x (cond b (y ∷ filter p names) (filter p names)) ≡ cond b (same_name x y || among x (filter p names)) (among x (filter p names))
  pushed true = refl
  pushed false = refl

-- one of a list that passes a test, or none
searched : (p : Name → Bool) (names : List Name) → ((x : Name) × (among x names ≡ true) × (p x ≡ true)) ⊎ ((x : Name) → among x names ≡ true → p x ≡ false)
searched p [] = inr (λ x e. false_true e)
searched p (y ∷ names) = at (p y) refl (searched p names) where
  at : (b : Bool) → p y ≡ b → ((x : Name) × (among x names ≡ true) × (p x ≡ true)) ⊎ ((x : Name) → among x names ≡ true → p x ≡ false) →
      ((x : Name) × (among x (y ∷ names) ≡ true) × (p x ≡ true)) ⊎ ((x : Name) → among x (y ∷ names) ≡ true → p x ≡ false)
  at true e rest = inl (y, or_left _ _ (same_name_self y), e)
  at false e (inl found) = inl (found.0, or_right _ _ found.1, found.2)
  at false e (inr none) = inr (λ x m. elim (or_cases (same_name x y) (among x names) m) [ inl s ↦ ap p (same_name_is x y s) ∙ e | inr r ↦ none x r ])

-- how many of a list fail a test
left : (Name → Bool) → List Name → ℕ
left test [] = 0
left test (x ∷ names) = cond (test x) 0 1 + left test names

left_most : (a b : Bool) (m n : ℕ) → (a ≡ true → b ≡ true) → n ≤ m → cond b 0 1 + n ≤ cond a 0 1 + m
left_most a b m n h1 h2 = grind (arith, nat_tests)

no_more_left : (old new : Name → Bool) → ((x : Name) → old x ≡ true → new x ≡ true) → (names : List Name) → left new names ≤ left old names
unfolding left
no_more_left old new grows [] = omega arith
no_more_left old new grows (x ∷ names) = left_most (old x) (new x) _ _ (grows x) (no_more_left old new grows names)

fewer_left : (old new : Name → Bool) → ((x : Name) → old x ≡ true → new x ≡ true) → (y : Name) → old y ≡ false → new y ≡ true → (names : List Name) → among y names ≡ true → left new names < left old names
unfolding left
fewer_left old new grows y out now [] m = false_true m
fewer_left old new grows y out now (x ∷ names) m = elim (or_cases (same_name y x) (among y names) m) [
  | inl s ↦ here (old x) (new x) (ap old (sym (same_name_is y x s)) ∙ out) (ap new (sym (same_name_is y x s)) ∙ now) (no_more_left old new grows names)
  | inr r ↦ later (old x) (new x) (grows x) (fewer_left old new grows y out now names r)
] where
  here : (a b : Bool) → a ≡ false → b ≡ true → left new names ≤ left old names → cond b 0 1 + left new names < cond a 0 1 + left old names
  here true b e f l = true_false e
  here false true e f l = omega arith
  here false false e f l = false_true f

  later : (a b : Bool) → (a ≡ true → b ≡ true) → left new names < left old names → cond b 0 1 + left new names < cond a 0 1 + left old names
  later true true h l = omega arith
  later true false h l = false_true (h refl)
  later false true h l = omega arith
  later false false h l = omega arith

module _ (o : Owners) (t : Name) where
  -- whether a name's mother is the task or passes the test
  follows : (Name → Bool) → Name → Bool
  follows test x = has (λ task. has (λ m. same_name m t || test m) task.mother) (get o.tasks x)

  abbrev Sound : (Name → Bool) → Type 0
  Sound test = (x : Name) → test x ≡ true → Descends o t x

  abbrev ClosedUp : (Name → Bool) → Type 0
  ClosedUp test = (x : Name) → among x (keys o.tasks) ≡ true → follows test x ≡ true → test x ≡ true

  mother_in : (test : Name → Bool) (x : Name) (task : Option Task) → get o.tasks x ≡ task → has (λ k. has (λ m. same_name m t || test m) k.mother) task ≡ true → (m : Name) × IsMother o m x × ((same_name m t || test m) ≡ true)
  mother_in test x task h1 h2 = grind (arith, nat_tests)

  sound_next : (test : Name → Bool) → Sound test → (x : Name) → follows test x ≡ true → Descends o t x
  unfolding follows
  sound_next test sound x f =
      let h = mother_in test x (get o.tasks x) refl f in
      elim (or_cases (same_name h.0 t) (test h.0) h.2) [
        | inl s ↦ subtask (subst (λ m. IsMother o m x) (same_name_is h.0 t s) h.1)
        | inr r ↦ further (sound h.0 r) h.1
      ]

  follows_mother : (test : Name → Bool) (m x : Name) → IsMother o m x → (same_name m t || test m) ≡ true → follows test x ≡ true
  unfolding follows
  follows_mother test m x h e = ap (has (λ task. has (λ n. same_name n t || test n) task.mother)) h.1 ∙ ap (has (λ n. same_name n t || test n)) h.2 ∙ e

  is_key : (m x : Name) → IsMother o m x → among x (keys o.tasks) ≡ true
  is_key m x h = sym (contains_key-keys o.tasks x) ∙ ap is_some h.1

  complete : (test : Name → Bool) → ClosedUp test → (x : Name) → Descends o t x → test x ≡ true
  complete test closed x (subtask h) = closed x (is_key t x h) (follows_mother test t x h (or_left _ _ (same_name_self t)))
  complete test closed x (further {m} d h) = closed x (is_key m x h) (follows_mother test m x h (or_right _ _ (complete test closed m d)))

  with_name : Name → (Name → Bool) → Name → Bool
  with_name y test x = same_name x y || test x

  abbrev Found : Type 0
  Found = (test : Name → Bool) × Sound test × ClosedUp test

  nothing_new : (b c : Bool) → (not b && c) ≡ false → c ≡ true → b ≡ true
  nothing_new b c h1 h2 = grind (arith, nat_tests)

  sound_more : (test : Name → Bool) → Sound test → (y : Name) → follows test y ≡ true → Sound (with_name y test)
  unfolding with_name
  sound_more test h1 y h2 = grind (arith, nat_tests, sound_next, same_name_is)

  fewer_more : (test : Name → Bool) (y : Name) → test y ≡ false → among y (keys o.tasks) ≡ true → left (with_name y test) (keys o.tasks) < left test (keys o.tasks)
  unfolding with_name
  fewer_more test y out m = fewer_left test (with_name y test) (λ x e. or_right _ _ e) y out (or_left _ _ (same_name_self y)) (keys o.tasks) m

  wanted : (Name → Bool) → Name → Bool
  wanted test x = not (test x) && follows test x

  grown : (n : ℕ) (test : Name → Bool) → Sound test → left test (keys o.tasks) ≤ n → Found
  unfolding wanted
  grown zero test sound few = elim (searched (wanted test) (keys o.tasks)) [
    | inl f ↦ absurd (let l : left (with_name f.0 test) (keys o.tasks) < left test (keys o.tasks) = fewer_more test f.0 (not-true _ (first_so _ _ f.2)) f.1 in omega arith)
    | inr none ↦ (test, sound, λ x m f. nothing_new _ _ (none x m) f)
  ]
  grown (suc n) test sound few = elim (searched (wanted test) (keys o.tasks)) [
    | inl f ↦ grown n (with_name f.0 test) (sound_more test sound f.0 (second_so _ _ f.2)) (let l : left (with_name f.0 test) (keys o.tasks) < left test (keys o.tasks) = fewer_more test f.0 (not-true _ (first_so _ _ f.2)) f.1 in omega arith)
    | inr none ↦ (test, sound, λ x m f. nothing_new _ _ (none x m) f)
  ]

  found : Found
  found = grown (left (λ _. false) (keys o.tasks)) (λ _. false) (λ x e. false_true e) (omega arith)

  stands : (x : Name) (names : List Name) → among x names ≡ true → Contains names x
  stands x names h = Contains-from_any same_name_is x names h

  is_among : (x : Name) (names : List Name) → Contains names x → among x names ≡ true
  is_among x names h = list_any-from_Contains (eq_by_cmp_equiv name_cmp_total) x names h

  descendant_key : (x : Name) → Descends o t x → among x (keys o.tasks) ≡ true
  descendant_key x (subtask h) = is_key t x h
  descendant_key x (further {m} d h) = is_key m x h

  -- the descendants are those of the tasks that were found
  pub fallen_some : (names : List Name) × AreDescendants o t names
  fallen_some =
      let names = filter found.0 (keys o.tasks) in (
        names,
        record {
          sorted = IsStrictlySortedBy-filter name_cmp found.0 (keys o.tasks) (keys_rise name_cmp o.tasks);
          descendants = λ x. (
            (λ h. found.1 x (second_so (among x (keys o.tasks)) _ (sym (among-filter found.0 x (keys o.tasks)) ∙ is_among x names h))),
            (λ d. stands x names (among-filter found.0 x (keys o.tasks) ∙ and_from _ _ (descendant_key x d) (complete found.0 found.2 x d))),
          );
        },
      )
