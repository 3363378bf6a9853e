-- That a spare subpool exists, by counting what stands under the numbers of the tasks.
use Rattle.std.proofs.Common.{◌≡◌, ◌≢◌, ℕ, zero, suc, ◌+◌, ◌*◌, ◌<◌, ◌≤◌, Bool, true, false, cond, ◌||◌, List, [], ◌∷◌, ◌++◌, length, Option, Some, None, is_some, IsSome, count_by, eqb, ltb, sym, ap, refl, ◌∙◌, arith, ◌⊎◌, inl, inr, length-append}
use Rattle.std.proofs.lemmas.Bool.Decides.{nat_tests}
use Rattle.std.proofs.lemmas.List.Folds.{list_any-append}
use Rattle.std.proofs.lemmas.List.Sums.{sum_by-cons}
use Rattle.std.specs.List.{list_any}
use Rattle.std.proofs.lemmas.Bool.{eqb-true, or_right}
use Rattle.mvs_model.specs.Subpool.{is_step_number}
use Rattle.task_owner.specs.Seats.{item_at, number_of, MayHave, IsSound}
use Rattle.task_owner.specs.declared.task_slot.TaskSlot.{TaskSlot}
use Rattle.task_owner.specs.declared.task_slot.Owned.{Owned}
use Rattle.task_owner.proofs.Places.{of_some}

without : ℕ → List ℕ → List ℕ
without s [] = []
without s (x ∷ xs) = cond (eqb s x) xs (x ∷ without s xs)

length-without : (s : ℕ) (xs : List ℕ) → list_any (eqb s) xs ≡ true → suc (length (without s xs)) ≡ length xs
unfolding without
length-without s [] h = absurd (let e : false ≡ true = h in cc)
length-without s (x ∷ xs) h = by (eqb s x) h (length-without s xs) where
  by : (b : Bool) → (b || list_any (eqb s) xs) ≡ true → (list_any (eqb s) xs ≡ true → suc (length (without s xs)) ≡ length xs) → suc (length (cond b xs (x ∷ without s xs))) ≡ suc (length xs)
  by true h f = refl
  by false h f = ap suc (f h)

kept : (r s : ℕ) (xs : List ℕ) → r ≢ s → list_any (eqb r) xs ≡ true → list_any (eqb r) (without s xs) ≡ true
unfolding without
kept r s [] n h = h
kept r s (x ∷ xs) n h = by (eqb s x) (eqb-true s x) h (kept r s xs n) where
  later : eqb r s ≡ false
  later = grind (arith, nat_tests)

  either : (b c d : Bool) → (b || c) ≡ true → (c ≡ true → d ≡ true) → (b || d) ≡ true
  either true c d h f = refl
  either false c d h f = f h

  by : (b : Bool) → (b ≡ true → s ≡ x) → (eqb r x || list_any (eqb r) xs) ≡ true → (list_any (eqb r) xs ≡ true → list_any (eqb r) (without s xs) ≡ true) → list_any (eqb r) (cond b xs (x ∷ without s xs)) ≡ true
  by true f h g = sym (ap (λ b. b || list_any (eqb r) xs) (sym (ap (eqb r) (f refl)) ∙ later)) ∙ h
  by false f h g = either (eqb r x) (list_any (eqb r) xs) (list_any (eqb r) (without s xs)) h g

-- a list that has every number below n is as long
covered : (n : ℕ) (xs : List ℕ) → ((s : ℕ) → s < n → list_any (eqb s) xs ≡ true) → n ≤ length xs
covered zero xs h = omega arith
covered (suc n) xs h =
    let shorter : n ≤ length (without n xs) = covered n (without n xs) (λ s p. kept s n xs (λ e. omega (arith, e, p)) (h s (omega (arith, p)))) in
    let one : suc (length (without n xs)) ≡ length xs = length-without n xs (h n (omega arith)) in
    omega arith

-- the subpools under the numbers below n
put : Option ℕ → List ℕ → List ℕ
put None xs = xs
put (Some s) xs = s ∷ xs

under : TaskSlot → ℕ → List ℕ
under x zero = []
under x (suc n) = put (number_of x n) (under x n)

put_length : (o : Option ℕ) (xs : List ℕ) → length (put o xs) ≤ suc (length xs)
unfolding put
put_length None xs = omega arith
put_length (Some s) xs = omega arith

put_none : (o : Option ℕ) (xs : List ℕ) → o ≡ None → put o xs ≡ xs
unfolding put
put_none o xs e = ap (λ p. put p xs) e

under_length : (x : TaskSlot) (n : ℕ) → length (under x n) ≤ n
unfolding under
under_length x zero = omega arith
under_length x (suc n) = let a = under_length x n in let b = put_length (number_of x n) (under x n) in omega arith

below_or_at : (m n : ℕ) → m < suc n → (m < n) ⊎ (m ≡ n)
below_or_at m n h = by (ltb m n) refl where
  by : (b : Bool) → ltb m n ≡ b → (m < n) ⊎ (m ≡ n)
  by true t = inl (grind (arith, nat_tests))
  by false t = inr (grind (arith, nat_tests))

under_gap : (x : TaskSlot) (n m : ℕ) → m < n → number_of x m ≡ None → length (under x n) < n
unfolding under
under_gap x zero m h e = absurd (omega arith)
under_gap x (suc n) m h e = by (below_or_at m n h) (λ p. under_gap x n m p e) where
  by : (m < n) ⊎ (m ≡ n) → (m < n → length (under x n) < n) → length (put (number_of x n) (under x n)) < suc n
  by (inl p) f = let a : length (under x n) < n = f p in let b = put_length (number_of x n) (under x n) in omega arith
  by (inr p) f =
      let f : put (number_of x n) (under x n) ≡ under x n = put_none (number_of x n) (under x n) (ap (number_of x) (sym p) ∙ e) in
      let g : length (put (number_of x n) (under x n)) ≡ length (under x n) = ap length f in
      let a = under_length x n in omega arith

eqb_itself : (s : ℕ) → eqb s s ≡ true
eqb_itself s = grind (arith, nat_tests)

put_has : (o : Option ℕ) (s : ℕ) (xs : List ℕ) → list_any (eqb s) xs ≡ true → list_any (eqb s) (put o xs) ≡ true
unfolding put
put_has None s xs h = h
put_has (Some r) s xs h = ap (λ b. eqb s r || b) h ∙ or_right (eqb s r) true refl

put_some : (o : Option ℕ) (s : ℕ) (xs : List ℕ) → o ≡ Some s → list_any (eqb s) (put o xs) ≡ true
unfolding put
put_some o s xs e = ap (λ p. list_any (eqb s) (put p xs)) e ∙ ap (λ b. b || list_any (eqb s) xs) (eqb_itself s)

under_has : (x : TaskSlot) (n m s : ℕ) → m < n → number_of x m ≡ Some s → list_any (eqb s) (under x n) ≡ true
unfolding under
under_has x zero m s h e = absurd (omega arith)
under_has x (suc n) m s h e = by (below_or_at m n h) (λ p. under_has x n m s p e) where
  by : (m < n) ⊎ (m ≡ n) → (m < n → list_any (eqb s) (under x n) ≡ true) → list_any (eqb s) (put (number_of x n) (under x n)) ≡ true
  by (inl p) f = put_has (number_of x n) s (under x n) (f p)
  by (inr p) f = put_some (number_of x n) s (under x n) (ap (number_of x) (sym p) ∙ e)

-- all that stands under a number of a task
everything : ℕ → List (Option TaskSlot) → List ℕ
everything b [] = []
everything b (None ∷ rest) = everything b rest
everything b (Some x ∷ rest) = under x b ++ everything b rest

one_seat : (x : TaskSlot) (rest : List (Option TaskSlot)) → count_by is_some (Some x ∷ rest) ≡ 1 + count_by is_some rest
one_seat x rest = sum_by-cons (λ (o : Option TaskSlot). cond (is_some o) 1 0) (Some x) rest

everything_length : (b : ℕ) (seats : List (Option TaskSlot)) → length (everything b seats) ≤ b * count_by is_some seats
unfolding everything
everything_length b [] = omega arith
everything_length b (None ∷ rest) = let h = everything_length b rest in omega arith
everything_length b (Some x ∷ rest) =
    let h = everything_length b rest in
    let u = under_length x b in
    let one : b * count_by is_some (Some x ∷ rest) ≡ b * (1 + count_by is_some rest) = ap (λ n. b * n) (one_seat x rest) in
    let e : length (under x b ++ everything b rest) ≡ length (under x b) + length (everything b rest) = length-append (under x b) (everything b rest) in
    grind arith

everything_gap : (b : ℕ) (seats : List (Option TaskSlot)) (k m : ℕ) (x : TaskSlot) → item_at seats k ≡ Some x → m < b → number_of x m ≡ None → length (everything b seats) < b * count_by is_some seats
unfolding everything
everything_gap b [] k m x h p e = absurd (let f : ◌≡◌ {A = Option TaskSlot} None (Some x) = h in cc)
everything_gap b (None ∷ rest) zero m x h p e = absurd (let f : ◌≡◌ {A = Option TaskSlot} None (Some x) = h in cc)
everything_gap b (None ∷ rest) (suc k) m x h p e = let r = everything_gap b rest k m x h p e in omega arith
everything_gap b (Some y ∷ rest) zero m x h p e =
    let same : x ≡ y = (let f : Some y ≡ Some x = h in cc) in
    let u = under_gap y b m p (ap (λ z. number_of z m) (sym same) ∙ e) in
    let r = everything_length b rest in
    let one : b * count_by is_some (Some y ∷ rest) ≡ b * (1 + count_by is_some rest) = ap (λ n. b * n) (one_seat y rest) in
    let e : length (under y b ++ everything b rest) ≡ length (under y b) + length (everything b rest) = length-append (under y b) (everything b rest) in
    grind arith
everything_gap b (Some y ∷ rest) (suc k) m x h p e =
    let r = everything_gap b rest k m x h p e in
    let u = under_length y b in
    let one : b * count_by is_some (Some y ∷ rest) ≡ b * (1 + count_by is_some rest) = ap (λ n. b * n) (one_seat y rest) in
    let e : length (under y b ++ everything b rest) ≡ length (under y b) + length (everything b rest) = length-append (under y b) (everything b rest) in
    grind arith

everything_has : (b : ℕ) (seats : List (Option TaskSlot)) (k m s : ℕ) (x : TaskSlot) → item_at seats k ≡ Some x → m < b → number_of x m ≡ Some s → list_any (eqb s) (everything b seats) ≡ true
unfolding everything
everything_has b [] k m s x h p e = absurd (let f : ◌≡◌ {A = Option TaskSlot} None (Some x) = h in cc)
everything_has b (None ∷ rest) zero m s x h p e = absurd (let f : ◌≡◌ {A = Option TaskSlot} None (Some x) = h in cc)
everything_has b (None ∷ rest) (suc k) m s x h p e = everything_has b rest k m s x h p e
everything_has b (Some y ∷ rest) zero m s x h p e =
    let same : x ≡ y = (let f : Some y ≡ Some x = h in cc) in
    list_any-append (eqb s) (under y b) (everything b rest) ∙ ap (λ c. c || list_any (eqb s) (everything b rest)) (under_has y b m s p (ap (λ z. number_of z m) (sym same) ∙ e))
everything_has b (Some y ∷ rest) (suc k) m s x h p e =
    list_any-append (eqb s) (under y b) (everything b rest) ∙ ap (λ c. list_any (eqb s) (under y b) || c) (everything_has b rest k m s x h p e) ∙ or_right (list_any (eqb s) (under y b)) true refl

-- below a bound one is missing, or all are there
some_or_all : {X : Type 0} (n : ℕ) (f : ℕ → Option X) → ((s : ℕ) × (s < n) × (f s ≡ None)) ⊎ ((s : ℕ) → s < n → IsSome (f s))
some_or_all zero f = inr (λ s h. absurd (omega arith))
some_or_all {X} (suc n) f = by (some_or_all n f) (f n) refl where
  by : ((s : ℕ) × (s < n) × (f s ≡ None)) ⊎ ((s : ℕ) → s < n → IsSome (f s)) → (o : Option X) → f n ≡ o → ((s : ℕ) × (s < suc n) × (f s ≡ None)) ⊎ ((s : ℕ) → s < suc n → IsSome (f s))
  by (inl r) o e = inl (r.0, (let h = r.1 in omega arith), r.2)
  by (inr r) None e = inl (n, omega arith, e)
  by (inr r) (Some x) e = inr (λ s h. at s (below_or_at s n h)) where
    at : (s : ℕ) → (s < n) ⊎ (s ≡ n) → IsSome (f s)
    at s (inl p) = r s p
    at s (inr p) = ap is_some (ap f p ∙ e)

-- what a task has under the two numbers of the job step task
two : TaskSlot → List ℕ
two x = put (number_of x 131) (put (number_of x 132) [])

two_length : (x : TaskSlot) → length (two x) ≤ 2
unfolding two
two_length x =
    let a = put_length (number_of x 131) (put (number_of x 132) []) in
    let b = put_length (number_of x 132) [] in
    omega arith

-- a number of the job step task is one of the two
one_of_two : (n : ℕ) → is_step_number n ≡ true → (n ≡ 131) ⊎ (n ≡ 132)
one_of_two n h = by (eqb n 131) refl where
  by : (b : Bool) → eqb n 131 ≡ b → (n ≡ 131) ⊎ (n ≡ 132)
  by true e = inl (grind (arith, nat_tests))
  by false e = inr (grind (arith, nat_tests))

two_has : (x : TaskSlot) (n s : ℕ) → is_step_number n ≡ true → number_of x n ≡ Some s → list_any (eqb s) (two x) ≡ true
unfolding two
two_has x n s h e = by (one_of_two n h) where
  by : (n ≡ 131) ⊎ (n ≡ 132) → list_any (eqb s) (put (number_of x 131) (put (number_of x 132) [])) ≡ true
  by (inl p) = put_some (number_of x 131) s _ (ap (number_of x) (sym p) ∙ e)
  by (inr p) = put_has (number_of x 131) s _ (put_some (number_of x 132) s [] (ap (number_of x) (sym p) ∙ e))

two_gap : (x : TaskSlot) (n : ℕ) → is_step_number n ≡ true → number_of x n ≡ None → length (two x) < 2
unfolding two
two_gap x n h e = by (one_of_two n h) where
  by : (n ≡ 131) ⊎ (n ≡ 132) → length (put (number_of x 131) (put (number_of x 132) [])) < 2
  by (inl p) =
      let same : length (put (number_of x 131) (put (number_of x 132) [])) ≡ length (put (number_of x 132) []) = ap length (put_none (number_of x 131) _ (ap (number_of x) (sym p) ∙ e)) in
      let b = put_length (number_of x 132) [] in
      omega arith
  by (inr p) =
      let same : length (put (number_of x 132) []) ≡ 0 = ap length (put_none (number_of x 132) [] (ap (number_of x) (sym p) ∙ e)) in
      let a = put_length (number_of x 131) (put (number_of x 132) []) in
      omega arith

-- the first task without a mother
else_next : Option ℕ → TaskSlot → Option TaskSlot → Option TaskSlot
else_next None x next = Some x
else_next (Some m) x next = next

first_seat : List (Option TaskSlot) → Option TaskSlot
first_seat [] = None
first_seat (None ∷ rest) = first_seat rest
first_seat (Some x ∷ rest) = else_next x.mother x (first_seat rest)

first_found : (seats : List (Option TaskSlot)) (k : ℕ) (x : TaskSlot) → item_at seats k ≡ Some x → x.mother ≡ None → (j : ℕ) × (y : TaskSlot) × (item_at seats j ≡ Some y) × (y.mother ≡ None) × (first_seat seats ≡ Some y)
unfolding first_seat else_next
first_found [] k x h e = absurd (let f : ◌≡◌ {A = Option TaskSlot} None (Some x) = h in cc)
first_found (None ∷ rest) zero x h e = absurd (let f : ◌≡◌ {A = Option TaskSlot} None (Some x) = h in cc)
first_found (None ∷ rest) (suc k) x h e = let r = first_found rest k x h e in (suc r.0, r.1, r.2, r.3, r.4)
first_found (Some y ∷ rest) zero x h e =
    let same : y ≡ x = (let f : Some y ≡ Some x = h in cc) in
    let none : y.mother ≡ None = ap (λ (z : TaskSlot). z.mother) same ∙ e in
    (0, y, refl, none, ap (λ m. else_next m y (first_seat rest)) none)
first_found (Some y ∷ rest) (suc k) x h e = at y.mother refl (first_found rest k x h e) where
  at : (m : Option ℕ) → y.mother ≡ m → ((j : ℕ) × (z : TaskSlot) × (item_at rest j ≡ Some z) × (z.mother ≡ None) × (first_seat rest ≡ Some z))
      → (j : ℕ) × (z : TaskSlot) × (item_at (Some y ∷ rest) j ≡ Some z) × (z.mother ≡ None) × (else_next y.mother y (first_seat rest) ≡ Some z)
  at None f r = (0, y, refl, f, ap (λ m. else_next m y (first_seat rest)) f)
  at (Some m) f r = (suc r.0, r.1, r.2, r.3, ap (λ m. else_next m y (first_seat rest)) f ∙ r.4)

-- what the first has under the two numbers
of_first : Option TaskSlot → List ℕ
of_first None = []
of_first (Some x) = two x

of_first_length : (o : Option TaskSlot) → length (of_first o) ≤ 2
unfolding of_first
of_first_length None = omega arith
of_first_length (Some x) = two_length x

module _ (seats : List (Option TaskSlot)) (owned : List (Option Owned)) (sound : IsSound seats owned) where
  the_first : (k : ℕ) (x : TaskSlot) → item_at seats k ≡ Some x → x.mother ≡ None → first_seat seats ≡ Some x
  the_first k x h e =
      let r = first_found seats k x h e in
      let same : r.0 ≡ k = sound.first r.0 k r.1 x r.2 h r.3 e in
      let f : Some r.1 ≡ Some x = sym r.2 ∙ ap (item_at seats) same ∙ h in
      r.4 ∙ f

  all : List ℕ
  all = everything 128 seats ++ of_first (first_seat seats)

  all_length : length all ≡ length (everything 128 seats) + length (of_first (first_seat seats))
  unfolding all
  all_length = length-append (everything 128 seats) (of_first (first_seat seats))

  -- each subpool with an owner is among them
  all_has : (s : ℕ) → IsSome (item_at owned s) → list_any (eqb s) all ≡ true
  unfolding all of_first
  all_has s some_owner =
      let o = of_some (item_at owned s) some_owner in
      let y = sound.owners s o.0 o.1 in
      list_any-append (eqb s) (everything 128 seats) (of_first (first_seat seats)) ∙ by y.0 o.0.owner o.0.number y.1 y.2 (sound.places o.0.owner o.0.number s y.0 y.1 y.2)
    where
      by : (y : TaskSlot) (k n : ℕ) → item_at seats k ≡ Some y → number_of y n ≡ Some s → MayHave y n → (list_any (eqb s) (everything 128 seats) || list_any (eqb s) (of_first (first_seat seats))) ≡ true
      by y k n h e (inl low) = ap (λ c. c || list_any (eqb s) (of_first (first_seat seats))) (everything_has 128 seats k n s y h low e)
      by y k n h e (inr r) =
          ap (λ c. list_any (eqb s) (everything 128 seats) || c) (ap (λ o. list_any (eqb s) (of_first o)) (the_first k y h r.1) ∙ two_has y n s r.0 e)
          ∙ or_right (list_any (eqb s) (everything 128 seats)) true refl

  -- where a task has none under a number under which it may have one, they are fewer than there could be
  all_few : (k m : ℕ) (x : TaskSlot) → count_by is_some seats ≤ 32 → item_at seats k ≡ Some x → MayHave x m → number_of x m ≡ None → length all < 4098
  unfolding all of_first
  all_few k m x few h (inl low) e =
      let a : length (everything 128 seats) < 128 * count_by is_some seats = everything_gap 128 seats k m x h low e in
      let b = of_first_length (first_seat seats) in
      let sum = all_length in
      omega arith
  all_few k m x few h (inr r) e =
      let a : length (everything 128 seats) ≤ 128 * count_by is_some seats = everything_length 128 seats in
      let same : length (of_first (first_seat seats)) ≡ length (two x) = ap (λ o. length (of_first o)) (the_first k x h r.1) in
      let b = two_gap x m r.0 e in
      let sum = all_length in
      omega arith

  -- then some subpool has no owner
  pub room : (k m : ℕ) (x : TaskSlot) → length owned ≡ 4098 → count_by is_some seats ≤ 32 → item_at seats k ≡ Some x → MayHave x m → number_of x m ≡ None → (s : ℕ) × (s < length owned) × (item_at owned s ≡ None)
  room k m x long few h place e = by (some_or_all (length owned) (λ s. item_at owned s)) where
    by : ((s : ℕ) × (s < length owned) × (item_at owned s ≡ None)) ⊎ ((s : ℕ) → s < length owned → IsSome (item_at owned s)) → (s : ℕ) × (s < length owned) × (item_at owned s ≡ None)
    by (inl r) = r
    by (inr owns_all) =
        let least : length owned ≤ length all = covered (length owned) all (λ s l. all_has s (owns_all s l)) in
        let most = all_few k m x few h place e in
        absurd (omega arith)
