-- The number of outcomes after one more schedule.
use Rattle.std.proofs.Common.{◌≡◌, ◌+◌, ◌<◌, ◌≤◌, ℕ, Bool, true, false, ◌||◌, not, List, [], ◌∷◌, ◌++◌, map, length, refl, sym, ◌∙◌, ap, subst, append_assoc, append-nil, arith}
use Rattle.std.specs.Prelude.{if◌then◌else◌, nat_eq}
use Rattle.std.specs.Cmp.Lexicographic.{pointwise}
use Rattle.std.specs.Bool.{MatchBool}
use Rattle.std.specs.List.{list_all, list_any, AllByRecursion}
use Rattle.std.specs.List.Sorted.{IsPermutation}
use Rattle.std.proofs.lemmas.Bool.{and_from, and_parts}
use Rattle.std.proofs.lemmas.List.Folds.{list_any-append}
use Rattle.std.proofs.lemmas.List.Sorted.{list_any-IsPermutation}
use Rattle.std.proofs.lemmas.Slice.Eq.{bytes_eq-Decides}
use Rattle.schedules.specs.declared.outcomes.Outcomes.{Outcomes}
use Rattle.schedules.specs.declared.tally.Row.{Row}
use Rattle.schedules.specs.declared.tally.Tally.{Tally}
use Rattle.schedules.specs.Answered.{AnsweredValue, Schedule, gives, same}
use Rattle.schedules.specs.Filling.{Fills, HasOutcomes, IsAdded, IsFilled, has_outcome, outcome_from}
use Rattle.schedules.specs.Outcomes.{count_outcomes, new_outcome, same_outcome}
use Rattle.schedules.specs.Tallies.{IsTally, answers_in, answers_of, counted, has_row}
use Rattle.schedules.proofs.Tallied.{answer_if, answers_added, answers_mid, given_all, has_row_of, no_left, no_right, not_given, or_left, or_right, same_is, same_self, tally_added}

-- ---- booleans

same_bools : (a b : Bool) → (a ≡ true → b ≡ true) → (b ≡ true → a ≡ true) → a ≡ b
same_bools true b f g = sym (f refl)
same_bools false true f g = g refl
same_bools false false f g = refl

or_swap : (a b : Bool) → (a || b) ≡ (b || (a || false))
or_swap true true = refl
or_swap true false = refl
or_swap false true = refl
or_swap false false = refl

if_not : (b : Bool) → ◌≡◌ {A = ℕ} (if not b then 1 else 0) (if b then 0 else 1)
if_not true = refl
if_not false = refl

absorbed : (a b : Bool) → (a ≡ true → b ≡ true) → b ≡ (a || b)
absorbed true b f = f refl
absorbed false b f = refl

so_true : (b : Bool) → false ≡ not b → b ≡ true
so_true true h = refl
so_true false h = h

-- ---- lists

all_weaker : {X : Type 0} (P Q : X → Type 0) → ((x : X) → P x → Q x) → (xs : List X) → AllByRecursion P xs → AllByRecursion Q xs
all_weaker P Q f [] h = tt
all_weaker P Q f (x ∷ xs) h = (f x h.0, all_weaker P Q f xs h.1)

any_same : {X : Type 0} (p q : X → Bool) (xs : List X) → AllByRecursion (λ x. p x ≡ q x) xs → list_any p xs ≡ list_any q xs
any_same p q [] h = refl
any_same p q (x ∷ xs) h = ap (λ b. b || list_any p xs) h.0 ∙ ap (λ b. q x || b) (any_same p q xs h.1)

all_true : {X : Type 0} (p : X → Bool) (xs : List X) → AllByRecursion (λ x. p x ≡ true) xs → list_all p xs ≡ true
all_true p [] h = refl
all_true p (x ∷ xs) h = and_from (p x) (list_all p xs) h.0 (all_true p xs h.1)

-- ---- the number of outcomes

pub count_last : (before ss : List Schedule) (s : Schedule) → count_outcomes before (ss ++ s ∷ []) ≡ count_outcomes before ss + new_outcome (before ++ ss) s
count_last before [] s = (let e : new_outcome before s + 0 ≡ 0 + new_outcome before s = omega arith in e) ∙ ap (λ b. 0 + new_outcome b s) (sym (append-nil before))
count_last before (x ∷ ss) s =
    let e = count_last (before ++ x ∷ []) ss s in
    let f : new_outcome ((before ++ x ∷ []) ++ ss) s ≡ new_outcome (before ++ x ∷ ss) s = ap (λ b. new_outcome b s) (append_assoc before (x ∷ []) ss) in
    omega (arith, e, f)

one_at_most : (b : Bool) → (if b then 0 else 1) ≤ 1
one_at_most true = omega arith
one_at_most false = omega arith

few_outcomes : (before ss : List Schedule) → count_outcomes before ss ≤ length ss
few_outcomes before [] = omega arith
few_outcomes before (s ∷ ss) =
    let e = few_outcomes (before ++ s ∷ []) ss in
    let f : new_outcome before s ≤ 1 = one_at_most (list_any (same_outcome s) before) in
    omega (arith, e, f)

pub outcomes_have_room : (ss : List Schedule) (n : ℕ) (t : Tally) → IsTally ss t → t.schedules + 1 < n → t.outcomes + 1 < n
outcomes_have_room ss n t is room = let c = is.counted in let o = is.outcomes in let f = few_outcomes [] ss in omega (arith, c, o, f, room)

-- ---- a set of lists after one more

module _ {K : Type 0} (old new : List K) (key : K) (items : K → List ℕ) where
  pub inserted : (added : Bool) → MatchBool added (IsPermutation (key ∷ old) new) (new ≡ old) → added ≡ not (list_any (λ v. pointwise nat_eq (items key) (items v)) old) → (k : List ℕ) → list_any (λ v. pointwise nat_eq k (items v)) new ≡ (pointwise nat_eq k (items key) || list_any (λ v. pointwise nat_eq k (items v)) old)
  inserted true p t k = sym (list_any-IsPermutation (λ v. pointwise nat_eq k (items v)) (key ∷ old) new p)
  inserted false e t k =
      ap (list_any (λ v. pointwise nat_eq k (items v))) e
      ∙ absorbed (pointwise nat_eq k (items key)) (list_any (λ v. pointwise nat_eq k (items v)) old)
      (λ is.
      subst (λ l. list_any (λ v. pointwise nat_eq l (items v)) old ≡ true) (sym ((bytes_eq-Decides k (items key)).0 is)) (so_true (list_any (λ v. pointwise nat_eq (items key) (items v)) old) t))

-- ---- schedules with the same outcome give the same answers

given_too_at : (x a : AnsweredValue) (s t : Schedule) (b : Bool) → same x a ≡ b → gives a t ≡ true → (list_any (same x) s ≡ true → gives x t ≡ true) → (b || list_any (same x) s) ≡ true → gives x t ≡ true
given_too_at x a s t true is given rest h = subst (λ y. gives y t ≡ true) (sym (same_is x a is)) given
given_too_at x a s t false is given rest h = rest h

given_too : (x : AnsweredValue) (s t : Schedule) → list_all (λ a. gives a t) s ≡ true → gives x s ≡ true → gives x t ≡ true
given_too x [] t all h = absurd (let e : false ≡ true = h in cc)
given_too x (a ∷ s) t all h =
    let p = and_parts (gives a t) (list_all (λ a. gives a t) s) all in
    given_too_at x a s t (same x a) refl p.0 (given_too x s t p.1) h

same_gives : (s t : Schedule) → same_outcome s t ≡ true → (x : AnsweredValue) → gives x s ≡ gives x t
same_gives s t h x =
    let p = and_parts (list_all (λ a. gives a t) s) (list_all (λ a. gives a s) t) h in
    same_bools (gives x s) (gives x t) (given_too x s t p.0) (given_too x t s p.1)

-- ---- the numbers of an outcome

numbers_same : (s t : Schedule) → ((x : AnsweredValue) → gives x s ≡ gives x t) → (n : ℕ) (rows : List Row) → outcome_from n rows s ≡ outcome_from n rows t
numbers_same s t h n [] = refl
numbers_same s t h n (r ∷ rows) =
    ap (λ b. if b then n ∷ outcome_from (n + 1) rows s else outcome_from (n + 1) rows s) (h r.answer) ∙ ap (λ x. if gives r.answer t then n ∷ x else x) (numbers_same s t h (n + 1) rows)

above_at : (n m : ℕ) (b : Bool) (own rest : List ℕ) → (own ≡ m ∷ rest → n + 1 ≤ m) → (if b then n ∷ own else own) ≡ m ∷ rest → n ≤ m
above_at n m true own rest later e = let f : n ≡ m = cc in omega (arith, f)
above_at n m false own rest later e = let f = later e in omega (arith, f)

above : (n m : ℕ) (rows : List Row) (s : Schedule) (rest : List ℕ) → outcome_from n rows s ≡ m ∷ rest → n ≤ m
above n m [] s rest e = absurd (let f : [] ≡ m ∷ rest = e in cc)
above n m (r ∷ rows) s rest e = above_at n m (gives r.answer s) (outcome_from (n + 1) rows s) rest (above (n + 1) m rows s rest) e

abbrev AgreeOn : Schedule → Schedule → Row → Type 0
AgreeOn s t r = gives r.answer s ≡ gives r.answer t

agree_at : (s t : Schedule) (n : ℕ) (r : Row) (rows : List Row) (a b : Bool) → gives r.answer s ≡ a → gives r.answer t ≡ b → (outcome_from (n + 1) rows s ≡ outcome_from (n + 1) rows t → AllByRecursion (AgreeOn s t) rows)
    → (if a then n ∷ outcome_from (n + 1) rows s else outcome_from (n + 1) rows s) ≡ (if b then n ∷ outcome_from (n + 1) rows t else outcome_from (n + 1) rows t) → AllByRecursion (AgreeOn s t) (r ∷ rows)
agree_at s t n r rows true true x y rest e = (x ∙ sym y, rest cc)
agree_at s t n r rows false false x y rest e = (x ∙ sym y, rest e)
agree_at s t n r rows true false x y rest e = absurd (let f = above (n + 1) n rows t (outcome_from (n + 1) rows s) (sym e) in omega (arith, f))
agree_at s t n r rows false true x y rest e = absurd (let f = above (n + 1) n rows s (outcome_from (n + 1) rows t) e in omega (arith, f))

rows_agree : (s t : Schedule) (n : ℕ) (rows : List Row) → outcome_from n rows s ≡ outcome_from n rows t → AllByRecursion (AgreeOn s t) rows
rows_agree s t n [] e = tt
rows_agree s t n (r ∷ rows) e = agree_at s t n r rows (gives r.answer s) (gives r.answer t) refl refl (rows_agree s t (n + 1) rows) e

-- ---- where each answer has a row

abbrev HaveRows : List Row → Schedule → Type 0
HaveRows rows s = (a : AnsweredValue) → gives a s ≡ true → has_row rows a ≡ true

agreed_at : (x : AnsweredValue) (s t : Schedule) (r : Row) (rows : List Row) (b : Bool) → same x r.answer ≡ b → AgreeOn s t r → (has_row rows x ≡ true → gives x s ≡ gives x t) → (b || has_row rows x) ≡ true → gives x s ≡ gives x t
agreed_at x s t r rows true is agree rest h = subst (λ y. gives y s ≡ gives y t) (sym (same_is x r.answer is)) agree
agreed_at x s t r rows false is agree rest h = rest h

agreed : (x : AnsweredValue) (s t : Schedule) (rows : List Row) → AllByRecursion (AgreeOn s t) rows → has_row rows x ≡ true → gives x s ≡ gives x t
agreed x s t [] agree h = absurd (let e : false ≡ true = h in cc)
agreed x s t (r ∷ rows) agree h = agreed_at x s t r rows (same x r.answer) refl agree.0 (agreed x s t rows agree.1) h

own_given : (s : Schedule) → AllByRecursion (λ a. gives a s ≡ true) s
own_given [] = tt
own_given (a ∷ s) =
    (or_left (same a a) (gives a s) (same_self a), all_weaker (λ x. gives x s ≡ true) (λ x. gives x (a ∷ s) ≡ true) (λ x h. or_right (same x a) (gives x s) h) s (own_given s))

all_given : (s t : Schedule) (rows : List Row) → HaveRows rows s → AllByRecursion (AgreeOn s t) rows → list_all (λ a. gives a t) s ≡ true
all_given s t rows have agree =
    all_true (λ a. gives a t) s (all_weaker (λ a. gives a s ≡ true) (λ a. gives a t ≡ true) (λ a h. sym (agreed a s t rows agree (have a h)) ∙ h) s (own_given s))

-- The numbers are the same exactly if the outcomes are.
numbers_tell : (rows : List Row) (s t : Schedule) → HaveRows rows s → HaveRows rows t → pointwise nat_eq (outcome_from 0 rows s) (outcome_from 0 rows t) ≡ same_outcome s t
numbers_tell rows s t own other =
    let decides = bytes_eq-Decides (outcome_from 0 rows s) (outcome_from 0 rows t) in
    same_bools (pointwise nat_eq (outcome_from 0 rows s) (outcome_from 0 rows t)) (same_outcome s t)
    (λ e.
    let equal = decides.0 e in
    and_from (list_all (λ a. gives a t) s) (list_all (λ a. gives a s) t) (all_given s t rows own (rows_agree s t 0 rows equal)) (all_given t s rows other (rows_agree t s 0 rows (sym equal))))
    (λ e. decides.1 (numbers_same s t (same_gives s t e) 0 rows))

have_rows : (rows : List Row) (ss : List Schedule) → answers_of rows ≡ answers_in ss → (a : AnsweredValue) → list_any (gives a) ss ≡ true → has_row rows a ≡ true
have_rows rows ss e a h = has_row_of rows a ∙ ap (list_any (same a)) e ∙ given_all a [] ss h

each_has_rows : (rows : List Row) (ss : List Schedule) → ((a : AnsweredValue) → list_any (gives a) ss ≡ true → has_row rows a ≡ true) → AllByRecursion (HaveRows rows) ss
each_has_rows rows [] h = tt
each_has_rows rows (s ∷ ss) h = (λ a g. h a (or_left (gives a s) (list_any (gives a) ss) g), each_has_rows rows ss (λ a g. h a (or_right (gives a s) (list_any (gives a) ss) g)))

-- ---- rows that are added change no outcome before

no_numbers : (n : ℕ) (rows : List Row) (t : Schedule) → AllByRecursion (λ r. gives r.answer t ≡ false) rows → outcome_from n rows t ≡ []
no_numbers n [] t h = refl
no_numbers n (r ∷ rows) t h = ap (λ b. if b then n ∷ outcome_from (n + 1) rows t else outcome_from (n + 1) rows t) h.0 ∙ no_numbers (n + 1) rows t h.1

numbers_kept : (s t : Schedule) (n : ℕ) (old added : List Row) → AllByRecursion (λ r. gives r.answer t ≡ false) added → outcome_from n (map (counted s) old ++ added) t ≡ outcome_from n old t
numbers_kept s t n [] added h = no_numbers n added t h
numbers_kept s t n (r ∷ old) added h =
    let rest = outcome_from (n + 1) (map (counted s) old ++ added) t in
    ap (λ a. if gives a t then n ∷ rest else rest) (answer_if r (gives r.answer s)) ∙ ap (λ x. if gives r.answer t then n ∷ x else x) (numbers_kept s t (n + 1) old added h)

new_answers : (ss : List Schedule) (s : Schedule) (mid added : List Row) → answers_of mid ≡ answers_in ss → AllByRecursion (IsAdded s mid) added → AllByRecursion (λ r. list_any (gives r.answer) ss ≡ false) added
new_answers ss s mid added e each =
    all_weaker (IsAdded s mid) (λ r. list_any (gives r.answer) ss ≡ false)
    (λ r is.
    not_given r.answer ss (list_any (gives r.answer) ss) refl (sym (ap (list_any (same r.answer)) e) ∙ sym (has_row_of mid r.answer) ∙ is.lacked)) added each

none_gives : (ss : List Schedule) (added : List Row) → AllByRecursion (λ r. list_any (gives r.answer) ss ≡ false) added → AllByRecursion (λ t. AllByRecursion (λ r. gives r.answer t ≡ false) added) ss
none_gives [] added h = tt
none_gives (t ∷ ss) added h = (
  all_weaker (λ r. list_any (gives r.answer) (t ∷ ss) ≡ false) (λ r. gives r.answer t ≡ false) (λ r e. no_left (gives r.answer t) (list_any (gives r.answer) ss) e) added h,
  none_gives ss added (all_weaker (λ r. list_any (gives r.answer) (t ∷ ss) ≡ false) (λ r. list_any (gives r.answer) ss ≡ false) (λ r e. no_right (gives r.answer t) (list_any (gives r.answer) ss) e) added h),
)

-- ---- the table and its outcomes after one more schedule

module _ (s : Schedule) (old new : Tally) (mid : List Row) (first after : Outcomes) (is_new : Bool) (counts : mid ≡ map (counted s) old.rows.items) (fills : Fills s s mid new.rows.items)
    (tests : is_new ≡ not (has_outcome first (outcome_from 0 new.rows.items s))) (adds : (k : List ℕ) → has_outcome after k ≡ (pointwise nat_eq k (outcome_from 0 new.rows.items s) || has_outcome first k)) (ss : List Schedule) (f : IsFilled ss old first)
  where
    kept : AllByRecursion (λ t. outcome_from 0 old.rows.items t ≡ outcome_from 0 new.rows.items t) ss
    kept =
        all_weaker (λ t. AllByRecursion (λ r. gives r.answer t ≡ false) fills.added) (λ t. outcome_from 0 old.rows.items t ≡ outcome_from 0 new.rows.items t)
        (λ t h.
        sym (ap (λ x. outcome_from 0 x t) (fills.rows ∙ ap (λ x. x ++ fills.added) counts) ∙ numbers_kept s t 0 old.rows.items fills.added h)) ss
        (none_gives ss fills.added (new_answers ss s mid fills.added (answers_mid s old mid counts ss f.tally) fills.each))

    had : (k : List ℕ) → has_outcome first k ≡ list_any (λ t. pointwise nat_eq k (outcome_from 0 new.rows.items t)) ss
    had k =
        f.has k
        ∙ any_same (λ t. pointwise nat_eq k (outcome_from 0 old.rows.items t)) (λ t. pointwise nat_eq k (outcome_from 0 new.rows.items t)) ss
        (all_weaker (λ t. outcome_from 0 old.rows.items t ≡ outcome_from 0 new.rows.items t) (λ t. pointwise nat_eq k (outcome_from 0 old.rows.items t) ≡ pointwise nat_eq k (outcome_from 0 new.rows.items t)) (λ t e. ap (pointwise nat_eq k) e) ss kept)

    rowed : (a : AnsweredValue) → list_any (gives a) (ss ++ s ∷ []) ≡ true → has_row new.rows.items a ≡ true
    rowed = have_rows new.rows.items (ss ++ s ∷ []) (answers_added s old new mid counts fills ss f.tally)

    own_rows : HaveRows new.rows.items s
    own_rows a h = rowed a (list_any-append (gives a) ss (s ∷ []) ∙ or_right (list_any (gives a) ss) (gives a s || false) (or_left (gives a s) false h))

    other_rows : AllByRecursion (HaveRows new.rows.items) ss
    other_rows = each_has_rows new.rows.items ss (λ a h. rowed a (list_any-append (gives a) ss (s ∷ []) ∙ or_left (list_any (gives a) ss) (gives a s || false) h))

    known : has_outcome first (outcome_from 0 new.rows.items s) ≡ list_any (same_outcome s) ss
    known =
        had (outcome_from 0 new.rows.items s)
        ∙ any_same (λ t. pointwise nat_eq (outcome_from 0 new.rows.items s) (outcome_from 0 new.rows.items t)) (same_outcome s) ss
        (all_weaker (HaveRows new.rows.items) (λ t. pointwise nat_eq (outcome_from 0 new.rows.items s) (outcome_from 0 new.rows.items t) ≡ same_outcome s t) (λ t h. numbers_tell new.rows.items s t own_rows h) ss other_rows)

    one_more : old.outcomes + (if is_new then 1 else 0) ≡ count_outcomes [] (ss ++ s ∷ [])
    one_more =
        let a = count_last [] ss s in
        let b = f.tally.outcomes in
        let d : (if is_new then 1 else 0) ≡ new_outcome ss s = ap (λ x. if x then 1 else 0) (tests ∙ ap not known) ∙ if_not (list_any (same_outcome s) ss) in
        omega (arith, a, b, d)

    has_all : HasOutcomes new.rows.items (ss ++ s ∷ []) after
    has_all k =
        let own = pointwise nat_eq k (outcome_from 0 new.rows.items s) in
        let test : Schedule → Bool = λ t. pointwise nat_eq k (outcome_from 0 new.rows.items t) in
        adds k ∙ ap (λ b. own || b) (had k) ∙ or_swap own (list_any test ss) ∙ sym (list_any-append test ss (s ∷ []))

    pub filled_added : new.schedules ≡ old.schedules + 1 → new.outcomes ≡ old.outcomes + (if is_new then 1 else 0) → IsFilled (ss ++ s ∷ []) new after
    filled_added schedules outcomes = record {
      tally = tally_added s old new mid counts fills schedules ss (outcomes ∙ one_more) f.tally;
      has = has_all;
    }
