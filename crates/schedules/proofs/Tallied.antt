-- A table after one more schedule.
use Rattle.std.proofs.Common.{◌≡◌, ◌+◌, take, drop, get_or, ◌<◌, ℕ, Bool, true, false, cond, ◌||◌, ◌&&◌, ◌==◌, List, [], ◌∷◌, ◌++◌, map, length, Option, Some, None, refl, sym, ◌∙◌, ap, subst, append_assoc, append-nil, arith, length-append}
use Rattle.std.specs.Prelude.{count_by, find, bytes_eq, if◌then◌else◌}
use Rattle.std.specs.Option.{option_or}
use Rattle.std.specs.List.{list_any, AllByRecursion}
use Rattle.std.proofs.lemmas.List.{drop_all, map-append, take_all, take_more}
use Rattle.std.proofs.lemmas.List.Folds.{find-append, list_any-append, list_any_at}
use Rattle.std.proofs.lemmas.List.Sums.{count_by-le-length, sum_by-append}
use Rattle.std.proofs.lemmas.Bool.Decides.{Decides-eqb}
use Rattle.std.proofs.lemmas.Slice.Eq.{bytes_eq-Decides}
use Rattle.schedules.specs.declared.tally.Row.{Row}
use Rattle.schedules.specs.declared.tally.Tally.{Tally}
use Rattle.schedules.specs.Answered.{AnsweredValue, Schedule, gives, same}
use Rattle.schedules.specs.Filling.{Fills, IsAdded, IsNewRow}
use Rattle.schedules.specs.Outcomes.{count_outcomes}
use Rattle.schedules.specs.Tallies.{IsRow, IsTally, answers_in, answers_of, counted, has_row, with_all_new, with_new}

-- ---- booleans

pub both : (a b : Bool) → (a && b) ≡ true → (a ≡ true) × (b ≡ true)
both true b h = (refl, h)
both false b h = absurd (let e : false ≡ true = h in cc)

pub or_left : (a b : Bool) → a ≡ true → (a || b) ≡ true
or_left true b h = refl
or_left false b h = absurd (let e : false ≡ true = h in cc)

pub or_right : (a b : Bool) → b ≡ true → (a || b) ≡ true
or_right true b h = refl
or_right false b h = h

pub no_left : (a b : Bool) → (a || b) ≡ false → a ≡ false
no_left true b h = absurd (let e : true ≡ false = h in cc)
no_left false b h = refl

pub no_right : (a b : Bool) → (a || b) ≡ false → b ≡ false
no_right true b h = absurd (let e : true ≡ false = h in cc)
no_right false b h = h

-- ---- the same answer

abbrev made : ℕ → List ℕ → AnsweredValue
made n x = record { line = n; text = x }

pub same_is : (a b : AnsweredValue) → same a b ≡ true → a ≡ b
same_is a b h =
    let p = both (a.line == b.line) (bytes_eq a.text b.text) h in
    let l : a.line ≡ b.line = (Decides-eqb a.line b.line).0 p.0 in
    let t : a.text ≡ b.text = (bytes_eq-Decides a.text b.text).0 p.1 in
    ap (λ n. made n a.text) l ∙ ap (λ x. made b.line x) t

-- ---- the answers that occur

kept_one : (a x : AnsweredValue) (seen : List AnsweredValue) (b : Bool) → list_any (same a) seen ≡ true → list_any (same a) (if b then seen else seen ++ x ∷ []) ≡ true
kept_one a x seen true h = h
kept_one a x seen false h = list_any-append (same a) seen (x ∷ []) ∙ or_left (list_any (same a) seen) _ h

kept_new : (a : AnsweredValue) (seen : List AnsweredValue) (s : Schedule) → list_any (same a) seen ≡ true → list_any (same a) (with_new seen s) ≡ true
kept_new a seen [] h = h
kept_new a seen (x ∷ s) h = kept_new a (if list_any (same x) seen then seen else seen ++ x ∷ []) s (kept_one a x seen (list_any (same x) seen) h)

is_in : (a x : AnsweredValue) (seen : List AnsweredValue) (b : Bool) → list_any (same x) seen ≡ b → same a x ≡ true → list_any (same a) (if b then seen else seen ++ x ∷ []) ≡ true
is_in a x seen true is h = subst (λ y. list_any (same y) seen ≡ true) (sym (same_is a x h)) is
is_in a x seen false is h = list_any-append (same a) seen (x ∷ []) ∙ or_right (list_any (same a) seen) _ (or_left (same a x) false h)

given_at : (a x : AnsweredValue) (seen : List AnsweredValue) (s : Schedule) (b : Bool) → same a x ≡ b → (list_any (same a) s ≡ true → list_any (same a) (with_new seen (x ∷ s)) ≡ true) → (b || list_any (same a) s) ≡ true → list_any (same a) (with_new seen (x ∷ s)) ≡ true
given_at a x seen s true is rest h = kept_new a (if list_any (same x) seen then seen else seen ++ x ∷ []) s (is_in a x seen (list_any (same x) seen) refl is)
given_at a x seen s false is rest h = rest h

given_new : (a : AnsweredValue) (seen : List AnsweredValue) (s : Schedule) → list_any (same a) s ≡ true → list_any (same a) (with_new seen s) ≡ true
given_new a seen [] h = absurd (let e : false ≡ true = h in cc)
given_new a seen (x ∷ s) h = given_at a x seen s (same a x) refl (given_new a (if list_any (same x) seen then seen else seen ++ x ∷ []) s) h

kept_all : (a : AnsweredValue) (seen : List AnsweredValue) (ss : List Schedule) → list_any (same a) seen ≡ true → list_any (same a) (with_all_new seen ss) ≡ true
kept_all a seen [] h = h
kept_all a seen (s ∷ ss) h = kept_all a (with_new seen s) ss (kept_new a seen s h)

all_at : (a : AnsweredValue) (seen : List AnsweredValue) (s : Schedule) (ss : List Schedule) (b : Bool) → gives a s ≡ b → (list_any (gives a) ss ≡ true → list_any (same a) (with_all_new seen (s ∷ ss)) ≡ true) → (b || list_any (gives a) ss) ≡ true → list_any (same a) (with_all_new seen (s ∷ ss)) ≡ true
all_at a seen s ss true is rest h = kept_all a (with_new seen s) ss (given_new a seen s is)
all_at a seen s ss false is rest h = rest h

pub given_all : (a : AnsweredValue) (seen : List AnsweredValue) (ss : List Schedule) → list_any (gives a) ss ≡ true → list_any (same a) (with_all_new seen ss) ≡ true
given_all a seen [] h = absurd (let e : false ≡ true = h in cc)
given_all a seen (s ∷ ss) h = all_at a seen s ss (gives a s) refl (given_all a (with_new seen s) ss) h

-- an answer that is not among those that occur is given by no schedule
pub not_given : (a : AnsweredValue) (ss : List Schedule) (b : Bool) → list_any (gives a) ss ≡ b → list_any (same a) (answers_in ss) ≡ false → list_any (gives a) ss ≡ false
not_given a ss true is h = absurd (let e : list_any (same a) (answers_in ss) ≡ true = given_all a [] ss is in let f : true ≡ false = sym e ∙ h in cc)
not_given a ss false is h = is

pub with_all_last : (seen : List AnsweredValue) (ss : List Schedule) (s : Schedule) → with_all_new seen (ss ++ s ∷ []) ≡ with_new (with_all_new seen ss) s
with_all_last seen [] s = refl
with_all_last seen (x ∷ ss) s = with_all_last (with_new seen x) ss s

with_new_last : (seen : List AnsweredValue) (s : Schedule) (a : AnsweredValue) → with_new seen (s ++ a ∷ []) ≡ (if list_any (same a) (with_new seen s) then with_new seen s else with_new seen s ++ a ∷ [])
with_new_last seen [] a = refl
with_new_last seen (x ∷ s) a = with_new_last (if list_any (same x) seen then seen else seen ++ x ∷ []) s a

-- ---- rows

pub has_row_of : (rows : List Row) (a : AnsweredValue) → has_row rows a ≡ list_any (same a) (answers_of rows)
has_row_of [] a = refl
has_row_of (r ∷ rows) a = ap (λ b. same a r.answer || b) (has_row_of rows a)

each_last : {X : Type 0} (P : X → Type 0) (xs : List X) (x : X) → AllByRecursion P xs → P x → AllByRecursion P (xs ++ x ∷ [])
each_last P [] x h p = (p, tt)
each_last P (y ∷ xs) x h p = (h.0, each_last P xs x h.1 p)

each_both : {X : Type 0} (P : X → Type 0) (xs ys : List X) → AllByRecursion P xs → AllByRecursion P ys → AllByRecursion P (xs ++ ys)
each_both P [] ys h k = k
each_both P (x ∷ xs) ys h k = (h.0, each_both P xs ys h.1 k)

pub fills_has : (schedule seen : Schedule) (a : AnsweredValue) (old new : List Row) → Fills schedule seen old new → has_row new a ≡ true → Fills schedule (seen ++ a ∷ []) old new
fills_has schedule seen a old new f has = record {
  added = f.added;
  rows = f.rows;
  answers =
      let e : list_any (same a) (with_new (answers_of old) seen) ≡ true = sym (ap (list_any (same a)) f.answers) ∙ sym (has_row_of new a) ∙ has in
      f.answers ∙ sym (with_new_last (answers_of old) seen a ∙ ap (λ b. if b then with_new (answers_of old) seen else with_new (answers_of old) seen ++ a ∷ []) e);
  each = f.each;
}

lacked_before : (old added new : List Row) (a : AnsweredValue) → new ≡ old ++ added → has_row new a ≡ false → has_row old a ≡ false
lacked_before old added new a e h = no_left (has_row old a) (has_row added a) (sym (list_any-append (λ r. same a r.answer) old added) ∙ sym (ap (λ rows. has_row rows a) e) ∙ h)

pub fills_lacks : (schedule seen : Schedule) (a : AnsweredValue) (old new : List Row) (r : Row) → Fills schedule seen old new → has_row new a ≡ false → gives a schedule ≡ true → IsNewRow schedule a r → Fills schedule (seen ++ a ∷ []) old (new ++ r ∷ [])
fills_lacks schedule seen a old new r f lacks given is = record {
  added = f.added ++ r ∷ [];
  rows = ap (λ rows. rows ++ r ∷ []) f.rows ∙ append_assoc old f.added (r ∷ []);
  answers =
      let e : list_any (same a) (with_new (answers_of old) seen) ≡ false = sym (ap (list_any (same a)) f.answers) ∙ sym (has_row_of new a) ∙ lacks in
      map-append (λ r. r.answer) new (r ∷ [])
      ∙ ap (λ x. x ++ r.answer ∷ []) f.answers
      ∙ ap (λ x. with_new (answers_of old) seen ++ x ∷ []) is.answer
      ∙ sym (with_new_last (answers_of old) seen a ∙ ap (λ b. if b then with_new (answers_of old) seen else with_new (answers_of old) seen ++ a ∷ []) e);
  each = each_last (IsAdded schedule old) f.added r f.each (record {
    row = record { answer = refl; count = is.count; first = is.first };
    given = subst (λ x. gives x schedule ≡ true) (sym is.answer) given;
    lacked = subst (λ x. has_row old x ≡ false) (sym is.answer) (lacked_before old f.added new a f.rows lacks);
  });
}

-- ---- rows after one more schedule

option_first : {X : Type 0} (o : Option X) (p : Option X) (x : X) → o ≡ Some x → option_or o p ≡ Some x
option_first (Some y) p x h = h
option_first None p x h = absurd (let e : None ≡ Some x = h in cc)

found_before : (p : Schedule → Bool) (ss more : List Schedule) (w : Schedule) → find p ss ≡ Some w → find p (ss ++ more) ≡ Some w
found_before p ss more w h = find-append p ss more ∙ option_first (find p ss) (find p more) w h

abbrev one_if : Bool → ℕ
one_if b = cond b 1 0

count_last : (p : Schedule → Bool) (ss : List Schedule) (s : Schedule) (b : Bool) → p s ≡ b → count_by p (ss ++ s ∷ []) ≡ count_by p ss + one_if b
count_last p ss s b is = let e = sum_by-append (λ x. one_if (p x)) ss (s ∷ []) in let f : one_if (p s) ≡ one_if b = ap one_if is in omega (arith, e, f)

row_if : (ss : List Schedule) (s : Schedule) (r : Row) (b : Bool) → gives r.answer s ≡ b → IsRow ss r → IsRow (ss ++ s ∷ []) (if b then record r { count = r.count + 1 } else r)
row_if ss s r true is row = record {
  count = let e = count_last (gives r.answer) ss s true is in let f = row.count in omega (arith, e, f);
  witness = row.witness;
  found = found_before (gives r.answer) ss (s ∷ []) row.witness row.found;
  first = row.first;
}
row_if ss s r false is row = record {
  count = let e = count_last (gives r.answer) ss s false is in let f = row.count in omega (arith, e, f);
  witness = row.witness;
  found = found_before (gives r.answer) ss (s ∷ []) row.witness row.found;
  first = row.first;
}

rows_counted : (ss : List Schedule) (s : Schedule) (rows : List Row) → AllByRecursion (IsRow ss) rows → AllByRecursion (IsRow (ss ++ s ∷ [])) (map (counted s) rows)
rows_counted ss s [] h = tt
rows_counted ss s (r ∷ rows) h = (row_if ss s r (gives r.answer s) refl h.0, rows_counted ss s rows h.1)

pub answer_if : (r : Row) (b : Bool) → (if b then record r { count = r.count + 1 } else r).answer ≡ r.answer
answer_if r true = refl
answer_if r false = refl

pub answers_counted : (s : Schedule) (rows : List Row) → answers_of (map (counted s) rows) ≡ answers_of rows
answers_counted s [] = refl
answers_counted s (r ∷ rows) = let e = answer_if r (gives r.answer s) in let f = answers_counted s rows in cc

none_found : (p : Schedule → Bool) (ss : List Schedule) → list_any p ss ≡ false → find p ss ≡ None
none_found p [] h = refl
none_found p (s ∷ ss) h = ap (λ b. cond b (Some s) (find p ss)) (no_left (p s) (list_any p ss) h) ∙ none_found p ss (no_right (p s) (list_any p ss) h)

none_counted : (p : Schedule → Bool) (ss : List Schedule) → list_any p ss ≡ false → count_by p ss ≡ 0
none_counted p [] h = refl
none_counted p (s ∷ ss) h =
    let e = sum_by-append (λ x. one_if (p x)) (s ∷ []) ss in
    let f : one_if (p s) ≡ 0 = ap one_if (no_left (p s) (list_any p ss) h) in
    let r = none_counted p ss (no_right (p s) (list_any p ss) h) in
    omega (arith, e, f, r)

option_next : {X : Type 0} (o : Option X) (p : Option X) → o ≡ None → option_or o p ≡ p
option_next None p h = refl
option_next (Some y) p h = absurd (let e : Some y ≡ None = h in cc)

found_last : (p : Schedule → Bool) (ss : List Schedule) (s : Schedule) → find p ss ≡ None → p s ≡ true → find p (ss ++ s ∷ []) ≡ Some s
found_last p ss s h is = find-append p ss (s ∷ []) ∙ option_next (find p ss) _ h ∙ ap (λ b. cond b (Some s) None) is

row_added : (ss : List Schedule) (s : Schedule) (old : List Row) (r : Row) → answers_of old ≡ answers_in ss → IsAdded s old r → IsRow (ss ++ s ∷ []) r
row_added ss s old r e is =
    let lacked : list_any (same r.answer) (answers_in ss) ≡ false = sym (ap (list_any (same r.answer)) e) ∙ sym (has_row_of old r.answer) ∙ is.lacked in
    let none : list_any (gives r.answer) ss ≡ false = not_given r.answer ss (list_any (gives r.answer) ss) refl lacked in
    record {
      count = let c = count_last (gives r.answer) ss s true is.given in let d = is.row.count in let z = none_counted (gives r.answer) ss none in omega (arith, c, d, z);
      witness = s;
      found = found_last (gives r.answer) ss s (none_found (gives r.answer) ss none) is.given;
      first = is.row.first;
    }

rows_added : (ss : List Schedule) (s : Schedule) (old added : List Row) → answers_of old ≡ answers_in ss → AllByRecursion (IsAdded s old) added → AllByRecursion (IsRow (ss ++ s ∷ [])) added
rows_added ss s old [] e h = tt
rows_added ss s old (r ∷ added) e h = (row_added ss s old r e h.0, rows_added ss s old added e h.1)

-- ---- the table

pub answers_mid : (s : Schedule) (old : Tally) (mid : List Row) → mid ≡ map (counted s) old.rows.items → (ss : List Schedule) → IsTally ss old → answers_of mid ≡ answers_in ss
answers_mid s old mid e ss t = ap answers_of e ∙ answers_counted s old.rows.items ∙ t.answers

pub answers_added : (s : Schedule) (old new : Tally) (mid : List Row) → mid ≡ map (counted s) old.rows.items → Fills s s mid new.rows.items → (ss : List Schedule) → IsTally ss old → answers_of new.rows.items ≡ answers_in (ss ++ s ∷ [])
answers_added s old new mid e f ss t = f.answers ∙ ap (λ seen. with_new seen s) (answers_mid s old mid e ss t) ∙ sym (with_all_last [] ss s)

pub tally_added : (s : Schedule) (old new : Tally) (mid : List Row) → mid ≡ map (counted s) old.rows.items → Fills s s mid new.rows.items → new.schedules ≡ old.schedules + 1 → (ss : List Schedule) → new.outcomes ≡ count_outcomes [] (ss ++ s ∷ []) → IsTally ss old → IsTally (ss ++ s ∷ []) new
tally_added s old new mid e f count ss outcomes t =
    let answers = answers_mid s old mid e ss t in
    let rows : AllByRecursion (IsRow (ss ++ s ∷ [])) mid = subst (AllByRecursion (IsRow (ss ++ s ∷ []))) (sym e) (rows_counted ss s old.rows.items t.rows) in
    record {
      counted = let c = t.counted in let l = length-append ss (s ∷ []) in omega (arith, c, l, count);
      outcomes = outcomes;
      answers = answers_added s old new mid e f ss t;
      rows = subst (AllByRecursion (IsRow (ss ++ s ∷ []))) (sym f.rows) (each_both (IsRow (ss ++ s ∷ [])) mid f.added rows (rows_added ss s mid f.added answers f.each));
    }

rows_have_room : (ss : List Schedule) (n : ℕ) (rows : List Row) → length ss + 1 < n → AllByRecursion (IsRow ss) rows → AllByRecursion (λ r. r.count + 1 < n) rows
rows_have_room ss n [] room h = tt
rows_have_room ss n (r ∷ rows) room h = ((let c = h.0.count in let l = count_by-le-length (gives r.answer) ss in omega (arith, c, l, room)), rows_have_room ss n rows room h.1)

pub tally_has_room : (ss : List Schedule) (n : ℕ) (t : Tally) → IsTally ss t → t.schedules + 1 < n → AllByRecursion (λ r. r.count + 1 < n) t.rows.items
tally_has_room ss n t is room = rows_have_room ss n t.rows.items (let c = is.counted in omega (arith, c, room)) is.rows

-- ---- what is written back to the rows

pub map_long : {A B : Type 0} (f : A → B) (xs : List A) → length (map f xs) ≡ length xs
map_long f [] = refl
map_long f (x ∷ xs) = let e = map_long f xs in omega (arith, e)

pub written : (n : ℕ) (new old : List Row) → length new ≡ length old → n ≡ length old → take n (new ++ drop (length new) old) ≡ new
written n new old same is =
    ap (λ x. take n (new ++ x)) (drop_all (length new) old (omega (arith, same))) ∙ ap (take n) (append-nil new) ∙ take_all n new (omega (arith, same, is))

-- ---- a loop over a schedule

pub same_self : (a : AnsweredValue) → same a a ≡ true
same_self a =
    let l : (a.line == a.line) ≡ true = (Decides-eqb a.line a.line).1 refl in
    let t : bytes_eq a.text a.text ≡ true = (bytes_eq-Decides a.text a.text).1 refl in
    ap (λ b. b && bytes_eq a.text a.text) l ∙ t

pub given_here : (s : Schedule) (i : ℕ) (x : AnsweredValue) → i < length s → x ≡ get_or s i x → gives x s ≡ true
given_here s i x within e = list_any_at (same x) s i x within (subst (λ y. same x y ≡ true) e (same_self x))

pub fills_next : (s : Schedule) (i : ℕ) (x : AnsweredValue) (old new : List Row) → i < length s → x ≡ get_or s i x → Fills s (take i s ++ x ∷ []) old new → Fills s (take (i + 1) s) old new
fills_next s i x old new within e f = subst (λ t. Fills s t old new) (sym (take_more s i x within ∙ ap (λ y. take i s ++ y ∷ []) (sym e))) f
