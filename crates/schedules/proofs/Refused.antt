-- Orders that no schedule has, and why.
use Rattle.std.proofs.Common.{◌≡◌, ◌+◌, ◌<◌, ◌≤◌, ℕ, zero, suc, Bool, true, false, ◌||◌, ◌&&◌, ◌==◌, List, [], ◌∷◌, ◌++◌, map, length, take, drop, get_or, Some, refl, sym, ◌∙◌, ap, subst, append_assoc, append-nil, length-append, arith, inl, inr, not, None, Option, ◌⊎◌, ◌-◌}
use Rattle.std.specs.Prelude.{◌≢◌, IfSome, slice_get, slice_index}
use Rattle.std.specs.List.{AllByRecursion, list_any, range_with_len}
use Rattle.std.proofs.lemmas.Bool.{and_from, and_parts, cases_eq, false_from_ne_true, or_cases}
use Rattle.std.proofs.lemmas.Bool.Decides.{Decides-eqb}
use Rattle.std.proofs.lemmas.List.{drop_more, drop_all, get_or-append_right, length-map, take-append-drop, take-append-le, take-take, take_all, take_more}
use Rattle.std.proofs.lemmas.List.Folds.{Any-from_list_any, list_any-append, list_any_at}
use Rattle.std.proofs.lemmas.Option.{slice_get_read}
use Rattle.mvs_model.specs.Job.{JobValue}
use Rattle.mvs_model.specs.Lines.{lines_of}
use Rattle.mvs_job.specs.declared.walk.LineEvent.{LineEvent}
use Rattle.mvs_job.specs.LineEvents.{ServesAs, WalkValue, new_walk}
use Rattle.schedules.specs.declared.step_line.StepLine.{StepLine}
use Rattle.schedules.specs.Answered.{AnsweredValue, Schedule, order_of}
use Rattle.schedules.specs.Next.{can_run, is_of, is_task_active, line_can_run, number_of, some_can_run, unreached}
use Rattle.schedules.specs.Orders.{RunsNumber}
use Rattle.schedules.specs.declared.order.OrderError.{OrderError}
use Rattle.schedules.specs.declared.order.OrderError.TheVariants as error
use Rattle.schedules.specs.Refusals.{HasNoSchedule, HaveRun, IsReason, IsReasonAt, IsRefusal, IsRefusedFrom, IsRefused, IsRefusedIn, IsRefusedInStep, IsStepRefusal, IsUnreached, IsUnreachedAt, NoneYet, NoneRuns, OneMore, has, is_left, is_line_active, is_numbered, numbers_of, runs_as}
use Rattle.schedules.specs.Schedules.{IsSchedule, Continues, Ends, Runs}
use Rattle.schedules.specs.Scripts.{AreStepLines}
use Rattle.schedules.specs.Searched.{positions}
use Rattle.schedules.proofs.Tallied.{no_left, no_right, or_left, or_right}

-- ---- no schedule has the others in this order

line_of : (lines : List StepLine) (w later : WalkValue) (k : ℕ) (a : AnsweredValue) → Runs lines w k a later → a.line ≡ number_of (slice_get lines k)
line_of lines w later k a r = ap (λ (x : AnsweredValue). x.line) r.2.answer ∙ ap number_of (sym r.1)

pub none_without_number : (lines : List StepLine) (w : WalkValue) (left : List ℕ) → some_can_run lines w.step [] left ≡ true → HasNoSchedule lines w left []
none_without_number lines w left can s (Ends v l cannot) e = absurd (let f : true ≡ false = sym can ∙ cannot in cc)
none_without_number lines w left can s (Continues v before k l a later schedule c r is) e = absurd (let f : a.line ∷ order_of schedule ≡ [] = e in cc)

place_in : (before left : List ℕ) (k : ℕ) → (take (length before) (before ++ k ∷ left) ≡ before) × (slice_index (before ++ k ∷ left) (length before) ≡ k)
place_in before left k = (
  take-append-le (length before) before (k ∷ left) (omega arith) ∙ take_all (length before) before (omega arith),
  get_or-append_right before (k ∷ left) (length before) (length before) 0 refl (omega arith) ∙ ap (λ i. get_or (k ∷ left) i 0) (let z : length before - length before ≡ 0 = omega arith in z),
)

pub none_with_number : (lines : List StepLine) (w : WalkValue) (left : List ℕ) (n : ℕ) (rest : List ℕ) → some_can_run lines w.step [] left ≡ true → NoneRuns lines w.step left n → HasNoSchedule lines w left (n ∷ rest)
none_with_number lines w left n rest can none s (Ends v l cannot) e = absurd (let f : true ≡ false = sym can ∙ cannot in cc)
none_with_number lines w left n rest can none s (Continues v before k l a later schedule c r is) e =
    let first : a.line ≡ n = (let f : a.line ∷ order_of schedule ≡ n ∷ rest = e in cc) in
    let number : (number_of (slice_get lines k) == n) ≡ true = (Decides-eqb (number_of (slice_get lines k)) n).1 (sym (line_of lines v later k a r) ∙ first) in
    let place = place_in before l k in
    let long = length-append before (k ∷ l) in
    let cannot = none (length before) (omega (arith, long)) in
    let own : runs_as lines v.step before k n ≡ false = sym (ap (λ x. runs_as lines v.step x k n) place.0) ∙ sym (ap (λ x. runs_as lines v.step (take (length before) (before ++ k ∷ l)) x n) place.1) ∙ cannot in
    absurd (let f : true ≡ false = sym (and_from (number_of (slice_get lines k) == n) (can_run lines v.step before k) number c) ∙ own in cc)

cannot_at : (lines : List StepLine) (w : WalkValue) (front before : List ℕ) (k : ℕ) (left : List ℕ) → some_can_run lines w.step front (before ++ k ∷ left) ≡ false → can_run lines w.step (front ++ before) k ≡ false
cannot_at lines w front [] k left h = ap (λ x. can_run lines w.step x k) (append-nil front) ∙ no_left (can_run lines w.step front k) (some_can_run lines w.step (front ++ k ∷ []) left) h
cannot_at lines w front (j ∷ before) k left h =
    sym (ap (λ x. can_run lines w.step x k) (append_assoc front (j ∷ []) before))
    ∙ cannot_at lines w (front ++ j ∷ []) before k left (no_right (can_run lines w.step front j) (some_can_run lines w.step (front ++ j ∷ []) (before ++ k ∷ left)) h)

order_unreached : (lines : List StepLine) (left : List ℕ) → order_of (unreached lines left) ≡ numbers_of lines left
order_unreached lines [] = refl
order_unreached lines (k ∷ left) = ap (λ x. number_of (slice_get lines k) ∷ x) (order_unreached lines left)

pub none_but_unreached : (lines : List StepLine) (w : WalkValue) (left rest : List ℕ) → some_can_run lines w.step [] left ≡ false → rest ≢ numbers_of lines left → HasNoSchedule lines w left rest
none_but_unreached lines w left rest cannot differs s (Ends v l h) e = differs (sym e ∙ order_unreached lines l)
none_but_unreached lines w left rest cannot differs s (Continues v before k l a later schedule c r is) e = absurd (let f : true ≡ false = sym c ∙ cannot_at lines v [] before k l cannot in cc)

-- ---- each statement of the step has run or is left

any_cut : {X : Type 0} (p : X → Bool) (xs : List X) (i : ℕ) (d : X) → i < length xs → list_any p xs ≡ (list_any p (take i xs) || (p (get_or xs i d) || list_any p (drop (i + 1) xs)))
any_cut p xs i d within = ap (list_any p) (sym (take-append-drop i xs)) ∙ list_any-append p (take i xs) (drop i xs) ∙ ap (λ r. list_any p (take i xs) || list_any p r) (drop_more xs i d within)

moved : (a b c d e : Bool) → ((a || (b || c)) || d) ≡ true → (b ≡ true → e ≡ true) → ((a || c) || (d || (e || false))) ≡ true
moved true b c d e h f = refl
moved false b true d e h f = refl
moved false b false true e h f = refl
moved false true false false e h f = ap (λ x. x || false) (f refl)
moved false false false false e h f = absurd (let g : false ≡ true = h in cc)

cover_next : (lines : List StepLine) (w later : WalkValue) (left rest numbers : List ℕ) (n k : ℕ) → RunsNumber lines w left n later rest → (has left k || has numbers (number_of (slice_get lines k))) ≡ true → (has rest k || has (numbers ++ n ∷ []) (number_of (slice_get lines k))) ≡ true
cover_next lines w later left rest numbers n k r h =
    let is_k : ℕ → Bool = λ m. m == k in
    let m = number_of (slice_get lines k) in
    let is_m : ℕ → Bool = λ x. x == m in
    let i = r.at in
    let x = slice_index left i in
    let cut = any_cut is_k left i 0 r.within in
    let others : has rest k ≡ (has (take i left) k || has (drop (i + 1) left) k) = ap (λ x. has x k) r.rest_is ∙ list_any-append is_k (take i left) (drop (i + 1) left) in
    let last : has (numbers ++ n ∷ []) m ≡ (has numbers m || ((n == m) || false)) = list_any-append is_m numbers (n ∷ []) in
    ap (λ b. b || has (numbers ++ n ∷ []) m) others ∙ ap (λ b. (has (take i left) k || has (drop (i + 1) left) k) || b) last
    ∙ moved (has (take i left) k) (x == k) (has (drop (i + 1) left) k) (has numbers m) (n == m) (sym (ap (λ b. b || has numbers m) cut) ∙ h)
    (λ e.
    let same : x ≡ k = (Decides-eqb x k).0 e in
    (Decides-eqb n m).1 (sym r.number_is ∙ ap (λ p. number_of (slice_get lines p)) same))

covered : (lines : List StepLine) (start : WalkValue) (all numbers : List ℕ) (w : WalkValue) (left : List ℕ) → HaveRun lines start all numbers w left → (k : ℕ) → has all k ≡ true → (has left k || has numbers (number_of (slice_get lines k))) ≡ true
covered lines start all numbers w left NoneYet k h = or_left (has all k) false h
covered lines start all numbers w left (OneMore before v l n later rest run r) k h = cover_next lines v later l rest before n k r (covered lines start all before v l run k h)

in_range_at : (a n k : ℕ) → (a ≡ k) ⊎ (a ≡ k → ⊥) → a ≤ k → (a + 1 ≤ k → has (range_with_len (a + 1) n) k ≡ true) → has (range_with_len a (suc n)) k ≡ true
in_range_at a n k (inl e) h rest = or_left (a == k) (has (range_with_len (a + 1) n) k) ((Decides-eqb a k).1 e)
in_range_at a n k (inr e) h rest = or_right (a == k) (has (range_with_len (a + 1) n) k) (rest (omega (arith, h, e)))

in_range : (a n k : ℕ) → a ≤ k → k < a + n → has (range_with_len a n) k ≡ true
in_range a zero k h g = absurd (let f : k < a + 0 = g in omega (arith, h, f))
in_range a (suc n) k h g = in_range_at a n k (cases_eq a k) h (λ m. in_range (a + 1) n k m (omega (arith, g)))

number_left_at : (lines : List StepLine) (j : ℕ) (left : List ℕ) (k : ℕ) → ((j == k) ≡ true) ⊎ (has left k ≡ true) → (has left k ≡ true → is_left lines left (number_of (slice_get lines k)) ≡ true) → is_left lines (j ∷ left) (number_of (slice_get lines k)) ≡ true
number_left_at lines j left k (inl e) rest =
    or_left (number_of (slice_get lines j) == number_of (slice_get lines k)) (is_left lines left (number_of (slice_get lines k)))
    ((Decides-eqb (number_of (slice_get lines j)) (number_of (slice_get lines k))).1 (ap (λ i. number_of (slice_get lines i)) ((Decides-eqb j k).0 e)))
number_left_at lines j left k (inr e) rest = or_right (number_of (slice_get lines j) == number_of (slice_get lines k)) (is_left lines left (number_of (slice_get lines k))) (rest e)

number_left : (lines : List StepLine) (left : List ℕ) (k : ℕ) → has left k ≡ true → is_left lines left (number_of (slice_get lines k)) ≡ true
number_left lines [] k h = absurd (let f : false ≡ true = h in cc)
number_left lines (j ∷ left) k h = number_left_at lines j left k (or_cases (j == k) (has left k) h) (number_left lines left k)

-- A number that has not run and is not left is that of no statement of the step.
pub foreign : (lines : List StepLine) (start : WalkValue) (numbers : List ℕ) (w : WalkValue) (left : List ℕ) (n : ℕ) → HaveRun lines start (positions lines) numbers w left → has numbers n ≡ false → is_left lines left n ≡ false → list_any (is_numbered n) lines ≡ false
foreign lines start numbers w left n run early late =
    false_from_ne_true (list_any (is_numbered n) lines)
    (λ e.
    let a = Any-from_list_any (is_numbered n) lines e in
    let k = a.0 in
    let l = a.1 in
    let found : slice_get lines k ≡ Some l = slice_get_read lines (length lines) k l refl a.2 (sym a.3) in
    let number : number_of (slice_get lines k) ≡ n = ap number_of found ∙ (Decides-eqb l.number n).0 a.4 in
    let c = covered lines start (positions lines) numbers w left run k (in_range 0 (length lines) k (omega arith) (omega (arith, a.2))) in
    let none : (has left k || has numbers n) ≡ true = subst (λ m. (has left k || has numbers m) ≡ true) number c in
    either_way (has left k) (has numbers n) none
    (λ h. let f : true ≡ false = sym (subst (λ m. is_left lines left m ≡ true) number (number_left lines left k h)) ∙ late in absurd cc)
    (λ h. let f : true ≡ false = sym h ∙ early in absurd cc)) where
      either_way : (a b : Bool) → (a || b) ≡ true → (a ≡ true → ⊥) → (b ≡ true → ⊥) → ⊥
      either_way true b h f g = f refl
      either_way false b h f g = g h

-- ---- reasons

prefix_has : (order : List ℕ) (from at n : ℕ) → from ≤ at → has (take at order) n ≡ false → has (take from order) n ≡ false
prefix_has order from at n h none =
    let p : ℕ → Bool = λ m. m == n in
    no_left (list_any p (take from order)) (list_any p (drop from (take at order)))
    (sym (list_any-append p (take from order) (drop from (take at order))) ∙ sym (ap (λ x. list_any p (x ++ drop from (take at order))) (take-take from at order h)) ∙ ap (list_any p) (take-append-drop from (take at order)) ∙ none)

there : (order : List ℕ) (at n : ℕ) → slice_get order at ≡ Some n → has order n ≡ true
there [] at n is = absurd (let e : None ≡ Some n = is in cc)
there (m ∷ order) zero n is = or_left (m == n) (has order n) ((Decides-eqb m n).1 (let e : Some m ≡ Some n = is in cc))
there (m ∷ order) (suc at) n is = or_right (m == n) (has order n) (there order at n is)

module _ (lines : List StepLine) (start : WalkValue) (w : WalkValue) (left order : List ℕ) (from : ℕ) (run : HaveRun lines start (positions lines) (take from order) w left) where
  foreign_at : (at n : ℕ) → from ≤ at → slice_get order at ≡ Some n → has (take at order) n ≡ false → is_left lines left n ≡ false → IsReason lines w left order (error.Foreign n)
  foreign_at at n h is early late = (there order at n is, foreign lines start (take from order) w left n run (prefix_has order from at n h early) late)

  pub reason_here : (why : OrderError) → IsReasonAt lines w left order from why → IsReason lines w left order why
  reason_here error.Memory r = r
  reason_here (error.Fault n fault) r = r
  reason_here error.Malformed r = r
  reason_here error.Empty r = r
  reason_here (error.NoRegion n) r = r
  reason_here (error.Missing n) r = absurd r
  reason_here (error.Twice n) r = (from, r.0, r.1)
  reason_here (error.Foreign n) r = foreign_at from n (omega arith) r.0 r.1 r.2
  reason_here (error.OutOfTurn n earlier) r = r
  reason_here (error.NotActive n) r = r
  reason_here (error.NotReached n) r = absurd r

  pub reason_unreached : (at : ℕ) (why : OrderError) → from ≤ at → some_can_run lines w.step [] left ≡ false → IsUnreachedAt lines left order at why → IsReason lines w left order why
  reason_unreached at error.Memory h cannot r = r
  reason_unreached at (error.Fault n fault) h cannot r = r
  reason_unreached at error.Malformed h cannot r = r
  reason_unreached at error.Empty h cannot r = r
  reason_unreached at (error.NoRegion n) h cannot r = r
  reason_unreached at (error.Missing n) h cannot r = r
  reason_unreached at (error.Twice n) h cannot r = (at, r.0, r.1)
  reason_unreached at (error.Foreign n) h cannot r = foreign_at at n h r.0 r.1 r.2
  reason_unreached at (error.OutOfTurn n earlier) h cannot r = absurd r
  reason_unreached at (error.NotActive n) h cannot r = absurd r
  reason_unreached at (error.NotReached n) h cannot r = (r, cannot)

  -- the order ends, and a statement can run
  pub refused_short : (n : ℕ) → length order ≤ from → some_can_run lines w.step [] left ≡ true → is_left lines left n ≡ true → IsRefusedFrom lines start (positions lines) order (error.Missing n)
  refused_short n short can is = record {
    numbers = take from order;
    rest = drop from order;
    w = w;
    left = left;
    run = run;
    order_is = sym (take-append-drop from order);
    none = subst (HasNoSchedule lines w left) (sym (drop_all from order short)) (none_without_number lines w left can);
    reason = is;
  }

  -- the statement with the next number cannot run
  pub refused_next : (n : ℕ) (why : OrderError) → from < length order → n ≡ get_or order from 0 → some_can_run lines w.step [] left ≡ true → NoneRuns lines w.step left n → IsReasonAt lines w left order from why → IsRefusedFrom lines start (positions lines) order why
  refused_next n why within is can none reason = record {
    numbers = take from order;
    rest = drop from order;
    w = w;
    left = left;
    run = run;
    order_is = sym (take-append-drop from order);
    none = subst (HasNoSchedule lines w left) (sym (drop_more order from 0 within ∙ ap (λ m. m ∷ drop (from + 1) order) (sym is))) (none_with_number lines w left n (drop (from + 1) order) can none);
    reason = reason_here why reason;
  }

  -- no statement can run, and the others differ
  pub refused_rest : (why : OrderError) → some_can_run lines w.step [] left ≡ false → IsUnreached lines left order from why → IsRefusedFrom lines start (positions lines) order why
  refused_rest why cannot u = record {
    numbers = take from order;
    rest = drop from order;
    w = w;
    left = left;
    run = run;
    order_is = sym (take-append-drop from order);
    none = none_but_unreached lines w left (drop from order) cannot u.differs;
    reason = reason_unreached u.at why u.after cannot u.reason;
  }

-- one more statement has run
pub run_more : (lines : List StepLine) (start : WalkValue) (all order : List ℕ) (i n : ℕ) (w later : WalkValue) (left rest : List ℕ) → i < length order → n ≡ get_or order i 0 → HaveRun lines start all (take i order) w left → RunsNumber lines w left n later rest → HaveRun lines start all (take (i + 1) order) later rest
run_more lines start all order i n w later left rest within is run r =
    subst (λ x. HaveRun lines start all x later rest) (sym (take_more order i 0 within ∙ ap (λ m. take i order ++ m ∷ []) (sym is))) (OneMore (take i order) w left n later rest run r)

pub refusal : (lines : List StepLine) (start : WalkValue) (order : List ℕ) (why : OrderError) → IsRefusedFrom lines start (positions lines) order why → IsRefusal lines start order why
refusal lines start order error.Memory r = tt
refusal lines start order (error.Fault n fault) r = r
refusal lines start order error.Malformed r = r
refusal lines start order error.Empty r = r
refusal lines start order (error.NoRegion n) r = r
refusal lines start order (error.Foreign n) r = r
refusal lines start order (error.Twice n) r = r
refusal lines start order (error.Missing n) r = r
refusal lines start order (error.OutOfTurn n earlier) r = r
refusal lines start order (error.NotActive n) r = r
refusal lines start order (error.NotReached n) r = r

-- in a step
module _ (region : StepLine) (own : List StepLine) (order : List ℕ) (line_event : LineEvent) (start : WalkValue) (begins : ServesAs new_walk region.bytes.items line_event start) where
  refused_in : (why : OrderError) → IsRefusedFrom own start (positions own) order why → IsRefusedIn region own (region.number ∷ order) why
  refused_in why r = record {
    line_event = line_event;
    start = start;
    others = order;
    begins = begins;
    numbers = refl;
    refused = r;
  }

  pub step_refusal : (why : OrderError) → IsRefusal own start order why → IsStepRefusal region own (region.number ∷ order) why
  step_refusal error.Memory r = tt
  step_refusal (error.Fault n fault) r = refused_in (error.Fault n fault) r
  step_refusal error.Malformed r = refused_in error.Malformed r
  step_refusal error.Empty r = refused_in error.Empty r
  step_refusal (error.NoRegion n) r = refused_in (error.NoRegion n) r
  step_refusal (error.Foreign n) r = refused_in (error.Foreign n) r
  step_refusal (error.Twice n) r = refused_in (error.Twice n) r
  step_refusal (error.Missing n) r = refused_in (error.Missing n) r
  step_refusal (error.OutOfTurn n earlier) r = refused_in (error.OutOfTurn n earlier) r
  step_refusal (error.NotActive n) r = refused_in (error.NotActive n) r
  step_refusal (error.NotReached n) r = refused_in (error.NotReached n) r

-- ---- the numbers of the statements that are not reached

numbers_at : (lines : List StepLine) (left : List ℕ) (at : ℕ) → at < length left → get_or (numbers_of lines left) at 0 ≡ number_of (slice_get lines (slice_index left at))
numbers_at lines [] at within = absurd (let h : at < 0 = within in omega (arith, h))
numbers_at lines (k ∷ left) zero within = refl
numbers_at lines (k ∷ left) (suc at) within = numbers_at lines left at (omega (arith, within))

pub left_at : (lines : List StepLine) (left : List ℕ) (at : ℕ) → at < length left → is_left lines left (number_of (slice_get lines (slice_index left at))) ≡ true
left_at lines left at within =
    let n = number_of (slice_get lines (slice_index left at)) in
    list_any_at (λ k. number_of (slice_get lines k) == n) left at 0 within ((Decides-eqb n n).1 refl)

pub other_length : (lines : List StepLine) (left rest : List ℕ) → (length rest ≡ length left → ⊥) → rest ≢ numbers_of lines left
other_length lines left rest h e = h (ap length e ∙ length-map left (λ k. number_of (slice_get lines k)))

pub other_number : (lines : List StepLine) (left rest : List ℕ) (at next : ℕ) → at < length left → next ≡ get_or rest at 0 → (next ≡ number_of (slice_get lines (slice_index left at)) → ⊥) → rest ≢ numbers_of lines left
other_number lines left rest at next within is h e = h (is ∙ ap (λ x. get_or x at 0) e ∙ numbers_at lines left at within)

-- ---- why a statement cannot run

pub some_at : (xs : List ℕ) (i : ℕ) → i < length xs → slice_get xs i ≡ Some (get_or xs i 0)
some_at [] i within = absurd (let h : i < 0 = within in omega (arith, h))
some_at (x ∷ xs) zero within = refl
some_at (x ∷ xs) (suc i) within = some_at xs i (omega (arith, within))

pub inactive : (lines : List StepLine) (step : Option JobValue) (before : List ℕ) (k n : ℕ) (l : StepLine) → slice_get lines k ≡ Some l → number_of (slice_get lines k) ≡ n → runs_as lines step before k n ≡ false → list_any (is_of lines l.task) before ≡ false → is_line_active step (slice_get lines k) ≡ false
inactive lines step before k n l found number cannot none =
    ap (is_line_active step) found
    ∙ false_from_ne_true (is_task_active step l.task)
    (λ active.
    let can : can_run lines step before k ≡ true = ap (line_can_run lines step before) found ∙ and_from (is_task_active step l.task) (not (list_any (is_of lines l.task) before)) active (ap not none) in
    let runs : runs_as lines step before k n ≡ true = and_from (number_of (slice_get lines k) == n) (can_run lines step before k) ((Decides-eqb (number_of (slice_get lines k)) n).1 number) can in
    absurd (let f : true ≡ false = sym runs ∙ cannot in cc))

-- ---- in a script

get_drop : (xs : List StepLine) (n : ℕ) → slice_get (drop n xs) 0 ≡ slice_get xs n
get_drop [] zero = refl
get_drop [] (suc n) = refl
get_drop (x ∷ xs) zero = refl
get_drop (x ∷ xs) (suc n) = get_drop xs n

pub ends_at : (xs : List StepLine) (n : ℕ) → IfSome (slice_get xs n) (λ l. l.is_region ≡ true) → IfSome (slice_get (drop n xs) 0) (λ l. l.is_region ≡ true)
ends_at xs n h = subst (λ o. IfSome o (λ l. l.is_region ≡ true)) (sym (get_drop xs n)) h

pub first_is : (order : List ℕ) (first : ℕ) → 0 < length order → first ≡ get_or order 0 0 → first ∷ drop 1 order ≡ order
first_is [] first within is = absurd (let h : 0 < 0 = within in omega (arith, h))
first_is (n ∷ order) first within is = ap (λ m. m ∷ order) is

module _ (script order : List ℕ) (before own others : List StepLine) (region : StepLine) (statements : AreStepLines true 1 (lines_of script) (before ++ region ∷ own ++ others)) (begins : region.is_region ≡ true)
    (inside : AllByRecursion (λ l. l.is_region ≡ false) own) (ends : IfSome (slice_get others 0) (λ l. l.is_region ≡ true))
  where
    refused_step : (why : OrderError) → IsRefusedIn region own order why → IsRefusedInStep script order why
    refused_step why r = record {
      before = before;
      region = region;
      own = own;
      others = others;
      statements = statements;
      begins = begins;
      inside = inside;
      ends = ends;
      refused = r;
    }

    pub script_refusal : (why : OrderError) → IsStepRefusal region own order why → IsRefused script order why
    script_refusal error.Memory r = tt
    script_refusal (error.Fault n fault) r = absurd r.refused.reason
    script_refusal error.Malformed r = absurd r.refused.reason
    script_refusal error.Empty r = absurd r.refused.reason
    script_refusal (error.NoRegion n) r = absurd r.refused.reason
    script_refusal (error.Foreign n) r = refused_step (error.Foreign n) r
    script_refusal (error.Twice n) r = refused_step (error.Twice n) r
    script_refusal (error.Missing n) r = refused_step (error.Missing n) r
    script_refusal (error.OutOfTurn n earlier) r = refused_step (error.OutOfTurn n earlier) r
    script_refusal (error.NotActive n) r = refused_step (error.NotActive n) r
    script_refusal (error.NotReached n) r = refused_step (error.NotReached n) r
