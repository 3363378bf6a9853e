-- The statements of a script, line by line, and its steps.
use Rattle.std.proofs.Common.{◌≡◌, ◌+◌, ◌-◌, ◌<◌, ◌≤◌, ℕ, Bool, true, false, List, [], ◌∷◌, ◌++◌, length, take, drop, get_or, Some, None, ◌⊎◌, inl, inr, ◌==◌, refl, sym, ◌∙◌, ap, subst, append_assoc, append-nil, length-append, arith}
use Rattle.std.specs.Prelude.{slice_get, IfSome}
use Rattle.std.specs.List.{AllByRecursion}
use Rattle.std.proofs.lemmas.Bool.Decides.{Decides-eqb}
use Rattle.std.proofs.lemmas.List.{drop-drop, drop_all, drop_more, get_or-drop, length-drop, take-append-drop, take_all}
use Rattle.std.proofs.lemmas.Option.{slice_get_cases, slice_get_read}
use Rattle.mvs_model.specs.declared.line.Fault.{Fault}
use Rattle.mvs_model.specs.declared.line.Line.TheVariants as line
use Rattle.mvs_model.specs.Lines.{lines_of}
use Rattle.mvs_model.specs.Reading.{LineOf, FaultOf, is_empty}
use Rattle.mvs_job.proofs.LineEnd.{none_left}
use Rattle.schedules.specs.declared.script.ScheduleError.{ScheduleError}
use Rattle.schedules.specs.declared.script.ScheduleError.TheVariants as stop
use Rattle.schedules.specs.declared.search.StepSchedules.{StepSchedules}
use Rattle.schedules.specs.declared.step_line.StepLine.{StepLine}
use Rattle.schedules.specs.Scripts.{AddsLine, AreStepLines, AreSteps, HasFault, IsStepLine, IsStopped, IsStoppedAt, NoLine, Blank, Stated, Here, AfterBlank, AfterStatement}
use Rattle.schedules.specs.Searched.{IsSearched}

-- The lines up to a place of a script were read. The next one has this number.
pub record IsReadTo (script : List ℕ) (found : List StepLine) (number at : ℕ) : Type 0 where
  pub statements : (more : List StepLine) → AreStepLines (is_empty found) number (lines_of (drop at script)) more → AreStepLines true 1 (lines_of script) (found ++ more)
  pub fault : (n : ℕ) (fault : Fault) → HasFault (is_empty found) number (lines_of (drop at script)) n fault → HasFault true 1 (lines_of script) n fault

pub read_none : (script : List ℕ) → IsReadTo script [] 1 0
read_none script = record { statements = λ more h. h; fault = λ n f h. h }

-- the elements from a place on, as a slice has them
pub tail_is : {X : Type 0} (xs : List X) (i : ℕ) → take (length xs - i) (drop i xs) ≡ drop i xs
tail_is xs i = let long = length-drop i xs in take_all (length xs - i) (drop i xs) (omega (arith, long))

drop_both : {X : Type 0} (xs : List X) (i j : ℕ) → drop j (drop i xs) ≡ drop (i + j) xs
drop_both xs i j = drop-drop j i xs

untrue : (b : Bool) → (b ≡ true → ⊥) → b ≡ false
untrue true h = absurd (h refl)
untrue false h = refl

pub empty_test : (xs : List StepLine) → (length xs == 0) ≡ is_empty xs
empty_test [] = (Decides-eqb 0 0).1 refl
empty_test (x ∷ xs) = untrue (length (x ∷ xs) == 0) (λ e. let f : length (x ∷ xs) ≡ 0 = (Decides-eqb (length (x ∷ xs)) 0).0 e in omega (arith, f))

some_found : (found : List StepLine) (l : StepLine) → is_empty (found ++ l ∷ []) ≡ false
some_found [] l = refl
some_found (x ∷ found) l = refl

-- a step on
module _ (script rest : List ℕ) (found : List StepLine) (number at end : ℕ) (at_rest : rest ≡ drop at script) (cut : lines_of rest ≡ take end rest ∷ lines_of (drop (end + 1) rest)) where
  next_lines : lines_of (drop at script) ≡ take end rest ∷ lines_of (drop (at + (end + 1)) script)
  next_lines =
      let e : drop (end + 1) rest ≡ drop (at + (end + 1)) script = ap (drop (end + 1)) at_rest ∙ drop_both script at (end + 1) in
      ap lines_of (sym at_rest) ∙ cut ∙ ap (λ x. take end rest ∷ lines_of x) e

  pub read_blank : IsReadTo script found number at → LineOf (is_empty found) (take end rest) line.Nothing → IsReadTo script found (number + 1) (at + (end + 1))
  read_blank r says = record {
    statements = λ more h. r.statements more (subst (λ x. AreStepLines (is_empty found) number x more) (sym next_lines) (Blank (is_empty found) number (take end rest) (lines_of (drop (at + (end + 1)) script)) more says h));
    fault = λ n f h. r.fault n f (subst (λ x. HasFault (is_empty found) number x n f) (sym next_lines) (AfterBlank (is_empty found) number (take end rest) (lines_of (drop (at + (end + 1)) script)) n f says h));
  }

  pub read_stated : (l : StepLine) → IsReadTo script found number at → IsStepLine (is_empty found) number (take end rest) l → IsReadTo script (found ++ l ∷ []) (number + 1) (at + (end + 1))
  read_stated l r is = record {
    statements = λ more h.
        subst (AreStepLines true 1 (lines_of script)) (sym (append_assoc found (l ∷ []) more))
        (r.statements (l ∷ more) (subst (λ x. AreStepLines (is_empty found) number x (l ∷ more)) (sym next_lines)
        (Stated (is_empty found) number (take end rest) (lines_of (drop (at + (end + 1)) script)) l more is (subst (λ b. AreStepLines b (number + 1) (lines_of (drop (at + (end + 1)) script)) more) (some_found found l) h))));
    fault = λ n f h.
        r.fault n f (subst (λ x. HasFault (is_empty found) number x n f) (sym next_lines)
        (AfterStatement (is_empty found) number (take end rest) (lines_of (drop (at + (end + 1)) script)) l n f is (subst (λ b. HasFault b (number + 1) (lines_of (drop (at + (end + 1)) script)) n f) (some_found found l) h)));
  }

  pub read_fault : (f : Fault) → IsReadTo script found number at → FaultOf (is_empty found) (take end rest) f → HasFault true 1 (lines_of script) number f
  read_fault f r is = r.fault number f (subst (λ x. HasFault (is_empty found) number x number f) (sym next_lines) (Here (is_empty found) number (take end rest) (lines_of (drop (at + (end + 1)) script)) f is))

-- the first of some statements, after one more
pub first_stays : (P : StepLine → Type 0) (found : List StepLine) (l : StepLine) → IfSome (slice_get found 0) P → (is_empty found ≡ true → P l) → IfSome (slice_get (found ++ l ∷ []) 0) P
first_stays P [] l h p = p refl
first_stays P (x ∷ found) l h p = h

-- a line was added
module _ (script rest : List ℕ) (old new : List StepLine) (number at end : ℕ) (at_rest : rest ≡ drop at script) (cut : lines_of rest ≡ take end rest ∷ lines_of (drop (end + 1) rest)) where
  pub read_on : AddsLine number (take end rest) old new → IsReadTo script old number at → IsReadTo script new (number + 1) (at + (end + 1))
  read_on (inl h) r = subst (λ x. IsReadTo script x (number + 1) (at + (end + 1))) (sym h.1) (read_blank script rest old number at end at_rest cut r h.0)
  read_on (inr h) r = subst (λ x. IsReadTo script x (number + 1) (at + (end + 1))) (sym h.3) (read_stated script rest old number at end at_rest cut h.0 r h.1)

  pub read_stops : (error : ScheduleError) → IsStoppedAt (is_empty old) number (take end rest) error → IsReadTo script old number at → IsStopped script error
  read_stops stop.Memory h r = tt
  read_stops (stop.Fault n fault) h r = subst (λ m. HasFault true 1 (lines_of script) m fault) (sym h.0) (read_fault script rest old number at end at_rest cut fault r h.1)

pub first_on : (number : ℕ) (bytes : List ℕ) (old new : List StepLine) → AddsLine number bytes old new → IfSome (slice_get old 0) (λ x. x.is_region ≡ true) → IfSome (slice_get new 0) (λ x. x.is_region ≡ true)
first_on number bytes old new (inl h) s = subst (λ x. IfSome (slice_get x 0) (λ y. y.is_region ≡ true)) (sym h.1) s
first_on number bytes old new (inr h) s = subst (λ x. IfSome (slice_get x 0) (λ y. y.is_region ≡ true)) (sym h.3) (first_stays (λ y. y.is_region ≡ true) old h.0 s h.2)

pub count_on : (number : ℕ) (bytes : List ℕ) (old new : List StepLine) (at end : ℕ) → AddsLine number bytes old new → length old ≤ at → length new ≤ at + (end + 1)
count_on number bytes old new at end (inl h) s = let e : length new ≡ length old = ap length h.1 in omega (arith, e, s)
count_on number bytes old new at end (inr h) s = let e : length new ≡ length (old ++ h.0 ∷ []) = ap length h.3 in let l = length-append old (h.0 ∷ []) in omega (arith, e, l, s)

pub read_all : (script : List ℕ) (found : List StepLine) (number at : ℕ) → length script ≤ at → IsReadTo script found number at → AreStepLines true 1 (lines_of script) found
read_all script found number at h r =
    subst (AreStepLines true 1 (lines_of script)) (append-nil found)
    (r.statements [] (subst (λ x. AreStepLines (is_empty found) number x []) (sym (none_left script at h)) (NoLine (is_empty found) number)))

-- ---- steps

-- the element at a place after the first n
at_place : (P : StepLine → Type 0) (xs : List StepLine) (n i j : ℕ) → j ≡ n + i → IfSome (slice_get (drop n xs) i) P
    → ((x : StepLine) × (j < length xs) × (slice_get xs j ≡ Some x) × (get_or xs j x ≡ x)) ⊎ ((length xs ≤ j) × (slice_get xs j ≡ None)) → IfSome (slice_get xs j) P
at_place P xs n i j e h (inl f) =
    let long = length-drop n xs in
    let within = f.1 in
    let same : f.0 ≡ get_or (drop n xs) i f.0 = sym f.3 ∙ ap (λ m. get_or xs m f.0) e ∙ sym (get_or-drop n xs i f.0) in
    let is : slice_get (drop n xs) i ≡ Some f.0 = slice_get_read (drop n xs) (length (drop n xs)) i f.0 refl (omega (arith, long, within, e)) same in
    subst (λ o. IfSome o P) (sym f.2) (subst (λ o. IfSome o P) is h)
at_place P xs n i j e h (inr f) = subst (λ o. IfSome o P) (sym f.1) tt

pub some_at_place : (P : StepLine → Type 0) (xs : List StepLine) (n i j : ℕ) → j ≡ n + i → IfSome (slice_get (drop n xs) i) P → IfSome (slice_get xs j) P
some_at_place P xs n i j e h = at_place P xs n i j e h (slice_get_cases xs j).1

pub holds_at : (P : StepLine → Type 0) (xs : List StepLine) (i : ℕ) (x : StepLine) → i < length xs → x ≡ get_or xs i x → IfSome (slice_get xs i) P → P x
holds_at P xs i x within e h = subst (λ o. IfSome o P) (slice_get_read xs (length xs) i x refl within e) h

-- the lines from a place on: that at the place, some of the next, and the others
step_cut : (lines : List StepLine) (at end : ℕ) (region : StepLine) → at < length lines → region ≡ get_or lines at region → drop at lines ≡ region ∷ take end (drop (at + 1) lines) ++ drop (at + (end + 1)) lines
step_cut lines at end region within e =
    let first : drop at lines ≡ get_or lines at region ∷ drop (at + 1) lines = drop_more lines at region within in
    let rest : drop end (drop (at + 1) lines) ≡ drop (at + (end + 1)) lines = drop_both lines (at + 1) end ∙ ap (λ n. drop n lines) (omega arith) in
    first ∙ ap (λ x. x ∷ drop (at + 1) lines) (sym e) ∙ ap (λ x. region ∷ x) (sym (take-append-drop end (drop (at + 1) lines)) ∙ ap (λ x. take end (drop (at + 1) lines) ++ x) rest)

-- one more step
steps_on : (most : ℕ) (lines : List StepLine) (steps : List StepSchedules) (at end : ℕ) (region : StepLine) (own : List StepLine) (step : StepSchedules) → drop at lines ≡ region ∷ own ++ drop (at + (end + 1)) lines → region.is_region ≡ true → AllByRecursion (λ l. l.is_region ≡ false) own → IsSearched region own most step
    → ((more : List StepSchedules) → AreSteps most (drop at lines) more → AreSteps most lines (steps ++ more))
    → (more : List StepSchedules) → AreSteps most (drop (at + (end + 1)) lines) more → AreSteps most lines ((steps ++ step ∷ []) ++ more)
steps_on most lines steps at end region own step cut is none searched before more h =
    subst (AreSteps most lines) (sym (append_assoc steps (step ∷ []) more)) (before (step ∷ more) (region, own, drop (at + (end + 1)) lines, cut, is, none, searched, h))

-- the same with the others as a slice
pub steps_next : (most : ℕ) (lines : List StepLine) (steps : List StepSchedules) (at end : ℕ) (region : StepLine) (others : List StepLine) (step : StepSchedules) → at < length lines → region ≡ get_or lines at region → others ≡ drop (at + 1) lines
    → IfSome (slice_get lines at) (λ l. l.is_region ≡ true) → AllByRecursion (λ l. l.is_region ≡ false) (take end others) → IsSearched region (take end others) most step
    → ((more : List StepSchedules) → AreSteps most (drop at lines) more → AreSteps most lines (steps ++ more))
    → (more : List StepSchedules) → AreSteps most (drop (at + (end + 1)) lines) more → AreSteps most lines ((steps ++ step ∷ []) ++ more)
steps_next most lines steps at end region others step within is rest begins none searched before =
    steps_on most lines steps at end region (take end others) step
    (step_cut lines at end region within is ∙ ap (λ x. region ∷ take end x ++ drop (at + (end + 1)) lines) (sym rest))
    (holds_at (λ l. l.is_region ≡ true) lines at region within is begins) none searched before

pub steps_all : (most : ℕ) (lines : List StepLine) (steps : List StepSchedules) (at : ℕ) → length lines ≤ at → ((more : List StepSchedules) → AreSteps most (drop at lines) more → AreSteps most lines (steps ++ more)) → AreSteps most lines steps
steps_all most lines steps at h before = subst (AreSteps most lines) (append-nil steps) (before [] (drop_all at lines h))
