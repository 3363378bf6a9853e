-- What lines decide of a text that a run may print.
use Rattle.std.proofs.Common.{Decides as Tests, eqb, ◌≡◌, ℕ, ◌+◌, ◌<◌, ◌⊎◌, inl, inr, Bool, false, List, [], ◌∷◌, ◌++◌, length, drop, take, ◌≤◌, ◌-◌, ◌&&◌, true, codes, decimal, Option, Some, None, append_assoc, append-nil, length-append, length-drop, arith, refl, sym, ap, ◌∙◌, subst}
use Rattle.std.specs.Prelude.{◌^◌, MatchOption, not}
use Rattle.std.proofs.Math.Seq.{drop-append-add, drop-append_seam, take-add, take-append_seam}
use Rattle.std.proofs.lemmas.Bool.Decides.{nat_tests}
use Rattle.std.proofs.lemmas.Grind.{common_steps}
use Rattle.std.proofs.lemmas.List.{append_cancel_left, drop_all, drop-drop, take-append-drop}
use Rattle.mvs_model.specs.declared.name.Name.{Name}
use Rattle.mvs_model.specs.declared.code.Form.{Form}
use Rattle.mvs_model.specs.declared.line.Fault.{Fault}
use Rattle.mvs_model.specs.declared.line.Line.{Line}
use Rattle.mvs_model.specs.declared.line.Line.TheVariants as line
use Rattle.mvs_model.specs.declared.line.Statement.TheVariants as says
use Rattle.mvs_model.specs.declared.line.SourceRequest.TheVariants as written
use Rattle.mvs_model.specs.declared.outcome.Outcome.{Outcome}
use Rattle.mvs_model.specs.declared.outcome.Outcome.TheVariants.{ScriptFault}
use Rattle.mvs_model.specs.Answers.{Answer, Event, Faulted, AnswerTo, At}
use Rattle.mvs_model.specs.Name.{trimmed}
use Rattle.mvs_model.specs.Job.{JobValue}
use Rattle.mvs_model.specs.Card.{CardValue, IsCard}
use Rattle.mvs_model.specs.Lines.{lines_of}
use Rattle.mvs_model.specs.Start.{start}
use Rattle.std.specs.List.{list_all}
use Rattle.mvs_model.specs.Reading.{LineOf, FaultOf, hex_number, is_hex_digit, line_meaning}
use Rattle.mvs_laws.specs.Going.{Reaches}
use Rattle.mvs_model.specs.Runs.{Any, Condition, IsPrinting, machine, job_machine}
use Rattle.mvs_model.specs.Texts.{answer_text, printing, reply_line, one_line_text, hex}
use Rattle.mvs_model.specs.View.{IsBounded}
use Rattle.mvs_model.specs.Walk.{Arrives, Closes, Serves, ServesLine, Faults, is_first}
use Rattle.mvs_model.specs.Want.{AskValue, IsAsk}
use Rattle.mvs_laws.proofs.Going.{line_keeps, printed_both, reaches_then}
use Rattle.mvs_laws.proofs.Walking.{leads_then}
use Rattle.mvs_laws.proofs.Kept.{Closed}
use Rattle.mvs_model.proofs.OneSteps.{head_of, tail_of}
use Rattle.mvs_model.proofs.Reading.{one_reading}
use Rattle.mvs_model.proofs.ReadingRanges.{line_ranged}
use Rattle.mvs_model.proofs.ValueTexts.{hex_writes}
use Rattle.request_forms.specs.Taking.{Takes}
use Rattle.mvs_job.specs.declared.walk.LineEvent.{LineEvent}
use Rattle.mvs_job.specs.declared.walk.LineEvent.TheVariants as tells
use Rattle.mvs_model.proofs.Tests.{false_true}
use Rattle.mvs_job.specs.LineEvents.{ServesAsUnder, WalkValue, closing, events_of_line, new_walk}
use Rattle.mvs_job.proofs.Serving.{serves_unconditionally}
use Rattle.judge.specs.Judging.{GrantsAreShownBefore, GrantIsShown, IsNoPrinting, IsOpen, IsOpenAt, IsQuestion, leaves_open}
use Rattle.judge.specs.Deciding.{Decides, DecidesBefore, DecidesFirst, InBounds, IsFoundFirst, LeavesFirst, IsClosed, IsFollowed, IsGrant, IsSameJob, IsServed, MayPrint, PrintsEnd, HasReached, end_at, no_bytes}
use Rattle.judge.proofs.Settled.{serves_same}
use Rattle.judge.proofs.Areas.{Apart, asked, located}

-- ---- texts

pub same_fronts : (xs ys u v : List ℕ) → length xs ≡ length ys → xs ++ u ≡ ys ++ v → xs ≡ ys
same_fronts [] [] u v l e = refl
same_fronts [] (y ∷ ys) u v l e = absurd (omega (arith, l))
same_fronts (x ∷ xs) [] u v l e = absurd (omega (arith, l))
same_fronts (x ∷ xs) (y ∷ ys) u v l e = let rest = same_fronts xs ys u v (omega (arith, l)) (ap tail_of e) in let here = ap head_of e in λ i. here i ∷ rest i

-- two bytes are compared
pub same_test : (a b : ℕ) → Tests (eqb a b) (a ≡ b)
same_test a b = grind (arith, nat_tests)

-- the line that tells an address, in three parts
abbrev before_at : ℕ → Name → List ℕ
before_at number t = decimal number ++ codes " " ++ trimmed t ++ codes " " ++ codes "AT "

at_parts : (number : ℕ) (t : Name) (n : ℕ) (rest : List ℕ) → reply_line number t (one_line_text (At n)) ++ rest ≡ before_at number t ++ (hex 8 n ++ (codes "\n" ++ rest))
at_parts number t n rest = parts (decimal number) (trimmed t) (hex 8 n) where
  parts : (d s h : List ℕ) → (d ++ codes " " ++ s ++ codes " " ++ (codes "AT " ++ h) ++ codes "\n") ++ rest ≡ (d ++ codes " " ++ s ++ codes " " ++ codes "AT ") ++ (h ++ (codes "\n" ++ rest))
  parts d s h = search (append_assoc)

pub one_address : (number : ℕ) (t : Name) (n m : ℕ) (x y : List ℕ) → n < 2 ^ 32 → m < 2 ^ 32 → reply_line number t (one_line_text (At n)) ++ x ≡ reply_line number t (one_line_text (At m)) ++ y → (n ≡ m) × (x ≡ y)
one_address number t n m x y small_n small_m e =
    let cut : hex 8 n ++ (codes "\n" ++ x) ≡ hex 8 m ++ (codes "\n" ++ y) = append_cancel_left (before_at number t) _ _ (sym (at_parts number t n x) ∙ e ∙ at_parts number t m y) in
    let writes = hex_writes 8 n (omega (arith, small_n)) in
    let other = hex_writes 8 m (omega (arith, small_m)) in
    let digits = same_fronts (hex 8 n) (hex 8 m) (codes "\n" ++ x) (codes "\n" ++ y) (writes.many ∙ sym other.many) cut in
    let rest : codes "\n" ++ x ≡ codes "\n" ++ y = append_cancel_left (hex 8 m) _ _ (ap (λ h. h ++ (codes "\n" ++ x)) (sym digits) ∙ cut) in
    (sym writes.value ∙ ap hex_number digits ∙ other.value, append_cancel_left (codes "\n") x y rest)

-- such a line without its last nine bytes
pub at_long : (number : ℕ) (t : Name) (n : ℕ) → n < 2 ^ 32 → length (reply_line number t (one_line_text (At n))) ≡ length (before_at number t) + 9
at_long number t n small =
    let writes = hex_writes 8 n (omega (arith, small)) in
    let parts = ap length (sym (append-nil (reply_line number t (one_line_text (At n)))) ∙ at_parts number t n []) ∙ length-append (before_at number t) (hex 8 n ++ (codes "\n" ++ [])) in
    let digits = length-append (hex 8 n) (codes "\n" ++ []) in
    omega (arith, parts, digits, writes.many)

-- what stands after the front of the second of two lines, where that tells an address
pub digits_beyond : (number : ℕ) (t : Name) (n : ℕ) (one text rest : List ℕ) (front : ℕ) → front ≡ length one + length (reply_line number t (one_line_text (At 0))) - 9 → text ≡ one ++ (reply_line number t (one_line_text (At n)) ++ rest) → drop front text ≡ hex 8 n ++ (codes "\n" ++ rest)
digits_beyond number t n one text rest front is e =
    let many : front ≡ length one + length (before_at number t) = let l = at_long number t 0 (omega arith) in omega (arith, is, l) in
    ap (λ k. drop k text) many ∙ ap (drop (length one + length (before_at number t))) (e ∙ ap (λ x. one ++ x) (at_parts number t n rest))
    ∙ drop-append-add one (before_at number t ++ (hex 8 n ++ (codes "\n" ++ rest))) (length (before_at number t))
    ∙ drop-append_seam (before_at number t) (hex 8 n ++ (codes "\n" ++ rest))

-- eight digits that are read back
pub record ReadBack (text : List ℕ) (front addr : ℕ) : Type 0 where
  pub long : front + 8 ≤ length text
  pub digits : take 8 (drop front text) ≡ hex 8 addr
  pub are_digits : list_all is_hex_digit (take 8 (drop front text)) ≡ true
  pub number : hex_number (take 8 (drop front text)) ≡ addr

pub read_back : (text : List ℕ) (front addr : ℕ) (rest : List ℕ) → addr < 2 ^ 31 → drop front text ≡ hex 8 addr ++ rest → ReadBack text front addr
read_back text front addr rest small e =
    let writes = hex_writes 8 addr (omega (arith, small)) in
    let digits : take 8 (drop front text) ≡ hex 8 addr = ap (take 8) e ∙ ap (λ n. take n (hex 8 addr ++ rest)) (sym writes.many) ∙ take-append_seam (hex 8 addr) rest in
    record {
      long = (let a = sym (length-drop front text) ∙ ap length e ∙ length-append (hex 8 addr) rest in omega (arith, a, writes.many));
      digits = digits;
      are_digits = ap (list_all is_hex_digit) digits ∙ writes.digits;
      number = ap hex_number digits ∙ writes.value;
    }

-- ---- a line that can be granted no place

-- what a line with an event did
abbrev pub HasEvent : Condition → WalkValue → List ℕ → LineEvent → WalkValue → Type 0
HasEvent P w l line_event new =
    ((fault : Fault) × (line_event ≡ tells.Faulted fault) × FaultOf (is_first w.step) l fault)
    ⊎ (((fault : Fault) → line_event ≡ tells.Faulted fault → ⊥) × ServesLine (job_machine P) w.number w.step l (events_of_line w.number new line_event) new.step)

pub event_cases : (P : Condition) (w : WalkValue) (l : List ℕ) (line_event : LineEvent) (new : WalkValue) → ServesAsUnder P w l line_event new → HasEvent P w l line_event new
event_cases P w l (tells.Faulted fault) new x = inl (fault, refl, x.0)
event_cases P w l tells.Nothing new x = inr ((λ fault e. cc), x)
event_cases P w l (tells.StepBegan ended card) new x = inr ((λ fault e. cc), x)
event_cases P w l (tells.Answered t a) new x = inr ((λ fault e. cc), x)

-- a run that prints a text from a line on serves it or tells its fault
abbrev pub Serving : ℕ → Option JobValue → List ℕ → List (List ℕ) → List ℕ → Outcome → Type 0
Serving number old l more text outcome =
    (mid : Option JobValue) × (first : List Event) × (rest : List ℕ) × ServesLine machine number old l first mid × (text ≡ printing first ++ rest) × MayPrint (number + 1) mid more rest outcome

pub may_serve : (number : ℕ) (old : Option JobValue) (l : List ℕ) (more : List (List ℕ)) (text : List ℕ) (outcome : Outcome) → MayPrint number old (l ∷ more) text outcome
    → ((events : List Event) × Faults number (is_first old) l events × (text ≡ printing events)) ⊎ Serving number old l more text outcome
may_serve number old l more text outcome (events, inl x, e) = inl (events, x.0, e)
may_serve number old l more text outcome (events, inr x, e) = inr (x.0, x.1, printing x.2, x.3, e ∙ ap printing x.4 ∙ printed_both x.1 x.2, (x.2, x.5, refl))

module _ (P : Condition) (w w' : WalkValue) (l : List ℕ) (t : LineEvent) (is : ServesAsUnder P w l t w') (more : List (List ℕ)) (text : List ℕ) (outcome : Outcome) where
  -- what is printed of the line
  abbrev pub text_of_event : List ℕ
  text_of_event = printing (events_of_line w.number w' t)

  -- the run goes on as the job does
  abbrev pub ContinuesRun : Type 0
  ContinuesRun = (rest : List ℕ) × (text ≡ text_of_event ++ rest) × MayPrint (w.number + 1) w'.step more rest outcome

  pub closed_line : IsClosed w.step l → MayPrint w.number w.step (l ∷ more) text outcome → ((fault : Fault) × (t ≡ tells.Faulted fault) × (text ≡ text_of_event)) ⊎ (((fault : Fault) → t ≡ tells.Faulted fault → ⊥) × ContinuesRun)
  closed_line closed may = at (event_cases P w l t w' is) (may_serve w.number w.step l more text outcome may) where
    at : HasEvent P w l t w' → ((events : List Event) × Faults w.number (is_first w.step) l events × (text ≡ printing events)) ⊎ Serving w.number w.step l more text outcome
        → ((fault : Fault) × (t ≡ tells.Faulted fault) × (text ≡ text_of_event)) ⊎ (((fault : Fault) → t ≡ tells.Faulted fault → ⊥) × ContinuesRun)
    at (inl x) (inl y) =
        let fault = one_reading.one_fault (is_first w.step) l y.1.0 x.0 y.1.1 x.2 in
        inl (x.0, x.1, y.2 ∙ ap printing (y.1.2 ∙ ap (λ fault. Faulted w.number fault ∷ []) fault) ∙ ap (λ t. printing (events_of_line w.number w' t)) (sym x.1))
    at (inl x) (inr y) = absurd (one_reading.not_both (is_first w.step) l y.3.0 x.0 y.3.1 x.2)
    at (inr x) (inl y) = absurd (one_reading.not_both (is_first w.step) l x.1.0 y.1.0 x.1.1 y.1.1)
    at (inr x) (inr y) =
        let one = one_reading.one_line (is_first w.step) l x.1.0 y.3.0 x.1.1 y.3.1 in
        let mine = subst (λ the_line. Serves (job_machine P) w.number w.step the_line (events_of_line w.number w' t) w'.step) one x.1.2 in
        let s = serves_same P w.number (events_of_line w.number w' t) y.1 w'.step y.0 w.step y.3.0 (closed y.3.0 y.3.1) mine y.3.2 in
        inr (x.0, (y.2, y.4 ∙ ap (λ events. printing events ++ y.2) (sym s.0), subst (λ mid. MayPrint (w.number + 1) mid more y.2 outcome) (sym s.1) y.5))

-- what that decides
module _ (P : Condition) (w w' : WalkValue) (l : List ℕ) (t : LineEvent) (text printed : List ℕ) (is : ServesAsUnder P w l t w') (closed : IsClosed w.step l) (same : printed ≡ printing (events_of_line w.number w' t)) where
  sound : ((fault : Fault) → t ≡ tells.Faulted fault → ⊥) → (more : List (List ℕ)) (outcome : Outcome) → MayPrint w.number w.step (l ∷ more) text outcome → (rest : List ℕ) × (text ≡ printed ++ rest) × MayPrint (w.number + 1) w'.step more rest outcome
  sound whole more outcome may = at (closed_line P w w' l t is more text outcome closed may) where
    at : ((fault : Fault) × (t ≡ tells.Faulted fault) × (text ≡ printing (events_of_line w.number w' t))) ⊎ (((fault : Fault) → t ≡ tells.Faulted fault → ⊥) × ContinuesRun P w w' l t is more text outcome)
        → (rest : List ℕ) × (text ≡ printed ++ rest) × MayPrint (w.number + 1) w'.step more rest outcome
    at (inl x) = absurd (whole x.0 x.1)
    at (inr x) = (x.1.0, x.1.1 ∙ ap (λ p. p ++ x.1.0) (sym same), x.1.2)

  pub line_passes : ((fault : Fault) → t ≡ tells.Faulted fault → ⊥) → w'.number ≡ w.number + 1 → text ≡ printed ++ drop (length printed) text → Decides (l ∷ []) text w printed true true w'
  line_passes whole next front = (front, on) where
    on : (more : List (List ℕ)) (outcome : Outcome) → MayPrint w.number w.step (l ∷ more) text outcome → MayPrint w'.number w'.step more (drop (length printed) text) outcome
    on more outcome may =
        let s = sound whole more outcome may in
        let left : s.0 ≡ drop (length printed) text = append_cancel_left printed _ _ (sym s.1 ∙ front) in
        subst (λ number. MayPrint number w'.step more (drop (length printed) text) outcome) (sym next) (subst (λ rest. MayPrint (w.number + 1) w'.step more rest outcome) left s.2)

  line_differs : ((fault : Fault) → t ≡ tells.Faulted fault → ⊥) → ((rest : List ℕ) → text ≡ printed ++ rest → ⊥) → Decides (l ∷ []) text w printed true false w'
  line_differs whole other more outcome may = let s = sound whole more outcome may in other s.0 s.1

  pub line_decides : ((fault : Fault) → t ≡ tells.Faulted fault → ⊥) → w'.number ≡ w.number + 1 → (passes : Bool) → (passes ≡ true → text ≡ printed ++ drop (length printed) text) → ((rest : List ℕ) → text ≡ printed ++ rest → passes ≡ true) → Decides (l ∷ []) text w printed true passes w'
  line_decides whole next true begun never = line_passes whole next (begun refl)
  line_decides whole next false begun never = line_differs whole (λ rest e. false_true (never rest e))

  fault_differs : (fault : Fault) → t ≡ tells.Faulted fault → (text ≡ printed → ⊥) → Decides (l ∷ []) text w printed false false w'
  fault_differs fault e other more outcome may = at (closed_line P w w' l t is more text outcome closed may) where
    at : ((fault : Fault) × (t ≡ tells.Faulted fault) × (text ≡ printing (events_of_line w.number w' t))) ⊎ (((fault : Fault) → t ≡ tells.Faulted fault → ⊥) × ContinuesRun P w w' l t is more text outcome) → ⊥
    at (inl x) = other (x.2 ∙ sym same)
    at (inr x) = x.0 fault e

  pub fault_decides : (fault : Fault) → t ≡ tells.Faulted fault → (passes : Bool) → Tests passes (text ≡ printed) → Decides (l ∷ []) text w printed false passes w'
  fault_decides fault e true test = test.0 refl
  fault_decides fault e false test = fault_differs fault e (λ same. false_true (test.1 same))

-- what is served by such a line, or by any
module _ (P : Condition) (w w' : WalkValue) (l : List ℕ) (t : LineEvent) (printed : List ℕ) (is : ServesAsUnder P w l t w') (same : printed ≡ printing (events_of_line w.number w' t)) where
  pub one_leads : ((fault : Fault) → t ≡ tells.Faulted fault → ⊥) → ServesLine machine w.number w.step l (events_of_line w.number w' t) w'.step
  one_leads whole = at (event_cases Any w l t w' (serves_unconditionally P w w' l t is)) where
    at : HasEvent Any w l t w' → ServesLine machine w.number w.step l (events_of_line w.number w' t) w'.step
    at (inl x) = absurd (whole x.0 x.1)
    at (inr x) = x.1

  pub line_served : ((fault : Fault) → t ≡ tells.Faulted fault → ⊥) → w'.number ≡ w.number + 1 → IsServed (l ∷ []) w printed true w'
  line_served whole next = (events_of_line w.number w' t, inr (w'.step, events_of_line w.number w' t, [], one_leads whole, sym (append-nil (events_of_line w.number w' t)), (refl, refl)), next, same)

  pub fault_served : (fault : Fault) → t ≡ tells.Faulted fault → IsServed (l ∷ []) w printed false w'
  fault_served fault e = at (event_cases P w l t w' is) where
    at : HasEvent P w l t w' → IsServed (l ∷ []) w printed false w'
    at (inl x) = (l, Faulted w.number x.0 ∷ [], refl, (x.0, x.2, refl), same ∙ ap (λ t. printing (events_of_line w.number w' t)) x.1)
    at (inr x) = absurd (x.0 fault e)

-- ---- a grant and a question after it

abbrev grant_line : Name → Form → ℕ → AskValue → Bool → Name → Line
grant_line task form n ask v area = line.Statement task (says.Request (written.Obtain form n ask v area))

-- each is granted an area, and answered so
abbrev Parted : List ℕ → ℕ → Option JobValue → Name → Name → Bool → List Event → Option JobValue → Option JobValue → Type 0
Parted hints number old task area v events a b =
    (answer : Answer) × (job : JobValue) × (x : JobValue) × (y : JobValue) × (old ≡ Some job) × (a ≡ Some x) × (b ≡ Some y) × (events ≡ AnswerTo number task answer ∷ []) × Apart hints job x y task area v answer

abbrev Granting : List ℕ → ℕ → Option JobValue → Name → Name → Bool → List Event → List Event → Option JobValue → Option JobValue → Type 0
Granting hints number old task area v events other a b =
    ((later : JobValue) × (a ≡ Some later)) × (events ≡ other)
    × ((a ≡ b) ⊎ Parted hints number old task area v events a b)

grants : (hints : List ℕ) (number : ℕ) (old : Option JobValue) (task : Name) (form : Form) (n : ℕ) (ask : AskValue) (v : Bool) (area : Name) (events other : List Event) (a b : Option JobValue) → IsAsk ask
    → Serves (job_machine (Takes hints)) number old (grant_line task form n ask v area) events a → Serves machine number old (grant_line task form n ask v area) other b → Granting hints number old task area v events other a b
grants hints number None task form n ask v area events other a b ranged x y = absurd x
grants hints number (Some job) task form n ask v area events other a b ranged x y =
    let d = asked hints job task x.0 y.0 x.1 y.1 form n ask v area ranged x.2 y.2 in
    ((x.1, x.4), x.3 ∙ ap (λ answer. AnswerTo number task answer ∷ []) d.0 ∙ sym y.3, at d.1) where
      at : ((x.1 ≡ y.1) ⊎ Apart hints job x.1 y.1 task area v x.0) → (a ≡ b) ⊎ Parted hints number (Some job) task area v events a b
      at (inl same) = inl (x.4 ∙ ap Some same ∙ sym y.4)
      at (inr apart) = inr (x.0, job, x.1, y.1, refl, x.4, y.4, x.3, apart)

module _ (hints : List ℕ) (w w1 w2 : WalkValue) (l q : List ℕ) (tl tq : LineEvent) (task area : Name) (variable : Bool) (is_l : ServesAsUnder (Takes hints) w l tl w1) (is_q : ServesAsUnder (Takes []) w1 q tq w2) (grant : IsGrant w.step l task area variable) (question : IsQuestion q task area)
    (bounds : InBounds w.step) (next : w1.number ≡ w.number + 1) where
  abbrev pub one_text : List ℕ
  one_text = printing (events_of_line w.number w1 tl)

  abbrev pub other_text : List ℕ
  other_text = printing (events_of_line w1.number w2 tq)

  -- the run goes on as the job does
  abbrev pub Behind : List (List ℕ) → List ℕ → Outcome → Type 0
  Behind more left outcome = (rest : List ℕ) × (left ≡ other_text ++ rest) × MayPrint (w1.number + 1) w2.step more rest outcome

  -- or both tell an address
  pub record GrantQuestion (more : List (List ℕ)) (left : List ℕ) (outcome : Outcome) : Type 0 where
    pub one : ℕ
    pub another : ℕ
    pub rest : List ℕ
    pub one_is : other_text ≡ reply_line w1.number task (one_line_text (At one)) ++ []
    pub another_is : left ≡ reply_line w1.number task (one_line_text (At another)) ++ rest
    pub small_one : one < 2 ^ 31
    pub small_another : another < 2 ^ 31
    pub long : length one_text ≡ length (answer_text w.number task (no_bytes variable))
    pub same : one ≡ another → MayPrint (w1.number + 1) w2.step more rest outcome
    pub takes : (k : ℕ) → hints ≡ k ∷ [] → another ≡ k → one ≡ k

  -- the line of the question says so
  question_at : (step : Option JobValue) (job : JobValue) → step ≡ Some job → LineOf (is_first step) q (line.Statement task (says.Where area))
  question_at step job e = subst (λ step. LineOf (is_first step) q (line.Statement task (says.Where area))) (sym e) question

  no_fault : (P : Condition) (v v' : WalkValue) (t : LineEvent) (bytes : List ℕ) (the_line : Line) → LineOf (is_first v.step) bytes the_line → ServesAsUnder P v bytes t v' → (fault : Fault) → t ≡ tells.Faulted fault → ⊥
  no_fault P v v' t bytes the_line is x fault e = one_reading.not_both (is_first v.step) bytes the_line fault is (subst (λ t. ServesAsUnder P v bytes t v') e x).0

  module _ (more : List (List ℕ)) (outcome : Outcome) where
    alike : (left : List ℕ) (later : JobValue) → w1.step ≡ Some later → MayPrint (w.number + 1) w1.step (q ∷ more) left outcome → Behind more left outcome
    alike left later e may = at (closed_line (Takes []) w1 w2 q tq is_q more left outcome closed (subst (λ n. MayPrint n w1.step (q ∷ more) left outcome) (sym next) may)) where
      closed : IsClosed w1.step q
      closed the_line is = ap leaves_open (one_reading.one_line (is_first w1.step) q the_line (line.Statement task (says.Where area)) is (question_at w1.step later e))

      at : ((fault : Fault) × (tq ≡ tells.Faulted fault) × (left ≡ text_of_event (Takes []) w1 w2 q tq is_q more left outcome)) ⊎ (((fault : Fault) → tq ≡ tells.Faulted fault → ⊥) × ContinuesRun (Takes []) w1 w2 q tq is_q more left outcome) → Behind more left outcome
      at (inl x) = absurd (no_fault (Takes []) w1 w2 tq q _ (question_at w1.step later e) is_q x.0 x.1)
      at (inr x) = x.1

    -- what the question is answered
    apart : (left : List ℕ) (answer : Answer) (job x y : JobValue) → w.step ≡ Some job → w1.step ≡ Some x → events_of_line w.number w1 tl ≡ AnswerTo w.number task answer ∷ [] → Apart hints job x y task area variable answer → MayPrint (w.number + 1) (Some y) (q ∷ more) left outcome → GrantQuestion more left outcome
    apart left answer job x y of is_x tells_it a may = at (event_cases (Takes []) w1 q tq w2 is_q) (may_serve w1.number (Some y) q more left outcome (subst (λ n. MayPrint n (Some y) (q ∷ more) left outcome) (sym next) may)) where
      at : HasEvent (Takes []) w1 q tq w2 → ((events : List Event) × Faults w1.number (is_first (Some y)) q events × (left ≡ printing events)) ⊎ Serving w1.number (Some y) q more left outcome → GrantQuestion more left outcome
      at (inl u) v = absurd (no_fault (Takes []) w1 w2 tq q _ (question_at w1.step x is_x) is_q u.0 u.1)
      at (inr u) (inl v) = absurd (one_reading.not_both false q _ v.1.0 question v.1.1)
      at (inr u) (inr v) =
          let mine : Serves (job_machine (Takes [])) w1.number (Some x) (line.Statement task (says.Where area)) (events_of_line w1.number w2 tq) w2.step =
          subst (λ step. Serves (job_machine (Takes [])) w1.number step (line.Statement task (says.Where area)) (events_of_line w1.number w2 tq) w2.step) is_x
          (subst (λ the_line. Serves (job_machine (Takes [])) w1.number w1.step the_line (events_of_line w1.number w2 tq) w2.step) (one_reading.one_line (is_first w1.step) q u.1.0 (line.Statement task (says.Where area)) u.1.1 (question_at w1.step x is_x)) u.1.2) in
          let theirs : Serves machine w1.number (Some y) (line.Statement task (says.Where area)) v.1 v.0 =
          subst (λ the_line. Serves machine w1.number (Some y) the_line v.1 v.0) (one_reading.one_line false q v.3.0 (line.Statement task (says.Where area)) v.3.1 question) v.3.2 in
          let bounded : IsBounded job.state.regions = subst InBounds of bounds in
          let f = located hints job x y task area variable answer a (Takes []) mine.0 theirs.0 mine.1 theirs.1 bounded mine.2 theirs.2 in
          record {
            one = f.one;
            another = f.another;
            rest = v.2;
            one_is = ap printing (mine.3 ∙ ap (λ answer. AnswerTo w1.number task answer ∷ []) f.answer_is);
            another_is = v.4 ∙ ap (λ events. printing events ++ v.2) (theirs.3 ∙ ap (λ answer. AnswerTo w1.number task answer ∷ []) f.other_is) ∙ ap (λ text. text ++ v.2) (append-nil (reply_line w1.number task (one_line_text (At f.another))));
            small_one = f.small_one;
            small_another = f.small_another;
            same = λ e. subst (λ step. MayPrint (w1.number + 1) step more v.2 outcome) (theirs.4 ∙ ap Some (sym (f.same e)) ∙ sym mine.4) v.5;
            takes = f.takes;
            long = ap (λ events. length (printing events)) tells_it ∙ ap length (append-nil (answer_text w.number task answer)) ∙ a.long w.number task;
          }

    pub pair : (text : List ℕ) → MayPrint w.number w.step (l ∷ q ∷ more) text outcome → (left : List ℕ) × (text ≡ one_text ++ left) × (Behind more left outcome ⊎ GrantQuestion more left outcome)
    pair text may = at (event_cases (Takes hints) w l tl w1 is_l) (may_serve w.number w.step l (q ∷ more) text outcome may) where
      the_line : LineOf (is_first w.step) l (grant_line task grant.2.0 grant.2.1 grant.2.2 variable area)
      the_line = subst (λ the_line. LineOf (is_first w.step) l the_line) grant.2.3 grant.1

      at : HasEvent (Takes hints) w l tl w1 → ((events : List Event) × Faults w.number (is_first w.step) l events × (text ≡ printing events)) ⊎ Serving w.number w.step l (q ∷ more) text outcome
          → (left : List ℕ) × (text ≡ one_text ++ left) × (Behind more left outcome ⊎ GrantQuestion more left outcome)
      at (inl u) v = absurd (one_reading.not_both (is_first w.step) l _ u.0 the_line u.2)
      at (inr u) (inl v) = absurd (one_reading.not_both (is_first w.step) l _ v.1.0 the_line v.1.1)
      at (inr u) (inr v) =
          let mine = subst (λ the_line. Serves (job_machine (Takes hints)) w.number w.step the_line (events_of_line w.number w1 tl) w1.step) (one_reading.one_line (is_first w.step) l u.1.0 _ u.1.1 the_line) u.1.2 in
          let theirs = subst (λ the_line. Serves machine w.number w.step the_line v.1 v.0) (one_reading.one_line (is_first w.step) l v.3.0 _ v.3.1 the_line) v.3.2 in
          let g = grants hints w.number w.step task grant.2.0 grant.2.1 grant.2.2 variable area (events_of_line w.number w1 tl) v.1 w1.step v.0 (line_ranged (is_first w.step) l _ the_line).1 mine theirs in
          (v.2, v.4 ∙ ap (λ events. printing events ++ v.2) (sym g.1), go g.0.0 g.0.1 g.2) where
            go : (later : JobValue) → w1.step ≡ Some later → ((w1.step ≡ v.0) ⊎ Parted hints w.number w.step task area variable (events_of_line w.number w1 tl) w1.step v.0) → Behind more v.2 outcome ⊎ GrantQuestion more v.2 outcome
            go later e (inl same) = inl (alike v.2 later e (subst (λ step. MayPrint (w.number + 1) step (q ∷ more) v.2 outcome) (sym same) v.5))
            go later e (inr a) = inr (apart v.2 a.0 a.1 a.2 a.3 a.4 a.5 a.7 a.8 (subst (λ step. MayPrint (w.number + 1) step (q ∷ more) v.2 outcome) a.6 v.5))

  -- neither of the lines has a fault
  pub grant_whole : (fault : Fault) → tl ≡ tells.Faulted fault → ⊥
  grant_whole = no_fault (Takes hints) w w1 tl l (grant_line task grant.2.0 grant.2.1 grant.2.2 variable area) (subst (λ the_line. LineOf (is_first w.step) l the_line) grant.2.3 grant.1) is_l

  in_step : (number : ℕ) (old : Option JobValue) (events : List Event) (new : Option JobValue) → Serves (job_machine (Takes hints)) number old (grant_line task grant.2.0 grant.2.1 grant.2.2 variable area) events new → (later : JobValue) × (new ≡ Some later)
  in_step number None events new x = absurd x
  in_step number (Some job) events new x = (x.1, x.4)

  pub question_whole : (fault : Fault) → tq ≡ tells.Faulted fault → ⊥
  question_whole = at (event_cases (Takes hints) w l tl w1 is_l) where
    at : HasEvent (Takes hints) w l tl w1 → (fault : Fault) → tq ≡ tells.Faulted fault → ⊥
    at (inl u) = absurd (grant_whole u.0 u.1)
    at (inr u) =
        let the_line : LineOf (is_first w.step) l (grant_line task grant.2.0 grant.2.1 grant.2.2 variable area) = subst (λ the_line. LineOf (is_first w.step) l the_line) grant.2.3 grant.1 in
        let mine = subst (λ the_line. Serves (job_machine (Takes hints)) w.number w.step the_line (events_of_line w.number w1 tl) w1.step) (one_reading.one_line (is_first w.step) l u.1.0 _ u.1.1 the_line) u.1.2 in
        let s = in_step w.number w.step (events_of_line w.number w1 tl) w1.step mine in
        no_fault (Takes []) w1 w2 tq q (line.Statement task (says.Where area)) (question_at w1.step s.0 s.1) is_q

  -- what is served of them
  pub pair_served : (printed : List ℕ) → printed ≡ one_text ++ other_text → w2.number ≡ w1.number + 1 → IsServed (l ∷ q ∷ []) w printed true w2
  pair_served printed same last =
      let one = events_of_line w.number w1 tl in
      let other = events_of_line w1.number w2 tq in
      let first = one_leads (Takes hints) w w1 l tl one_text is_l refl grant_whole in
      let second = subst (λ n. ServesLine machine n w1.step q other w2.step) next (one_leads (Takes []) w1 w2 q tq other_text is_q refl question_whole) in
      (one ++ other, inr (w1.step, one, other, first, refl, inr (w2.step, other, [], second, sym (append-nil other), (refl, refl))), (let e : w2.number ≡ w.number + 2 = omega (arith, last, next) in e), same ∙ sym (printed_both one other))

  -- what that decides, where this is printed of the two
  module _ (text printed : List ℕ) (same : printed ≡ one_text ++ other_text) where
    pub pair_passes : w2.number ≡ w1.number + 1 → text ≡ printed ++ drop (length printed) text → Decides (l ∷ q ∷ []) text w printed true true w2
    pair_passes last front = (front, on) where
      rest : List ℕ
      rest = drop (length printed) text

      split : text ≡ one_text ++ (other_text ++ rest)
      split = front ∙ ap (λ x. x ++ rest) same ∙ append_assoc one_text other_text rest

      done : (more : List (List ℕ)) (outcome : Outcome) (now : List ℕ) → now ≡ rest → MayPrint (w1.number + 1) w2.step more now outcome → MayPrint w2.number w2.step more rest outcome
      done more outcome now e may = subst (λ k. MayPrint k w2.step more rest outcome) (sym last) (subst (λ x. MayPrint (w1.number + 1) w2.step more x outcome) e may)

      at : (more : List (List ℕ)) (outcome : Outcome) (now : List ℕ) → now ≡ other_text ++ rest → (Behind more now outcome ⊎ GrantQuestion more now outcome) → MayPrint w2.number w2.step more rest outcome
      at more outcome now e (inl b) = done more outcome b.0 (append_cancel_left other_text _ _ (sym b.1 ∙ e)) b.2
      at more outcome now e (inr a) =
          let mine : now ≡ reply_line w1.number task (one_line_text (At a.one)) ++ rest = e ∙ ap (λ x. x ++ rest) (a.one_is ∙ append-nil (reply_line w1.number task (one_line_text (At a.one)))) in
          let one = one_address w1.number task a.one a.another rest a.rest (omega (arith, a.small_one)) (omega (arith, a.small_another)) (sym mine ∙ a.another_is) in
          done more outcome a.rest (sym one.1) (a.same one.0)

      on : (more : List (List ℕ)) (outcome : Outcome) → MayPrint w.number w.step (l ∷ q ∷ more) text outcome → MayPrint w2.number w2.step more rest outcome
      on more outcome may = let p = pair more outcome text may in at more outcome p.0 (append_cancel_left one_text _ _ (sym p.1 ∙ split)) p.2

    pub pair_differs : (k front : ℕ) → hints ≡ k ∷ [] → w1.number ≡ w.number + 1 → front ≡ length (answer_text w.number task (no_bytes variable)) + length (reply_line (w.number + 1) task (one_line_text (At 0))) - 9
        → ((addr : ℕ) (rest : List ℕ) → addr < 2 ^ 31 → drop front text ≡ hex 8 addr ++ rest → k ≡ addr) → ((rest : List ℕ) → text ≡ printed ++ rest → ⊥) → Decides (l ∷ q ∷ []) text w printed true false w2
    pair_differs k front is number front_is reads other more outcome may = let p = pair more outcome text may in at p.0 p.1 p.2 where
      whole : (left rest : List ℕ) → text ≡ one_text ++ left → left ≡ other_text ++ rest → text ≡ printed ++ rest
      whole left rest e f = e ∙ ap (λ x. one_text ++ x) f ∙ sym (append_assoc one_text other_text rest) ∙ ap (λ x. x ++ rest) (sym same)

      at : (left : List ℕ) → text ≡ one_text ++ left → (Behind more left outcome ⊎ GrantQuestion more left outcome) → ⊥
      at left e (inl b) = other b.0 (whole left b.0 e b.1)
      at left e (inr a) =
          let front_at : front ≡ length one_text + length (reply_line w1.number task (one_line_text (At 0))) - 9 = front_is ∙ (λ i. sym a.long i + length (reply_line (sym number i) task (one_line_text (At 0))) - 9) in
          let digits = digits_beyond w1.number task a.another one_text text a.rest front front_at (e ∙ ap (λ x. one_text ++ x) a.another_is) in
          let k_is : k ≡ a.another = reads a.another (codes "\n" ++ a.rest) a.small_another digits in
          let one_k : a.one ≡ k = a.takes k is (sym k_is) in
          let mine : left ≡ other_text ++ a.rest =
          a.another_is ∙ ap (λ n. reply_line w1.number task (one_line_text (At n)) ++ a.rest) (sym k_is ∙ sym one_k) ∙ ap (λ x. x ++ a.rest) (sym (a.one_is ∙ append-nil (reply_line w1.number task (one_line_text (At a.one))))) in
          other a.rest (whole left a.rest e mine)

    pub pair_decides : (k front : ℕ) → hints ≡ k ∷ [] → w1.number ≡ w.number + 1 → w2.number ≡ w1.number + 1 → front ≡ length (answer_text w.number task (no_bytes variable)) + length (reply_line (w.number + 1) task (one_line_text (At 0))) - 9
        → ((addr : ℕ) (rest : List ℕ) → addr < 2 ^ 31 → drop front text ≡ hex 8 addr ++ rest → k ≡ addr)
        → (passes : Bool) → (passes ≡ true → text ≡ printed ++ drop (length printed) text) → ((rest : List ℕ) → text ≡ printed ++ rest → passes ≡ true) → Decides (l ∷ q ∷ []) text w printed true passes w2
    pair_decides k front is number last front_is reads true begun never = pair_passes last (begun refl)
    pair_decides k front is number last front_is reads false begun never = pair_differs k front is number front_is reads (λ rest e. false_true (never rest e))

-- what a line says is one thing
pub one_said : {a b : Line} → (x : Option Line) → x ≡ Some a → x ≡ Some b → a ≡ b
one_said x e f = let g = sym e ∙ f in cc

-- a grant and a question after it, which asks for it
pub area_asked : (step : Option JobValue) (l q : List ℕ) (task area : Name) (variable : Bool) (left : List (List ℕ)) → IsGrant step l task area variable → IsQuestion q task area → GrantsAreShownBefore (l ∷ q ∷ []) left
area_asked step l q task area variable left grant question = (first, (second, tt)) where
  first : (the_line : Line) → LineOf false l the_line → leaves_open the_line ≡ true → GrantIsShown the_line (q ∷ left)
  first the_line is opens = inl (task, area, variable, (grant.2.0, grant.2.1, grant.2.2, one_said (line_meaning l) is.says grant.1.says ∙ grant.2.3), question)

  second : (the_line : Line) → LineOf false q the_line → leaves_open the_line ≡ true → GrantIsShown the_line left
  second the_line is opens = absurd (let e : false ≡ true = ap leaves_open (one_said (line_meaning q) question.says is.says) ∙ opens in cc)

-- what lines decide, they decide before any others
pub decides_before : (served more : List (List ℕ)) (left : List ℕ) (old : WalkValue) (text : List ℕ) (continues passes : Bool) (new : WalkValue) → Decides served left old text continues passes new → DecidesBefore served more left old text continues passes new
decides_before served more left old text true true new d = (d.0, d.1 more)
decides_before served more left old text false true new d = d
decides_before served more left old text true false new d = d more
decides_before served more left old text false false new d = d more

-- ---- the lines of a script

-- Each run of the script that prints the output comes here.
abbrev pub Comes : List ℕ → List ℕ → ℕ → ℕ → WalkValue → Type 0
Comes script output at done w = (outcome : Outcome) → IsPrinting script output outcome → MayPrint w.number w.step (lines_of (drop at script)) (drop done output) outcome

-- With so much of it printed the job stands here, after lines that are asked for.
abbrev pub Follows : List ℕ → List ℕ → ℕ → ℕ → WalkValue → Type 0
Follows script output at done w = Comes script output at done w × (s : HasReached script (take done output) w (drop at script)) × GrantsAreShownBefore s.1.served (lines_of (drop at script))

-- what is asked for in some lines, and in more
asked_more : (lines more left : List (List ℕ)) → GrantsAreShownBefore lines (more ++ left) → GrantsAreShownBefore more left → GrantsAreShownBefore (lines ++ more) left
asked_more [] more left a b = b
asked_more (bytes ∷ lines) more left a b = ((λ l is opens. subst (GrantIsShown l) (sym (append_assoc lines more left)) (a.0 l is opens)), asked_more lines more left a.1 b)

-- a line that can be granted no place need not be asked for
pub closed_asked : (w w' : WalkValue) (l text : List ℕ) (left : List (List ℕ)) → IsClosed w.step l → IsServed (l ∷ []) w text true w' → GrantsAreShownBefore (l ∷ []) left
closed_asked w w' l text left closed (events, inl x, number, same) = absurd x
closed_asked w w' l text left closed (events, inr x, number, same) =
    ((λ the_line is opens. false_true (sym (closed the_line (record { no_fault = x.3.1.no_fault; says = is.says })) ∙ opens)), tt)

-- more lines, which are served
stands_on : (script text more left : List ℕ) (lines trailing : List (List ℕ)) (w w' : WalkValue) (served : List (List ℕ)) → lines_of left ≡ served ++ trailing → trailing ≡ lines → (s : HasReached script text w left) → IsServed served w more true w'
    → (events : List Event) × (reached : Reaches (lines_of script) events w'.number w'.step lines) × (text ++ more ≡ printing events) × (GrantsAreShownBefore s.1.served (lines_of left) → GrantsAreShownBefore served trailing → GrantsAreShownBefore reached.served lines)
stands_on script text more left lines trailing w w' served cut comes_later (events, reached, is) (first, leads, number, same) =
    let cut' : lines_of left ≡ served ++ lines = cut ∙ ap (λ x. served ++ x) comes_later in (
      events ++ first,
      record {
        served = reached.served ++ served;
        lines = reached.lines ∙ ap (λ x. reached.served ++ x) cut' ∙ sym (append_assoc reached.served served lines);
        counted = (let e = length-append reached.served served in omega (arith, e, number, reached.counted));
        leads = leads_then machine (Arrives w'.step) reached.served served 1 w.number None w.step events first reached.counted reached.leads leads;
      },
      (λ i. is i ++ same i) ∙ sym (printed_both events first),
      λ a b. asked_more reached.served served lines (subst (GrantsAreShownBefore reached.served) cut' a) (subst (GrantsAreShownBefore served) comes_later b),
    )

pub stands_served : (script text more left later : List ℕ) (w w' : WalkValue) (served : List (List ℕ)) → lines_of left ≡ served ++ lines_of later → HasReached script text w left → IsServed served w more true w' → HasReached script (text ++ more) w' later
stands_served script text more left later w w' served cut s is = let x = stands_on script text more left (lines_of later) (lines_of later) w w' served cut refl s is in (x.0, x.1, x.2)

pub stands_fault : (script text more rest : List ℕ) (taken : ℕ) (w w' : WalkValue) (served : List (List ℕ)) → lines_of rest ≡ served ++ lines_of (drop taken rest) → HasReached script text w rest → IsServed served w more false w' → IsPrinting script (text ++ more) ScriptFault
stands_fault script text more rest taken w w' served cut (events, reached, is) (l, first, one, faults, same) = (
  events ++ first,
  reaches_then (lines_of script) ScriptFault events first w.number w.step (l ∷ lines_of (drop taken rest)) (subst (λ lines. Reaches (lines_of script) events w.number w.step lines) (cut ∙ ap (λ served. served ++ lines_of (drop taken rest)) one) reached) (inl (faults, refl)),
  (λ i. is i ++ same i) ∙ sym (printed_both events first),
)

pub stands_end : (script text last : List ℕ) (at : ℕ) (w : WalkValue) (outcome : Outcome) → length script ≤ at → HasReached script text w (drop at script) → PrintsEnd w last outcome → IsPrinting script (text ++ last) outcome
stands_end script text last at w outcome all (events, reached, is) (ended, closes, same) = (
  events ++ closing w.number ended,
  reaches_then (lines_of script) outcome events (closing w.number ended) w.number w.step [] (subst (λ lines. Reaches (lines_of script) events w.number w.step lines) (ap lines_of (drop_all at script all)) reached) closes,
  (λ i. is i ++ same i) ∙ sym (printed_both events (closing w.number ended)),
)

pub follows_first : (script output : List ℕ) (w : WalkValue) → w ≡ new_walk → Follows script output 0 0 w
follows_first script output w e = subst (λ w. Follows script output 0 0 w) (sym e) ((λ outcome may. may), ([], record { served = []; lines = refl; counted = refl; leads = (refl, refl) }, refl), tt)

-- what is printed so far, and what the output has after it
pub taken_more : (output text left : List ℕ) (done : ℕ) → left ≡ drop done output → left ≡ text ++ drop (length text) left → take (done + length text) output ≡ take done output ++ text
taken_more output text left done is front =
    let cut : take (length text) (drop done output) ≡ text = ap (take (length text)) (sym is ∙ front) ∙ take-append_seam text (drop (length text) left) in
    take-add done (length text) output ∙ ap (λ x. take done output ++ x) cut

module _ (script output rest left text : List ℕ) (at done taken : ℕ) (w w' : WalkValue) (rest_is : rest ≡ drop at script) (left_is : left ≡ drop done output) (f : Follows script output at done w) where
  here : (served : List (List ℕ)) → lines_of rest ≡ served ++ lines_of (drop taken rest) → (outcome : Outcome) → IsPrinting script output outcome → MayPrint w.number w.step (served ++ lines_of (drop taken rest)) left outcome
  here served cut outcome may = subst (λ lines. MayPrint w.number w.step lines left outcome) cut (subst (λ x. MayPrint w.number w.step (lines_of x) left outcome) (sym rest_is) (subst (λ x. MayPrint w.number w.step (lines_of (drop at script)) x outcome) (sym left_is) (f.0 outcome may)))

  stood : HasReached script (take done output) w rest
  stood = (f.1.0, record { served = f.1.1.served; lines = f.1.1.lines ∙ ap (λ x. f.1.1.served ++ lines_of x) (sym rest_is); counted = f.1.1.counted; leads = f.1.1.leads }, f.1.2)

  asked_here : GrantsAreShownBefore f.1.1.served (lines_of rest)
  asked_here = subst (λ x. GrantsAreShownBefore f.1.1.served (lines_of x)) (sym rest_is) f.2

  trailing : drop taken rest ≡ drop (at + taken) script
  trailing = ap (drop taken) rest_is ∙ drop-drop taken at script

  pub follows_on : DecidesFirst rest left w taken text true true w' → Follows script output (at + taken) (done + length text) w'
  unfolding stood
  follows_on d =
      let s = stands_on script (take done output) text rest (lines_of (drop (at + taken) script)) (lines_of (drop taken rest)) w w' d.0 d.1 (ap lines_of trailing) stood d.2 in
      (on, (s.0, s.1, taken_more output text left done left_is d.3.0 ∙ s.2), s.3 asked_here (d.4 refl)) where
        on : Comes script output (at + taken) (done + length text) w'
        on outcome may =
            subst (λ x. MayPrint w'.number w'.step (lines_of x) (drop (done + length text) output) outcome) trailing
            (subst (λ x. MayPrint w'.number w'.step (lines_of (drop taken rest)) x outcome) (ap (drop (length text)) left_is ∙ drop-drop (length text) done output) (d.3.1 outcome (here d.0 d.1 outcome may)))

  pub follows_next : (continues passes open_here : Bool) → (passes && continues && not open_here) ≡ true → IsFoundFirst rest left w taken text continues passes open_here w' → Follows script output (at + taken) (done + length text) w' × (length text ≤ length left)
  follows_next true true false both d = (follows_on d, (let e = ap length d.3.0 ∙ length-append text (drop (length text) left) in omega (arith, e)))
  follows_next true true true both d = absurd (false_true both)
  follows_next true false open_here both d = absurd (false_true both)
  follows_next false true open_here both d = absurd (false_true both)
  follows_next false false open_here both d = absurd (false_true both)

  none : (continues : Bool) → DecidesFirst rest left w taken text continues false w' → IsNoPrinting script output
  none continues d outcome may = d.3 outcome (here d.0 d.1 outcome may)

  opens_here : IsOpen w.number w.step (lines_of rest) left → IsOpenAt script output w.number
  unfolding stood
  opens_here is =
      (stood.0, w.step, lines_of rest, drop done output, stood.1, sym (take-append-drop done output) ∙ ap (λ x. x ++ drop done output) stood.2, asked_here, subst (IsOpen w.number w.step (lines_of rest)) left_is is)

  -- what was printed up to it
  opened : (is : IsOpen w.number w.step (lines_of rest) left) → take done output ++ text ≡ printing (opens_here is).0 ++ text
  unfolding stood opens_here
  opened is = ap (λ x. x ++ text) f.1.2

  opened_none : (is : IsOpen w.number w.step (lines_of rest) left) → take done output ++ [] ≡ printing (opens_here is).0 ++ []
  unfolding stood opens_here
  opened_none is = ap (λ x. x ++ []) f.1.2

  module _ (last : ℕ) (last_is : drop last script ≡ drop (at + taken) script) (last_in : last ≤ length script) (number : w'.number ≤ last + 2) where
    left_open : (continues passes : Bool) → continues ≡ true → passes ≡ true → LeavesFirst rest left w taken text continues passes w' → IsFollowed script output w' last (take done output ++ text) passes (end_at continues) w.number
    left_open false passes e f d = absurd (false_true e)
    left_open true false e f d = absurd (false_true f)
    left_open true true e f d =
        let s = stands_on script (take done output) text rest (lines_of (drop last script)) (lines_of (drop taken rest)) w w' (d.0 ∷ []) d.1 (ap lines_of (trailing ∙ sym last_is)) stood d.2 in ((opens_here d.3, text, opened d.3), (s.0, s.1, s.2), last_in, number)

    pub follows_no_more : (continues passes open_here : Bool) → (passes && continues && not open_here) ≡ false → IsFoundFirst rest left w taken text continues passes open_here w' → IsFollowed script output w' last (take done output ++ text) passes (end_at continues) w.number
    follows_no_more continues passes true ends d = left_open continues passes d.4 d.5 d
    follows_no_more true true false ends d = absurd (let e : true ≡ false = ends in cc)
    follows_no_more true false false ends d =
        (let s = stands_on script (take done output) text rest (lines_of (drop last script)) (lines_of (drop taken rest)) w w' d.0 d.1 (ap lines_of (trailing ∙ sym last_is)) stood d.2 in (none true d, (s.0, s.1, s.2), last_in, number))
    follows_no_more false true false ends d =
        (stands_fault script (take done output) text rest taken w w' d.0 d.1 stood d.2, ap (λ x. take done output ++ x) (sym d.3 ∙ left_is) ∙ take-append-drop done output)
    follows_no_more false false false ends d =
        (stands_fault script (take done output) text rest taken w w' d.0 d.1 stood d.2, none false d)

  pub follows_open : IsSameJob w w' → IsOpen w.number w.step (lines_of rest) left → at ≤ length script → w.number ≤ at + 2 → IsFollowed script output w' at (take done output ++ []) true None w.number
  follows_open same is within number = (
    (opens_here is, [], opened_none is),
    (f.1.0, subst (λ n. Reaches (lines_of script) f.1.0 n w'.step (lines_of (drop at script))) (sym same.0) (subst (λ step. Reaches (lines_of script) f.1.0 w.number step (lines_of (drop at script))) (sym same.1) f.1.1), append-nil (take done output) ∙ f.1.2),
    within,
    (let e = same.0 in omega (arith, e, number)),
  )

-- after the last line
pub follows_to_end : (script output : List ℕ) (at done : ℕ) (w : WalkValue) (last : List ℕ) (outcome : Outcome) (passes : Bool) → length script ≤ at → Follows script output at done w → PrintsEnd w last outcome → Tests passes (drop done output ≡ last)
    → (left line_open : ℕ) → IsFollowed script output w left (take done output ++ last) passes (Some outcome) line_open
follows_to_end script output at done w last outcome true all f ends same left line_open =
    (stands_end script (take done output) last at w outcome all f.1 ends, ap (λ x. take done output ++ x) (sym (same.0 refl)) ∙ take-append-drop done output)
follows_to_end script output at done w last outcome false all f ends same left line_open = (stands_end script (take done output) last at w outcome all f.1 ends, other) where
  one_close : (number : ℕ) (step : Option JobValue) (a b : List Event) (o p : Outcome) → Closes machine number step a o → Closes machine number step b p → a ≡ b
  one_close number None a b o p x y = x.0 ∙ sym y.0
  one_close number (Some job) a b o p x y = x.0 ∙ sym y.0

  other : IsNoPrinting script output
  other o may =
      let m : MayPrint w.number w.step [] (drop done output) o = subst (λ lines. MayPrint w.number w.step lines (drop done output) o) (ap lines_of (drop_all at script all)) (f.0 o may) in
      false_true (same.1 (m.2 ∙ ap printing (one_close w.number w.step m.0 (closing w.number ends.0) o outcome m.1 ends.1) ∙ sym ends.2))

-- what was followed, in other words
pub followed_same : (script output : List ℕ) (w : WalkValue) (at at' : ℕ) (text text' : List ℕ) (passes passes' : Bool) (ended ended' : Option Outcome) (number number' : ℕ) → at' ≡ at → text' ≡ text → passes' ≡ passes → ended' ≡ ended → number' ≡ number → IsFollowed script output w at text passes ended number → IsFollowed script output w at' text' passes' ended' number'
followed_same script output w at at' text text' passes passes' ended ended' number number' a b c d e is =
    subst (λ at. IsFollowed script output w at text' passes' ended' number') (sym a) (subst (λ text. IsFollowed script output w at text passes' ended' number') (sym b) (subst (λ passes. IsFollowed script output w at text passes ended' number') (sym c) (subst (λ ended. IsFollowed script output w at text passes ended number') (sym d) (subst (λ number. IsFollowed script output w at text passes ended number) (sym e) is))))

pub none_decided : {A : Type 0} (o : Option A) (P : Type 0) (Q : A → Type 0) → o ≡ None → MatchOption o P Q → P
none_decided o P Q e x = subst (λ o. MatchOption o P Q) e x

pub some_decided : {A : Type 0} (o : Option A) (P : Type 0) (Q : A → Type 0) (a : A) → o ≡ Some a → MatchOption o P Q → Q a
some_decided o P Q a e x = subst (λ o. MatchOption o P Q) e x

-- ---- the pages of a step

bounded_start : (card : CardValue) → IsCard card → IsBounded (start card).regions
bounded_start card is = record { below = is.below_most; above = is.above_most }

bounded_closed : Closed (λ st. IsBounded st.regions)
bounded_closed = grind (arith, common_steps)

pub in_bounds : (P : Condition) (w w' : WalkValue) (l : List ℕ) (t : LineEvent) → ServesAsUnder P w l t w' → InBounds w.step → InBounds w'.step
in_bounds P w w' l t x b = at t x where
  at : (t : LineEvent) → ServesAsUnder P w l t w' → InBounds w'.step
  at (tells.Faulted fault) x = subst InBounds (sym x.1) b
  at tells.Nothing x = line_keeps (λ st. IsBounded st.regions) bounded_closed bounded_start P w.number w.step l _ w'.step x b
  at (tells.StepBegan ended card) x = line_keeps (λ st. IsBounded st.regions) bounded_closed bounded_start P w.number w.step l _ w'.step x b
  at (tells.Answered t a) x = line_keeps (λ st. IsBounded st.regions) bounded_closed bounded_start P w.number w.step l _ w'.step x b
