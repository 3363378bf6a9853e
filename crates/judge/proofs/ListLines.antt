-- The line of a list decides what a run may print, where questions stand after it.
use Rattle.std.proofs.Common.{◌≡◌, ℕ, ◌+◌, ◌<◌, ◌⊎◌, inl, inr, Bool, true, false, List, [], ◌∷◌, ◌++◌, suc, length, map, drop, codes, ◌-◌, Option, Some, None, append_assoc, append-nil, arith, refl, sym, ap, ◌∙◌, subst}
use Rattle.std.specs.Prelude.{◌||◌, not, ◌^◌}
use Rattle.std.specs.Bool.{MatchBool}
use Rattle.std.specs.List.{AllByRecursion}
use Rattle.std.specs.FinMap.{get}
use Rattle.std.proofs.Math.Seq.{drop-append_seam}
use Rattle.std.proofs.lemmas.List.{append_cancel_left}
use Rattle.mvs_model.specs.declared.name.Name.{Name}
use Rattle.mvs_model.specs.declared.code.Form.{Form}
use Rattle.mvs_model.specs.declared.line.Fault.{Fault}
use Rattle.mvs_model.specs.declared.line.Line.{Line}
use Rattle.mvs_model.specs.declared.line.Line.TheVariants as line
use Rattle.mvs_model.specs.declared.line.Statement.TheVariants as says
use Rattle.mvs_model.specs.declared.line.SourceRequest.TheVariants as written
use Rattle.mvs_model.specs.declared.outcome.Outcome.{Outcome}
use Rattle.mvs_model.specs.Answers.{Event, AnswerTo, At, Rc0}
use Rattle.mvs_model.specs.Job.{JobValue}
use Rattle.mvs_model.specs.Lines.{lines_of}
use Rattle.mvs_model.specs.Place.{PlaceValue}
use Rattle.mvs_model.specs.Owners.{is_active}
use Rattle.mvs_model.specs.Reading.{LineOf, line_meaning}
use Rattle.mvs_model.specs.Replies.{where_answer}
use Rattle.mvs_model.specs.Runs.{machine, job_machine}
use Rattle.mvs_model.specs.Texts.{answer_text, hex, printing, reply_line, one_line_text}
use Rattle.mvs_model.specs.Walk.{Faults, Serves, is_first}
use Rattle.mvs_model.proofs.Reading.{one_reading}
use Rattle.mvs_model.proofs.Tests.{false_true}
use Rattle.request_forms.specs.Taking.{Takes}
use Rattle.mvs_job.specs.declared.walk.LineEvent.{LineEvent}
use Rattle.mvs_job.specs.declared.walk.LineEvent.TheVariants as tells
use Rattle.mvs_job.specs.LineEvents.{ServesAsUnder, WalkValue, events_of_line}
use Rattle.judge.specs.Judging.{AreApart, AskEach, BeginsAnswered, GrantsAreShownBefore, GrantIsShown, IsOpen, IsQuestion, leaves_open}
use Rattle.judge.specs.Deciding.{DecidesBefore, InBounds, IsFoundFirst, IsList, IsServed, MayPrint, OpensList, ReadsEach, at_text, no_bytes}
use Rattle.judge.proofs.Decided.{HasEvent, Serving, at_long, digits_beyond, line_served, may_serve, one_leads, one_said, event_cases}
use Rattle.judge.proofs.Lists.{AreAt, AreOtherwise, ListApart, listed, texts_part}

-- ---- addresses that are read

pub read_none : (hints addrs : List ℕ) → length addrs ≡ 0 → hints ≡ hints ++ addrs
read_none hints [] e = sym (append-nil hints)
read_none hints (addr ∷ addrs) e = absurd (omega (arith, e))

pub read_next : (number : ℕ) (t : Name) (text : List ℕ) (len k many : ℕ) (hints : List ℕ) (P : List ℕ → Type 0) → len ≡ length (reply_line number t (one_line_text (At 0)))
    → ((addr : ℕ) (rest : List ℕ) → addr < 2 ^ 31 → drop (len - 9) text ≡ hex 8 addr ++ rest → k ≡ addr)
    → ((addrs : List ℕ) (rest : List ℕ) → length addrs ≡ many → AllByRecursion (λ addr. addr < 2 ^ 31) addrs → drop len text ≡ at_text (number + 1) t addrs ++ rest → P ((hints ++ k ∷ []) ++ addrs))
    → (addrs : List ℕ) (rest : List ℕ) → length addrs ≡ suc many → AllByRecursion (λ addr. addr < 2 ^ 31) addrs → text ≡ at_text number t addrs ++ rest → P (hints ++ addrs)
read_next number t text len k many hints P len_is reads trailing [] rest e small is = absurd (omega (arith, e))
read_next number t text len k many hints P len_is reads trailing (addr ∷ addrs) rest e small is =
    let here = reply_line number t (one_line_text (At addr)) in
    let whole : text ≡ here ++ (at_text (number + 1) t addrs ++ rest) = is ∙ append_assoc here (at_text (number + 1) t addrs) rest in
    let digits = digits_beyond number t addr [] text (at_text (number + 1) t addrs ++ rest) (len - 9) (omega (arith, len_is)) whole in
    let k_is : k ≡ addr = reads addr (codes "\n" ++ (at_text (number + 1) t addrs ++ rest)) small.0 digits in
    let long : len ≡ length here = len_is ∙ at_long number t 0 (omega arith) ∙ sym (at_long number t addr (let s = small.0 in omega (arith, s))) in
    let left : drop len text ≡ at_text (number + 1) t addrs ++ rest = (λ i. drop (long i) (whole i)) ∙ drop-append_seam here (at_text (number + 1) t addrs ++ rest) in
    subst P (append_assoc hints (k ∷ []) addrs ∙ ap (λ k. hints ++ (k ∷ addrs)) k_is) (trailing addrs rest (omega (arith, e)) small.1 left)

-- ---- the lines

when_active : (P Q : Type 0) (active : Bool) → active ≡ true → MatchBool (not active) P Q → Q
when_active P Q true e x = x
when_active P Q false e x = absurd (let f : false ≡ true = e in cc)

-- what is printed of a question, where the name lies at this place
question : (number : ℕ) (job : JobValue) (task area : Name) (p : PlaceValue) (q : List ℕ) (lines : List (List ℕ)) (text : List ℕ) (outcome : Outcome) → is_active job.state.owners task ≡ true → get job.names area ≡ Some p → IsQuestion q task area → MayPrint number (Some job) (q ∷ lines) text outcome
    → (left : List ℕ) × (text ≡ reply_line number task (one_line_text (At p.addr)) ++ left) × MayPrint (number + 1) (Some job) lines left outcome
question number job task area p q lines text outcome active at is may = go (may_serve number (Some job) q lines text outcome may) where
  go : ((events : List Event) × Faults number (is_first (Some job)) q events × (text ≡ printing events)) ⊎ Serving number (Some job) q lines text outcome → (left : List ℕ) × (text ≡ reply_line number task (one_line_text (At p.addr)) ++ left) × MayPrint (number + 1) (Some job) lines left outcome
  go (inl v) = absurd (one_reading.not_both false q _ v.1.0 is v.1.1)
  go (inr v) =
      let theirs : Serves machine number (Some job) (line.Statement task (says.Where area)) v.1 v.0 =
      subst (λ the_line. Serves machine number (Some job) the_line v.1 v.0) (one_reading.one_line false q v.3.0 (line.Statement task (says.Where area)) v.3.1 is) v.3.2 in
      let answered = when_active _ _ (is_active job.state.owners task) active theirs.2 in
      let answer : theirs.0 ≡ At p.addr = answered.0 ∙ ap where_answer at in
      let step : v.0 ≡ Some job = theirs.4 ∙ ap Some answered.1 in (
        v.2,
        v.4 ∙ ap (λ events. printing events ++ v.2) (theirs.3 ∙ ap (λ answer. AnswerTo number task answer ∷ []) answer) ∙ ap (λ x. x ++ v.2) (append-nil (reply_line number task (one_line_text (At p.addr)))),
        subst (λ step. MayPrint (number + 1) step lines v.2 outcome) step v.5,
      )

-- what is printed of questions, where the names lie at these places
questions : (number : ℕ) (job : JobValue) (task : Name) (areas : List Name) (ps : List PlaceValue) (lines : List (List ℕ)) (text : List ℕ) (outcome : Outcome) → is_active job.state.owners task ≡ true → AreAt job.names areas ps → AskEach lines task areas → MayPrint number (Some job) lines text outcome
    → (rest : List ℕ) × (text ≡ at_text number task (map (λ p. p.addr) ps) ++ rest)
questions number job task [] [] lines text outcome active at asks may = (text, refl)
questions number job task [] (p ∷ ps) lines text outcome active at asks may = absurd at
questions number job task (area ∷ areas) [] lines text outcome active at asks may = absurd at
questions number job task (area ∷ areas) (p ∷ ps) [] text outcome active at asks may = absurd asks
questions number job task (area ∷ areas) (p ∷ ps) (q ∷ lines) text outcome active at asks may =
    let one = question number job task area p q lines text outcome active at.0 asks.0 may in
    let more = questions (number + 1) job task areas ps lines one.0 outcome active at.1 asks.1 one.2 in
    let here = reply_line number task (one_line_text (At p.addr)) in
    (more.0, one.1 ∙ ap (λ x. here ++ x) more.1 ∙ sym (append_assoc here (at_text (number + 1) task (map (λ p. p.addr) ps)) more.0))

abbrev list_line : Name → Form → ℕ → List ℕ → ℕ → List Name → Line
list_line task form n lengths start areas = line.Statement task (says.Request (written.ObtainList form n lengths start areas))

module _ (hints : List ℕ) (number : ℕ) (task : Name) (form : Form) (n : ℕ) (lengths : List ℕ) (start : ℕ) (areas : List Name) (long : length lengths ≡ length areas) (apart : AreApart areas) (events other : List Event) (a b : Option JobValue) (more : List (List ℕ)) (rest now : List ℕ) (outcome : Outcome) (each : AskEach more task areas)
    (reads : printing events ≡ answer_text number task Rc0 → ReadsEach rest (number + 1) task areas hints) (front : printing events ++ rest ≡ printing other ++ now) where
  alike : (old : Option JobValue) → InBounds old → Serves (job_machine (Takes hints)) number old (list_line task form n lengths start areas) events a → Serves machine number old (list_line task form n lengths start areas) other b → MayPrint (number + 1) b more now outcome → MayPrint (number + 1) a more rest outcome
  alike None bounds x y may = absurd x
  alike (Some job) bounds x y may = go (listed hints job task x.0 y.0 x.1 y.1 form n lengths start areas long apart bounds x.2 y.2) where
    mine : printing events ≡ answer_text number task x.0
    mine = ap printing x.3 ∙ append-nil (answer_text number task x.0)

    theirs : printing other ≡ answer_text number task y.0
    theirs = ap printing y.3 ∙ append-nil (answer_text number task y.0)

    both : answer_text number task x.0 ++ rest ≡ answer_text number task y.0 ++ now
    both = ap (λ x. x ++ rest) (sym mine) ∙ front ∙ ap (λ x. x ++ now) theirs

    left : x.0 ≡ y.0 → now ≡ rest
    left e = sym (append_cancel_left (answer_text number task y.0) rest now (ap (λ a. answer_text number task a ++ rest) (sym e) ∙ both))

    on : x.0 ≡ y.0 → x.1 ≡ y.1 → MayPrint (number + 1) a more rest outcome
    on e f = subst (λ x. MayPrint (number + 1) a more x outcome) (left e) (subst (λ step. MayPrint (number + 1) step more now outcome) (y.4 ∙ ap Some (sym f) ∙ sym x.4) may)

    part : AreOtherwise x.0 y.0 → ⊥
    part (inl (e, f)) = texts_part number task y.0 rest now f (ap (λ a. answer_text number task a ++ rest) (sym e) ∙ both)
    part (inr (f, e)) = texts_part number task x.0 now rest f (ap (λ a. answer_text number task a ++ now) (sym e) ∙ sym both)

    go : ((x.0 ≡ y.0) × (x.1 ≡ y.1)) ⊎ (AreOtherwise x.0 y.0 ⊎ ((x.0 ≡ y.0) × (x.0 ≡ Rc0) × ListApart hints x.1 y.1 task areas)) → MayPrint (number + 1) a more rest outcome
    go (inl s) = on s.0 s.1
    go (inr (inl o)) = absurd (part o)
    go (inr (inr (e, f, l))) =
        let q = questions (number + 1) y.1 task areas l.places more now outcome l.active l.are_at each (subst (λ step. MayPrint (number + 1) step more now outcome) y.4 may) in
        on e (l.same (reads (mine ∙ ap (answer_text number task) f) (map (λ p. p.addr) l.places) q.0 l.long l.small (sym (left e) ∙ q.1)))

module _ (hints : List ℕ) (w w1 : WalkValue) (l : List ℕ) (tl : LineEvent) (task : Name) (areas : List Name) (is_l : ServesAsUnder (Takes hints) w l tl w1) (asks : IsList w.step l task areas) (bounds : InBounds w.step) (printed : List ℕ) (same : printed ≡ printing (events_of_line w.number w1 tl)) where
  said_is : LineOf (is_first w.step) l (list_line task asks.2.0 asks.2.1 asks.2.2 asks.2.3 areas)
  said_is = subst (λ the_line. LineOf (is_first w.step) l the_line) asks.2.4 asks.1

  pub list_whole : (fault : Fault) → tl ≡ tells.Faulted fault → ⊥
  list_whole fault e = one_reading.not_both (is_first w.step) l _ fault said_is (subst (λ t. ServesAsUnder (Takes hints) w l t w1) e is_l).0

  pub list_served : w1.number ≡ w.number + 1 → IsServed (l ∷ []) w printed true w1
  list_served next = line_served (Takes hints) w w1 l tl printed is_l same list_whole next

  module _ (more : List (List ℕ)) (left : List ℕ) (each : AskEach more task areas) where
    continues : (rest : List ℕ) (outcome : Outcome) → (printing (events_of_line w.number w1 tl) ≡ answer_text w.number task Rc0 → ReadsEach rest (w.number + 1) task areas hints) → left ≡ printing (events_of_line w.number w1 tl) ++ rest → MayPrint w.number w.step (l ∷ more) left outcome → MayPrint (w.number + 1) w1.step more rest outcome
    continues rest outcome reads front may = at (event_cases (Takes hints) w l tl w1 is_l) (may_serve w.number w.step l more left outcome may) where
      at : HasEvent (Takes hints) w l tl w1 → ((events : List Event) × Faults w.number (is_first w.step) l events × (left ≡ printing events)) ⊎ Serving w.number w.step l more left outcome → MayPrint (w.number + 1) w1.step more rest outcome
      at (inl u) v = absurd (list_whole u.0 u.1)
      at (inr u) (inl v) = absurd (one_reading.not_both (is_first w.step) l _ v.1.0 said_is v.1.1)
      at (inr u) (inr v) =
          let mine = subst (λ the_line. Serves (job_machine (Takes hints)) w.number w.step the_line (events_of_line w.number w1 tl) w1.step) (one_reading.one_line (is_first w.step) l u.1.0 _ u.1.1 said_is) u.1.2 in
          let theirs = subst (λ the_line. Serves machine w.number w.step the_line v.1 v.0) (one_reading.one_line (is_first w.step) l v.3.0 _ v.3.1 said_is) v.3.2 in
          alike hints w.number task asks.2.0 asks.2.1 asks.2.2 asks.2.3 areas asks.2.5 asks.2.6 (events_of_line w.number w1 tl) v.1 w1.step v.0 more rest v.2 outcome each reads (sym front ∙ v.4) w.step bounds mine theirs v.5

    -- what the list decides, where a text begins with what is printed of it
    pub list_decides : w1.number ≡ w.number + 1 → ReadsEach (drop (length (answer_text w.number task (no_bytes false))) left) (w.number + 1) task areas hints → left ≡ printed ++ drop (length printed) left → DecidesBefore (l ∷ []) more left w printed true true w1
    list_decides next reads front = (front, on) where
      on : (outcome : Outcome) → MayPrint w.number w.step (l ∷ more) left outcome → MayPrint w1.number w1.step more (drop (length printed) left) outcome
      on outcome may =
          subst (λ n. MayPrint n w1.step more (drop (length printed) left) outcome) (sym next)
          (continues (drop (length printed) left) outcome (λ e. subst (λ x. ReadsEach (drop (length x) left) (w.number + 1) task areas hints) (sym (same ∙ e)) reads) (front ∙ ap (λ x. x ++ drop (length printed) left) same) may)

    -- or the list is open
    pub list_opens : ((rest : List ℕ) → left ≡ printed ++ rest → ⊥) → BeginsAnswered w.number task left → IsOpen w.number w.step (l ∷ more) left
    list_opens differs begins =
        (asks.0, asks.1, ap leaves_open asks.2.4, λ _. ((task, areas, asks.2), events_of_line w.number w1 tl, w1.step, one_leads (Takes hints) w w1 l tl printed is_l same list_whole, (λ rest e. differs rest (e ∙ ap (λ x. x ++ rest) (sym same))), begins))

    -- or no list is answered so
    pub list_refuses : ((rest : List ℕ) → left ≡ printed ++ rest → ⊥) → (BeginsAnswered w.number task left → ⊥) → DecidesBefore (l ∷ []) more left w printed true false w1
    list_refuses differs none outcome may = at (event_cases (Takes hints) w l tl w1 is_l) (may_serve w.number w.step l more left outcome may) where
      step_differs : (old : Option JobValue) → InBounds old → (events other : List Event) (a b : Option JobValue) (rest : List ℕ) → Serves (job_machine (Takes hints)) w.number old (list_line task asks.2.0 asks.2.1 asks.2.2 asks.2.3 areas) events a
          → Serves machine w.number old (list_line task asks.2.0 asks.2.1 asks.2.2 asks.2.3 areas) other b → printed ≡ printing events → left ≡ printing other ++ rest → ⊥
      step_differs None bounds events other a b rest x y is e = absurd x
      step_differs (Some job) bounds events other a b rest x y is e = go (listed hints job task x.0 y.0 x.1 y.1 asks.2.0 asks.2.1 asks.2.2 asks.2.3 areas asks.2.5 asks.2.6 bounds x.2 y.2) where
        theirs : left ≡ answer_text w.number task y.0 ++ rest
        theirs = e ∙ ap (λ events. printing events ++ rest) y.3 ∙ ap (λ x. x ++ rest) (append-nil (answer_text w.number task y.0))

        alike_differs : x.0 ≡ y.0 → ⊥
        alike_differs f = differs rest (e ∙ ap (λ events. printing events ++ rest) (y.3 ∙ ap (λ answer. AnswerTo w.number task answer ∷ []) (sym f) ∙ sym x.3) ∙ ap (λ x. x ++ rest) (sym is))

        other_differs : AreOtherwise x.0 y.0 → ⊥
        other_differs (inl (f, g)) = none (y.0, inr g, rest, theirs)
        other_differs (inr (f, g)) = none (y.0, inl g, rest, theirs)

        go : ((x.0 ≡ y.0) × (x.1 ≡ y.1)) ⊎ (AreOtherwise x.0 y.0 ⊎ ((x.0 ≡ y.0) × (x.0 ≡ Rc0) × ListApart hints x.1 y.1 task areas)) → ⊥
        go (inl s) = alike_differs s.0
        go (inr (inl o)) = other_differs o
        go (inr (inr (f, g, h))) = alike_differs f

      at : HasEvent (Takes hints) w l tl w1 → ((events : List Event) × Faults w.number (is_first w.step) l events × (left ≡ printing events)) ⊎ Serving w.number w.step l more left outcome → ⊥
      at (inl u) v = list_whole u.0 u.1
      at (inr u) (inl v) = one_reading.not_both (is_first w.step) l _ v.1.0 said_is v.1.1
      at (inr u) (inr v) =
          let mine = subst (λ the_line. Serves (job_machine (Takes hints)) w.number w.step the_line (events_of_line w.number w1 tl) w1.step) (one_reading.one_line (is_first w.step) l u.1.0 _ u.1.1 said_is) u.1.2 in
          let theirs = subst (λ the_line. Serves machine w.number w.step the_line v.1 v.0) (one_reading.one_line (is_first w.step) l v.3.0 _ v.3.1 said_is) v.3.2 in
          step_differs w.step bounds (events_of_line w.number w1 tl) v.1 w1.step v.0 v.2 mine theirs same v.4

-- a list after which its areas are asked for
pub list_asked : (step : Option JobValue) (l : List ℕ) (task : Name) (areas : List Name) (more : List (List ℕ)) → IsList step l task areas → AskEach more task areas → GrantsAreShownBefore (l ∷ []) more
list_asked step l task areas more asks each = (first, tt) where
  first : (the_line : Line) → LineOf false l the_line → leaves_open the_line ≡ true → GrantIsShown the_line more
  first the_line is opens = inr (task, areas, (asks.2.0, asks.2.1, asks.2.2, asks.2.3, one_said (line_meaning l) is.says asks.1.says ∙ asks.2.4, asks.2.5, asks.2.6), each)

-- what is found at a list
pub list_found : (script left : List ℕ) (w w1 : WalkValue) (end : ℕ) (l : List ℕ) (task : Name) (areas : List Name) (text : List ℕ) (continues passes opens : Bool) → lines_of script ≡ l ∷ lines_of (drop (end + 1) script) → IsList w.step l task areas → AskEach (lines_of (drop (end + 1) script)) task areas
    → IsServed (l ∷ []) w text true w1 → continues ≡ true
    → (passes ≡ false → BeginsAnswered w.number task left → IsOpen w.number w.step (l ∷ lines_of (drop (end + 1) script)) left)
    → (passes ≡ false → (BeginsAnswered w.number task left → ⊥) → DecidesBefore (l ∷ []) (lines_of (drop (end + 1) script)) left w text true false w1)
    → (passes ≡ true → DecidesBefore (l ∷ []) (lines_of (drop (end + 1) script)) left w text true true w1)
    → OpensList w.number task left passes opens → IsFoundFirst script left w (end + 1) text continues (passes || opens) opens w1
list_found script left w w1 end l task areas text continues true true cut asks each served goes is_open refuses decides tested = absurd (let e : true ≡ false = tested in cc)
list_found script left w w1 end l task areas text continues true false cut asks each served goes is_open refuses decides tested = (
  l ∷ [],
  cut,
  subst (λ b. IsServed (l ∷ []) w text b w1) (sym goes) served,
  subst (λ b. DecidesBefore (l ∷ []) (lines_of (drop (end + 1) script)) left w text b true w1) (sym goes) (decides refl),
  λ _. list_asked w.step l task areas (lines_of (drop (end + 1) script)) asks each,
)
list_found script left w w1 end l task areas text continues false true cut asks each served goes is_open refuses decides tested =
    (l, cut, served, subst (λ lines. IsOpen w.number w.step lines left) (sym cut) (is_open refl (tested.0 refl)), goes, refl)
list_found script left w w1 end l task areas text continues false false cut asks each served goes is_open refuses decides tested = (
  l ∷ [],
  cut,
  subst (λ b. IsServed (l ∷ []) w text b w1) (sym goes) served,
  subst (λ b. DecidesBefore (l ∷ []) (lines_of (drop (end + 1) script)) left w text b false w1) (sym goes) (refuses refl (λ begins. false_true (tested.1 begins))),
  λ _. list_asked w.step l task areas (lines_of (drop (end + 1) script)) asks each,
)
