-- Runs go on, and keep what each step keeps.
use Rattle.std.proofs.Common.{◌≡◌, ℕ, ◌+◌, inl, inr, Bool, true, false, List, [], ◌∷◌, ◌++◌, length, length-append, append_assoc, append-nil, Option, Some, None, Ok, arith, refl, sym, ap, ◌∙◌, subst, ◌||◌, not, MatchBool, nat_cmp}
use Rattle.std.specs.FinMap.{get, empty, gets}
use Rattle.std.proofs.lemmas.Bool.Decides.{nat_tests}
use Rattle.std.proofs.lemmas.Grind.{common_steps}
use Rattle.mvs_laws.proofs.Types.{Name, Line, Statement, SourceRequest, Outcome, ScriptFault, Request}
use Rattle.mvs_model.specs.declared.line.Line.TheVariants as line
use Rattle.mvs_model.specs.declared.line.Statement.TheVariants as says
use Rattle.mvs_model.specs.Card.{CardValue, IsCard}
use Rattle.mvs_model.specs.Name.{name_cmp}
use Rattle.mvs_model.specs.Owners.{is_active}
use Rattle.mvs_model.specs.Pools.{Pool}
use Rattle.mvs_model.specs.State.{State, Holding, subpool_in}
use Rattle.mvs_model.specs.Start.{start}
use Rattle.mvs_model.specs.Requests.{IsRequest}
use Rattle.mvs_model.specs.WellFormed.{PoolsSized}
use Rattle.mvs_model.specs.Answers.{Answer, NotRun, Region, Event, AnswerTo, Faulted}
use Rattle.mvs_model.specs.Texts.{printing}
use Rattle.mvs_model.specs.Job.{JobValue}
use Rattle.mvs_model.specs.Lines.{lines_of, card_of, IsStatement, IsLine}
use Rattle.mvs_model.specs.Reading.{LineOf}
use Rattle.mvs_model.specs.ReadingLaws.{Reading, Said, Wrong}
use Rattle.mvs_model.specs.Replies.{is_abend}
use Rattle.mvs_model.specs.Resolving.{resolved, all_set, names_set, places_in}
use Rattle.mvs_model.specs.Walk.{is_first, ending, Serves, ServesLine, Closes, Walks, JobEnds, Leads}
use Rattle.mvs_model.specs.Runs.{Condition, OnlyAnswers, Asks, AnswersTo, Does, Any, job_machine, machine, IsRunning}
use Rattle.mvs_model.specs.Memory.{TakesMemory, StopsForMemory}
use Rattle.mvs_laws.specs.Going.{Holds, Sized, Reaches}
use Rattle.mvs_laws.specs.Laws.{PagesHaveOneSubpool, NeverStuck, EachIsPrinted}
use Rattle.mvs_laws.proofs.Requested.{is_request}
use Rattle.mvs_laws.proofs.Kept.{Closed, plan_in_range, step_keeps}
use Rattle.mvs_laws.proofs.Pages.{Pages, pages_closed}
use Rattle.mvs_laws.proofs.Sized.{sized_closed}
use Rattle.mvs_model.proofs.Stuck.{step_some}
use Rattle.mvs_model.proofs.Reading.{one_reading}
use Rattle.mvs_model.proofs.ReadingRanges.{line_ranged}
use Rattle.mvs_laws.proofs.Walking.{IsOfStep, served_first, served_in, steps_serve, leads_then, leads_next}
use Rattle.mvs_model.proofs.Tests.{by_case, none_some, true_false}

module _ (P : State → Type 0) (closed : Closed P) (at_start : (card : CardValue) → IsCard card → P (start card)) (C : Condition) where
  asks_keeps : (old : JobValue) (t : Name) (a : SourceRequest) (o : Option Request) (answer : Answer) (new : JobValue) → ((r : Request) → o ≡ Some r → IsRequest r) → Asks C old t a o answer new → P old.state → P new.state
  asks_keeps old t a None answer new h1 h2 h3 = subst (λ job. P job.state) (sym h2.1) h3
  asks_keeps old t a (Some r) answer new h1 h2 h3 = step_keeps P closed old.state t r h2.reply new.state (plan_in_range r (h1 r refl)) h2.step h3

  says_keeps : (old : JobValue) (t : Name) (s : Statement) (answer : Answer) (new : JobValue) → IsStatement false t s → AnswersTo C old t s answer new → P old.state → P new.state
  says_keeps old t s answer new h1 h2 h3 = grind (arith, nat_tests, asks_keeps, is_request)

  does_keeps : (old : JobValue) (t : Name) (s : Statement) (answer : Answer) (new : JobValue) → IsStatement false t s → Does C old t s answer new → P old.state → P new.state
  does_keeps old t s answer new r h p = by_case (not (is_active old.state.owners t)) h (λ n. subst (λ j. P j.state) (sym n.1) p) (λ k. says_keeps old t s answer new r k p)

  serves_keeps : (number : ℕ) (old : Option JobValue) (l : Line) (events : List Event) (new : Option JobValue) → IsLine (is_first old) (Ok l) → Serves (job_machine C) number old l events new → Holds P old → Holds P new
  serves_keeps number old line.Nothing events new r h p = subst (Holds P) (sym h.1) p
  serves_keeps number None (line.Statement t s) events new r h p =
      served_first (job_machine C) (IsStatement true t) (λ _. Holds P new) number t s events new h r (λ below above fill residence i e. subst (Holds P) (sym e.1) (at_start (card_of t below above fill residence) i))
  serves_keeps number (Some job) (line.Statement t s) events new r h p =
      served_in (job_machine C) (IsStatement false t) (λ _. Holds P new) number job t s events new h r (λ below above fill residence i e. subst (Holds P) (sym e.1) (at_start (card_of t below above fill residence) i))
      (λ s of_step i d. subst (Holds P) (sym d.4) (does_keeps job t s d.0 d.1 i d.2 p))

  pub line_keeps : (number : ℕ) (old : Option JobValue) (l : List ℕ) (events : List Event) (new : Option JobValue) → ServesLine (job_machine C) number old l events new → Holds P old → Holds P new
  line_keeps number old l events new h p = serves_keeps number old h.0 events new (line_ranged (is_first old) l h.0 h.1) h.2 p

  pub leads_keep : (number : ℕ) (lines : List (List ℕ)) (old : Option JobValue) (events : List Event) (new : Option JobValue) → Leads (job_machine C) number old lines events new → Holds P old → Holds P new
  leads_keep number [] old events new h p = subst (Holds P) (sym h.1) p
  leads_keep number (l ∷ lines) old events new (inl h) p = absurd h
  leads_keep number (l ∷ lines) old events new (inr h) p = leads_keep (number + 1) lines h.0 h.2 new h.5 (line_keeps number old l h.1 h.0 h.3 p)

-- What every step keeps holds in every state of a run.
pub running_keeps : (P : State → Type 0) → Closed P → ((card : CardValue) → IsCard card → P (start card)) → (job : JobValue) → IsRunning job → P job.state
running_keeps P closed at_start job is = leads_keep P closed at_start Any 1 is.lines None is.events (Some job) is.leads tt

-- at the start nothing is held, and there are no pools
none_held : (d : ℕ) → get (empty {X = Holding} {R = nat_cmp}) d ≡ None
none_held d = search (gets)

no_pools : (name : Name) → get (empty {X = Pool} {R = name_cmp}) name ≡ None
no_pools name = search (gets)

start_pages : (card : CardValue) → Pages (start card)
start_pages card d e s u page hd he = none_some (sym (ap subpool_in (none_held d)) ∙ hd)

pub start_sized : (card : CardValue) → PoolsSized (start card)
start_sized card name pool e = none_some (sym (no_pools name) ∙ e)

-- In every state of a run each page is of one subpool.
pub pages_kept : PagesHaveOneSubpool
pages_kept = running_keeps Pages pages_closed (λ card is. start_pages card)

leads_sized : (number : ℕ) (lines : List (List ℕ)) (old : Option JobValue) (events : List Event) (new : Option JobValue) → Leads machine number old lines events new → Sized old → Sized new
leads_sized = leads_keep PoolsSized sized_closed (λ card is. start_sized card) Any

-- In every state of a run each request has a step.
pub never_stuck : NeverStuck
never_stuck job is asker request r = step_some job.state asker request (running_keeps PoolsSized sized_closed (λ card is. start_sized card) job is) r

pub line_keeps_sized : (number : ℕ) (old : Option JobValue) (l : List ℕ) (events : List Event) (new : Option JobValue) → ServesLine machine number old l events new → Sized old → Sized new
line_keeps_sized = line_keeps PoolsSized sized_closed (λ card is. start_sized card) Any

-- a line has an answer and a step after it
asks_some : (old : JobValue) (t : Name) (a : SourceRequest) (o : Option Request) → ((r : Request) → o ≡ Some r → IsRequest r) → PoolsSized old.state → (answer : Answer) × (new : JobValue) × Asks Any old t a o answer new
asks_some old t a None r all = (_, old, (refl, refl))
asks_some old t a (Some q) r all =
    let s = step_some old.state t q all (r q refl) in (
      _,
      record { state = s.1.0; names = all_set old.names (names_set a) (places_in s.0); abended = old.abended || is_abend s.0; former = old.former },
      record { reply = s.0; step = s.1.1; meets = tt; names = refl; abended = refl; former = refl; answer_is = refl },
    )

says_some : (old : JobValue) (t : Name) (s : Statement) → IsOfStep s → IsStatement false t s → PoolsSized old.state → (answer : Answer) × (new : JobValue) × AnswersTo Any old t s answer new
says_some old t (says.Region below above fill residence) i r all = absurd i
says_some old t (says.Request a) i r all = asks_some old t a (resolved old.names a) (λ q e. is_request old.names a q r.1 e) all
says_some old t (says.Where name) i r all = (_, old, (refl, refl))
says_some old t says.ReportSubpools i r all = (_, old, (refl, refl))
says_some old t says.ReportMap i r all = (_, old, (refl, refl))

either_some : {P Q : Answer → JobValue → Type 0} (b : Bool) → ((answer : Answer) × (new : JobValue) × P answer new) → ((answer : Answer) × (new : JobValue) × Q answer new) → (answer : Answer) × (new : JobValue) × MatchBool b (P answer new) (Q answer new)
either_some true p q = p
either_some false p q = q

pub does_some : (old : JobValue) (t : Name) (s : Statement) → IsOfStep s → IsStatement false t s → PoolsSized old.state → (answer : Answer) × (new : JobValue) × Does Any old t s answer new
does_some old t s i r all =
    either_some {P = OnlyAnswers old NotRun} {Q = AnswersTo Any old t s} (not (is_active old.state.owners t)) (_, old, (refl, refl)) (says_some old t s i r all)

step_served : (number : ℕ) (job : JobValue) (t : Name) (s : Statement) → IsOfStep s → IsStatement false t s → PoolsSized job.state → (events : List Event) × (new : Option JobValue) × Serves machine number (Some job) (line.Statement t s) events new
step_served number job t s i r all =
    let d = does_some job t s i r all in
    (_, _, steps_serve machine number job t s (AnswerTo number t d.0 ∷ []) (Some d.1) i (d.0, d.1, d.2, refl, refl))

serves_some : (number : ℕ) (old : Option JobValue) (l : Line) → IsLine (is_first old) (Ok l) → Sized old → (events : List Event) × (new : Option JobValue) × Serves machine number old l events new
serves_some number old line.Nothing r all = ([], old, (refl, refl))
serves_some number old (line.Statement t (says.Region below above fill residence)) r all = (_, _, (refl, refl))
serves_some number None (line.Statement t (says.Request a)) r all = true_false r.0
serves_some number None (line.Statement t (says.Where name)) r all = true_false r
serves_some number None (line.Statement t says.ReportSubpools) r all = true_false r
serves_some number None (line.Statement t says.ReportMap) r all = true_false r
serves_some number (Some job) (line.Statement t (says.Request a)) r all = step_served number job t (says.Request a) tt r all
serves_some number (Some job) (line.Statement t (says.Where name)) r all = step_served number job t (says.Where name) tt r all
serves_some number (Some job) (line.Statement t says.ReportSubpools) r all = step_served number job t says.ReportSubpools tt r all
serves_some number (Some job) (line.Statement t says.ReportMap) r all = step_served number job t says.ReportMap tt r all

closes_some : (number : ℕ) (old : Option JobValue) → (events : List Event) × (outcome : Outcome) × Closes machine number old events outcome
closes_some number None = (_, _, (refl, refl))
closes_some number (Some job) = (_, _, (refl, refl))

-- from each step there is a run of all the lines
pub run_some : (number : ℕ) (lines : List (List ℕ)) (old : Option JobValue) → Sized old → (events : List Event) × (outcome : Outcome) × Walks machine (JobEnds machine outcome) number old lines events
run_some number [] old all = closes_some number old
run_some number (l ∷ lines) old all = at (one_reading.some (is_first old) l) (λ mid sized. run_some (number + 1) lines mid sized) where
  at : Reading (is_first old) l → ((mid : Option JobValue) → Sized mid → (events : List Event) × (outcome : Outcome) × Walks machine (JobEnds machine outcome) (number + 1) mid lines events) →
      (events : List Event) × (outcome : Outcome) × Walks machine (JobEnds machine outcome) number old (l ∷ lines) events
  at (Wrong fault is) go_on = (Faulted number fault ∷ [], ScriptFault, inl ((fault, is, refl), refl))
  at (Said said is) go_on =
      let s = serves_some number old said (line_ranged (is_first old) l said is) all in
      let more = go_on s.1 (line_keeps_sized number old l s.0 s.1 (said, is, s.2) all) in
      (s.0 ++ more.0, more.1, inr (s.1, s.0, more.0, (said, is, s.2), refl, more.2))

-- Each script has a printing.
pub each_is_printed : EachIsPrinted
each_is_printed script = let r = run_some 1 (lines_of script) None tt in (printing r.0, r.1, (r.0, r.2, refl))

-- what is printed for events is printed one after another
pub printed_both : (events more : List Event) → printing (events ++ more) ≡ printing events ++ printing more
printed_both events more = grind (arith, common_steps)

module _ (all : List (List ℕ)) where
  -- a line that lets the job go on
  pub reaches_next : (events first : List Event) (number : ℕ) (old new : Option JobValue) (l : List ℕ) (lines : List (List ℕ)) → Reaches all events number old (l ∷ lines) → ServesLine machine number old l first new → Reaches all (events ++ first) (number + 1) new lines
  reaches_next events first number old new l lines r s = record {
    served = r.served ++ l ∷ [];
    lines = r.lines ∙ sym (append_assoc r.served (l ∷ []) lines);
    counted = ap (λ n. n + 1) r.counted ∙ longer r.served;
    leads = leads_next machine r.served l 1 number None old new events first r.counted r.leads s;
  } where
    longer : (xs : List (List ℕ)) → 1 + length xs + 1 ≡ 1 + length (xs ++ l ∷ [])
    longer xs = let e = length-append xs (l ∷ []) in omega (arith, e)

  -- however the lines left go on, so does the whole
  pub reaches_then : (outcome : Outcome) (events rest : List Event) (number : ℕ) (old : Option JobValue) (left : List (List ℕ)) → Reaches all events number old left → Walks machine (JobEnds machine outcome) number old left rest → Walks machine (JobEnds machine outcome) 1 None all (events ++ rest)
  reaches_then outcome events rest number old left h1 h2 = grind (arith, nat_tests, leads_then)

  -- a front of the printing of a run
  abbrev pub Front : List ℕ → Type 0
  Front text = (rest : List ℕ) × (outcome : Outcome) × ((events : List Event) × Walks machine (JobEnds machine outcome) 1 None all events × (text ++ rest ≡ printing events))

  -- what is printed so far is one
  pub front_so_far : (events : List Event) (number : ℕ) (old : Option JobValue) (left : List (List ℕ)) → Reaches all events number old left → Front (printing events)
  front_so_far events number old left r =
      let p = run_some number left old (leads_sized 1 r.served None events old r.leads tt) in
      (printing p.0, p.1, (events ++ p.0, reaches_then p.1 events p.0 number old left r p.2, sym (printed_both events p.0)))

  regrouped : (text front back rest : List ℕ) → (text ++ front) ++ (back ++ rest) ≡ (text ++ (front ++ back)) ++ rest
  regrouped text front back rest = append_assoc text front (back ++ rest) ∙ ap (λ x. text ++ x) (sym (append_assoc front back rest)) ∙ sym (append_assoc text (front ++ back) rest)

  front_of : (events more : List Event) (front back : List ℕ) → printing more ≡ front ++ back → Front (printing (events ++ more)) → Front (printing events ++ front)
  front_of events more front back e f =
      (back ++ f.0, f.1, (f.2.0, f.2.1, regrouped (printing events) front back f.0 ∙ ap (λ x. (printing events ++ x) ++ f.0) (sym e) ∙ ap (λ x. x ++ f.0) (sym (printed_both events more)) ∙ f.2.2))

  -- and so is what ends in the middle of what is printed for a line
  pub front_in_line : (events more : List Event) (front back : List ℕ) (number : ℕ) (old new : Option JobValue) (l : List ℕ) (lines : List (List ℕ)) → printing more ≡ front ++ back → Reaches all events number old (l ∷ lines) → ServesLine machine number old l more new → Front (printing events ++ front)
  front_in_line events more front back number old new l lines e r s = front_of events more front back e (front_so_far (events ++ more) (number + 1) new lines (reaches_next events more number old new l lines r s))

  -- a line that takes memory: what is printed before its answer is a front
  pub front_at_memory : (events more : List Event) (number : ℕ) (old : Option JobValue) (l : List ℕ) (lines : List (List ℕ)) → Reaches all events number old (l ∷ lines) → StopsForMemory number old (l ∷ lines) more → Front (printing events ++ printing more)
  front_at_memory events more number old l lines r h = at old h.0 r h.1 h.2 where
    none : (old : Option JobValue) → Reaches all events number old (l ∷ lines) → more ≡ [] → Front (printing events ++ printing more)
    none old r e = subst (λ x. Front (printing events ++ printing x)) (sym e) (subst Front (sym (append-nil (printing events))) (front_so_far events number old (l ∷ lines) r))

    at : (old : Option JobValue) (said : Line) → Reaches all events number old (l ∷ lines) → LineOf (is_first old) l said → TakesMemory old said more → Front (printing events ++ printing more)
    at old (line.Statement t (says.Region below above fill residence)) r is e =
        let card = card_of t below above fill residence in
        let hints = AnswerTo number t (Region card) ∷ [] in
        let said = line.Statement t (says.Region below above fill residence) in
        front_in_line events (ending machine old ++ hints) (printing more) (printing hints) number old _ l lines (printed_both (ending machine old) hints ∙ ap (λ x. printing x ++ printing hints) (sym e)) r (said, is, (refl, refl))
    at (Some job) (line.Statement t (says.Request a)) r is h = none (Some job) r h.0
    at None line.Nothing r is h = absurd h
    at (Some job) line.Nothing r is h = absurd h
    at None (line.Statement t (says.Request a)) r is h = absurd h
    at None (line.Statement t (says.Where name)) r is h = absurd h
    at None (line.Statement t says.ReportSubpools) r is h = absurd h
    at None (line.Statement t says.ReportMap) r is h = absurd h
    at (Some job) (line.Statement t (says.Where name)) r is h = absurd h
    at (Some job) (line.Statement t says.ReportSubpools) r is h = absurd h
    at (Some job) (line.Statement t says.ReportMap) r is h = absurd h
