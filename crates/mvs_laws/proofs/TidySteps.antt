-- A tidy statement that is granted in full prints the same on both machines, and so does a tidy script.
use Rattle.std.proofs.Common.{◌≡◌, ℕ, ◌+◌, inl, inr, Bool, true, List, [], ◌∷◌, Option, Some, None, refl, sym, ap, ◌∙◌, subst, is_some, not, ◌||◌, MatchOption, option_map, nat_cmp, arith}
use Rattle.std.specs.FinMap.{get, get-empty}
use Rattle.std.proofs.lemmas.Bool.{not-false}
use Rattle.std.proofs.lemmas.Bool.Decides.{nat_tests}
use Rattle.std.proofs.lemmas.Grind.{common_steps}
use Rattle.mvs_laws.proofs.LabelCases.{cases_ask}
use Rattle.mvs_laws.proofs.Types.{Name, Line, Statement, Outcome}
use Rattle.mvs_model.specs.declared.line.Line.TheVariants as line
use Rattle.mvs_model.specs.declared.line.Statement.TheVariants as says
use Rattle.mvs_model.specs.Place.{place_at}
use Rattle.mvs_model.specs.Card.{CardValue}
use Rattle.mvs_model.specs.Name.{name_cmp}
use Rattle.mvs_model.specs.Owners.{is_active}
use Rattle.mvs_model.specs.Answers.{Answer, NotRun, NoName, Subpools, Event, StepEnded}
use Rattle.mvs_model.specs.Reports.{subpool_lines, subpool_lines_of}
use Rattle.mvs_model.specs.Job.{JobValue, job_at}
use Rattle.mvs_model.specs.Lines.{card_of, lines_of}
use Rattle.mvs_model.specs.Reading.{LineOf}
use Rattle.mvs_model.specs.Replies.{where_answer}
use Rattle.mvs_model.specs.Walk.{is_first, has_abended, ending, Serves, ServesLine, Faults, Closes, Walks, JobEnds}
use Rattle.mvs_model.specs.Runs.{AnswersTo, Does, job_machine, machine}
use Rattle.mvs_laws.specs.Labels as labels
use Rattle.mvs_laws.specs.Labels.{Labels, first_labels, bytes_there, label_machine}
use Rattle.mvs_laws.specs.Tidy.{Link, InFull, IsTidy, TidyLine, TidyLines, tidy_statement, TidyStep, TidyRun, TidyText}
use Rattle.mvs_laws.specs.Going.{Holds}
use Rattle.mvs_laws.proofs.Going.{line_keeps, running_keeps}
use Rattle.mvs_laws.proofs.Walking.{Turns, served_first, served_in, steps_serve}
use Rattle.mvs_laws.proofs.WithinKept.{Placed, placed_closed, start_placed}
use Rattle.mvs_laws.proofs.Counting.{Within, plain_same, pool_none}
use Rattle.mvs_laws.proofs.TidyAsks.{asks_same}
use Rattle.mvs_model.proofs.Tests.{match_true, match_false, by_test, false_true, none_some}

unset_of : (v : Option ℕ) → not (is_some v) ≡ true → v ≡ None
unset_of v h1 = grind (arith, nat_tests)

module _ (job : JobValue) (m : Labels) (k : Link job m) (t : Name) where
  -- the report on subpools
  report_same : Within job.state → subpool_lines_of job.state t ≡ subpool_lines m.owners (bytes_there m) (λ s. 0) t
  report_same within = grind (arith, nat_tests, plain_same, pool_none)

  module _ (within : Within job.state) (answer : Answer) (new : JobValue) where
    linked : (P : Labels → Type 0) → P m → new ≡ job → (later : Labels) × P later × Link new later
    linked P p e = (m, p, subst (λ j. Link j m) (sym e) k)

    says_same : (s : Statement) → is_active job.state.owners t ≡ true → tidy_statement m s ≡ true → AnswersTo InFull job t s answer new → (later : Labels) × labels.AnswersTo m t s answer later × Link new later
    says_same (says.Region below above fill residence) active tidy h = absurd h
    says_same (says.Request a) active tidy h = let s = asks_same job new m k t active answer a tidy h in (s.0, cases_ask m s.0 t answer a s.1, s.2)
    says_same (says.Where name) active tidy h =
        let none = unset_of (get m.names name) tidy in
        linked (λ later. MatchOption (get m.names name) (labels.AnswersWith NoName m answer later) (λ l. ⊥))
        (subst (λ v. MatchOption v (labels.AnswersWith NoName m answer m) (λ l. ⊥)) (sym none) (h.0 ∙ ap where_answer (k.names name ∙ ap (option_map (λ l. place_at (k.base l) (m.len l))) none), refl)) h.1
    says_same says.ReportSubpools active tidy h = linked (λ later. labels.AnswersWith (Subpools (subpool_lines m.owners (bytes_there m) (λ s. 0) t)) m answer later) (h.0 ∙ ap Subpools (report_same within), refl) h.1
    says_same says.ReportMap active tidy h = false_true tidy

    does_same : (s : Statement) → IsTidy m t s → Does InFull job t s answer new → (later : Labels) × labels.Does m t s answer later × Link new later
    does_same s tidy h =
        by_test (not (is_active job.state.owners t)) h
        (λ off x. (m, match_true (labels.AnswersWith NotRun m answer m) _ (not (is_active m.owners t)) (ap (λ o. not (is_active o t)) (sym k.owners) ∙ off) (x.0, refl), subst (λ j. Link j m) (sym x.1) k))
        (λ on x.
        let active = not-false (is_active job.state.owners t) on in
        let l = says_same s active (tidy (ap (λ o. is_active o t) (sym k.owners) ∙ active)) x in
        (l.0, match_false (labels.AnswersWith NotRun m answer l.0) _ (not (is_active m.owners t)) (ap (λ o. not (is_active o t)) (sym k.owners) ∙ on) l.1, l.2))

pub tidy_step : TidyStep
tidy_step job m t s answer new is k tidy h = does_same job m k t (running_keeps Placed placed_closed start_placed job is).0 answer new s tidy h

-- at the start of a step
link_start : (card : CardValue) (former : Bool) → Link (job_at card former) (first_labels card former)
link_start card former = record {
  base = λ l. 0;
  on_doubleword = λ l. refl;
  apart = λ x y i j b c e f s. none_some e;
  held = λ l i b e. none_some e;
  all_held = λ d h e. none_some (sym (get-empty nat_cmp d) ∙ e);
  bytes = λ l i b e. none_some e;
  all_bytes = λ a b e. none_some (sym (get-empty nat_cmp a) ∙ e);
  names = λ name. get-empty name_cmp name ∙ ap (option_map (λ l. place_at 0 0)) (sym (get-empty name_cmp name));
  pools = refl;
  owners = refl;
  fill = refl;
  abended = refl;
  former = refl;
  labels = record {
    whole = λ l. refl;
    inside = λ l i b e. none_some e;
    named = λ name l e. none_some (sym (get-empty name_cmp name) ∙ e);
  };
}

-- before the REGION statement, or in a step that is linked
abbrev pub Linked : Option JobValue → Option Labels → Type 0
Linked None None = Unit {0}
Linked None (Some m) = ⊥
Linked (Some job) None = ⊥
Linked (Some job) (Some m) = Link job m

-- a step that begins is linked with the labels of a step that begins
turns_same : (number : ℕ) (old : Option JobValue) (m : Option Labels) (t : Name) (card : CardValue) (events : List Event) (new : Option JobValue)
    → ending machine old ≡ ending label_machine m → has_abended machine old ≡ has_abended label_machine m → Turns (job_machine InFull) number old t card events new
    → (mid : Option Labels) × Turns label_machine number m t card events mid × Linked new mid
turns_same number old m t card events new e f h = grind (arith, nat_tests, link_start)

-- what a line says is tidy
abbrev IsTidyIn : Option Labels → Line → Type 0
IsTidyIn (Some m) (line.Statement t s) = IsTidy m t s
IsTidyIn m l = Unit {0}

serves_same : (number : ℕ) (old : Option JobValue) (m : Option Labels) (l : Line) (events : List Event) (new : Option JobValue) → Linked old m → Holds Placed old → IsTidyIn m l
    → Serves (job_machine InFull) number old l events new → (mid : Option Labels) × Serves label_machine number m l events mid × Linked new mid
serves_same number None (Some m) l events new k p tidy h = absurd k
serves_same number (Some job) None l events new k p tidy h = absurd k
serves_same number None None line.Nothing events new k p tidy h = (None, (h.0, refl), subst (λ j. Linked j None) (sym h.1) tt)
serves_same number None None (line.Statement t s) events new k p tidy h =
    served_first (job_machine InFull) (λ _. Unit {0}) (λ s. (mid : Option Labels) × Serves label_machine number None (line.Statement t s) events mid × Linked new mid) number t s events new h tt
    (λ below above fill residence _ x. turns_same number None None t (card_of t below above fill residence) events new refl refl x)
serves_same number (Some job) (Some m) line.Nothing events new k p tidy h = (Some m, (h.0, refl), subst (λ j. Linked j (Some m)) (sym h.1) k)
serves_same number (Some job) (Some m) (line.Statement t s) events new k p tidy h =
    served_in (job_machine InFull) (λ s. IsTidy m t s) (λ s. (mid : Option Labels) × Serves label_machine number (Some m) (line.Statement t s) events mid × Linked new mid) number job t s events new h tidy
    (λ below above fill residence _ x. turns_same number (Some job) (Some m) t (card_of t below above fill residence) events new (ap (λ b. StepEnded b ∷ []) k.abended) (λ i. k.abended i || k.former i) x)
    (λ s of_step tidy x.
    let l = does_same job m k t p.0 x.0 x.1 s tidy x.2 in
    (Some l.0, steps_serve label_machine number m t s events (Some l.0) of_step (x.0, l.0, l.1, x.3, refl), subst (λ j. Linked j (Some l.0)) (sym x.4) l.2))

tidy_in : (m : Option Labels) (bytes : List ℕ) (l : Line) → LineOf (is_first m) bytes l → TidyLine m bytes → IsTidyIn m l
tidy_in None bytes line.Nothing is tidy = tt
tidy_in None bytes (line.Statement t s) is tidy = tt
tidy_in (Some m) bytes line.Nothing is tidy = tt
tidy_in (Some m) bytes (line.Statement t s) is tidy = tidy t s is

same_first : (old : Option JobValue) (m : Option Labels) → Linked old m → is_first old ≡ is_first m
same_first old m h1 = grind (arith, common_steps)

closes_same : (number : ℕ) (old : Option JobValue) (m : Option Labels) (events : List Event) (outcome : Outcome) → Linked old m → Closes (job_machine InFull) number old events outcome → Closes label_machine number m events outcome
closes_same number old m events outcome h1 h2 = grind (arith, common_steps)

walks_same : (lines : List (List ℕ)) (number : ℕ) (old : Option JobValue) (m : Option Labels) (events : List Event) (outcome : Outcome) → Linked old m → Holds Placed old → TidyLines number m lines
    → Walks (job_machine InFull) (JobEnds (job_machine InFull) outcome) number old lines events → Walks label_machine (JobEnds label_machine outcome) number m lines events
walks_same [] number old m events outcome k p tidy h = closes_same number old m events outcome k h
walks_same (l ∷ lines) number old m events outcome k p tidy (inl f) = inl (subst (λ b. Faults number b l events) (same_first old m k) f.0, f.1)
walks_same (l ∷ lines) number old m events outcome k p tidy (inr h) =
    let said = h.3.0 in
    let is = subst (λ b. LineOf b l said) (same_first old m k) h.3.1 in
    let x = serves_same number old m said h.1 h.0 k p (tidy_in m l said is tidy.0) h.3.2 in
    let kept = line_keeps Placed placed_closed start_placed InFull number old l h.1 h.0 h.3 p in
    let serves : ServesLine label_machine number m l h.1 x.0 = (said, is, x.1) in
    inr (x.0, h.1, h.2, serves, h.4, walks_same lines (number + 1) h.0 x.0 h.2 outcome x.2 kept (tidy.1 h.1 x.0 serves) h.5)

pub tidy_run : TidyRun
tidy_run script events outcome tidy h = walks_same (lines_of script) 1 None None events outcome tt tt tidy h

pub tidy_text : TidyText
tidy_text script text outcome tidy h = (h.0, outcome, tidy_run script h.0 outcome tidy h.1, h.2)
