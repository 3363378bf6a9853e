-- A strict run: the lines that were not executed, by the entries of a trace.
use Rattle.std.proofs.Common.{◌≡◌, ℕ, ◌+◌, ◌-◌, inl, inr, List, [], ◌∷◌, ◌++◌, append_assoc, append-nil, arith, get_or, length, length-append, Option, Some, None, Bool, true, false, Result, Ok, Err, IfErr, IfOk, refl, sym, ap, ◌∙◌, subst}
use Rattle.std.specs.Prelude.{◌&&◌, ◌⊎◌, MatchResult, not, is_some}
use Rattle.std.specs.List.{list_all}
use Rattle.std.proofs.Math.Seq.{get_or-append_seam}
use Rattle.std.proofs.lemmas.Grind.{flat_map-append}
use Rattle.std.proofs.lemmas.List.Folds.{list_all-append}
use Rattle.std.specs.Io.KnownBytes.{Appends}
use Rattle.mvs_model.specs.declared.line.Line.{Line}
use Rattle.mvs_model.specs.declared.line.Line.TheVariants as line
use Rattle.mvs_model.specs.declared.line.Statement.TheVariants as says
use Rattle.mvs_model.specs.declared.name.Name.{Name}
use Rattle.mvs_model.specs.declared.outcome.Outcome.{Outcome}
use Rattle.mvs_model.specs.Answers as answer
use Rattle.mvs_model.specs.Answers.{Answer, Event, Faulted, StepEnded, AnswerTo}
use Rattle.mvs_model.specs.Job.{JobValue}
use Rattle.mvs_model.specs.Lines.{lines_of}
use Rattle.mvs_model.specs.Memory.{TakesMemory}
use Rattle.mvs_model.specs.Runs.{machine}
use Rattle.mvs_model.specs.Walk.{Closes, Serves, ending}
use Rattle.mvs_job.specs.declared.consumer.End.{End}
use Rattle.mvs_job.specs.declared.consumer.End.TheVariants as end
use Rattle.mvs_job.specs.declared.printing.Stop.{Stop}
use Rattle.mvs_job.specs.declared.printing.Stop.TheVariants as stop
use Rattle.mvs_job.specs.declared.strict.StrictOutcome.{StrictOutcome}
use Rattle.mvs_job.specs.declared.strict.SkipReason.{SkipReason}
use Rattle.mvs_job.specs.declared.strict.SkipReason.TheVariants as why
use Rattle.mvs_job.specs.declared.walk.LineEvent.{LineEvent}
use Rattle.mvs_job.specs.declared.walk.LineEvent.TheVariants as line_event
use Rattle.mvs_job.specs.Consuming.{IsEnd, IsEntry, Known, Leaves, LeavesText, Piece, keeps_nothing}
use Rattle.mvs_job.specs.Printed.{printed}
use Rattle.mvs_job.specs.Streams.{PrintedUpTo}
use Rattle.mvs_job.specs.Strict.{Grows, ObservesFront, Observes, PrintsStrictly, RunsObserved, Skipped, all_skipped, is_of_served, line_at, skipped_at, skipped_for, skipped_in}
use Rattle.mvs_job.specs.LineEvents.{WalkValue, ended, events_of_line}
use Rattle.mvs_job.specs.Trace.{Arrives, Ending, Ends, Entry, Exhausts, IsExecuted, IsTrace, Stops, Traces, events_of}
use Rattle.mvs_job.proofs.Printed.{exhausted_is_front, exhausted_printing, front_printing, printed_events}
use Rattle.mvs_job.proofs.Tracing.{trace_cut, trace_split, traces_are_runs, walk_of}

-- ---- what is heard of

pub grows_nil : {A : Type 0} (a : Option (List A)) → Grows a a []
grows_nil None = tt
grows_nil (Some xs) = sym (append-nil xs)

grows_trans : {A : Type 0} (a b c : Option (List A)) (xs ys : List A) → Grows a b xs → Grows b c ys → Grows a c (xs ++ ys)
grows_trans None b c xs ys p q = tt
grows_trans (Some first) None c xs ys p q = absurd p
grows_trans (Some first) (Some mid) None xs ys p q = absurd q
grows_trans (Some first) (Some mid) (Some last) xs ys p q = q ∙ ap (λ x. x ++ ys) p ∙ append_assoc first xs ys

skipped_both : (lines : ℕ → List ℕ) (xs ys : List Event) → all_skipped lines (xs ++ ys) ≡ all_skipped lines xs ++ all_skipped lines ys
skipped_both lines [] ys = refl
skipped_both lines (x ∷ xs) ys = ap (λ more. skipped_in lines x ++ more) (skipped_both lines xs ys) ∙ sym (append_assoc (skipped_in lines x) (all_skipped lines xs) (all_skipped lines ys))

pub skipped_more : (xs ys : List Entry) → skipped_at (xs ++ ys) ≡ skipped_at xs ++ skipped_at ys
skipped_more [] ys = refl
skipped_more (e ∷ xs) ys = ap (λ more. all_skipped (λ number. e.bytes) e.events ++ more) (skipped_more xs ys) ∙ sym (append_assoc (all_skipped (λ number. e.bytes) e.events) (skipped_at xs) (skipped_at ys))

-- ---- an entry more

and_nested : (a b c : Bool) → ((a && b) && c) ≡ (a && (b && c))
and_nested true b c = refl
and_nested false b c = refl

and_true : (a : Bool) → (a && true) ≡ a
and_true true = refl
and_true false = refl

module _ (all all' : Bool) (heard : Option (List Skipped)) (history : List Entry) where
  pub observes_next : (heard1 heard2 : Option (List Skipped)) (b : Bool) (e : Entry) (more : List Skipped) → Observes all all' heard heard1 history → list_all is_of_served e.events ≡ b → all_skipped (λ number. e.bytes) e.events ≡ more → Grows heard1 heard2 more
      → Observes all (all' && b) heard heard2 (history ++ e ∷ [])
  observes_next heard1 heard2 b e more o is skipped grows = record {
    served = ap (λ x. x && b) o.served ∙ and_nested all (list_all is_of_served (events_of history)) b ∙ ap (λ x. all && x) (ap (λ x. list_all is_of_served (events_of history) && x) (sym is ∙ ap (list_all is_of_served) (sym (append-nil e.events)))
        ∙ sym (list_all-append is_of_served (events_of history) (e.events ++ []))
        ∙ ap (list_all is_of_served) (sym (flat_map-append (λ e. e.events) history (e ∷ []))));
    skipped = subst (λ (x : List Skipped). Grows heard heard2 x) (ap (λ x. skipped_at history ++ x) (sym skipped ∙ sym (append-nil (all_skipped (λ number. e.bytes) e.events))) ∙ sym (skipped_more history (e ∷ []))) (grows_trans heard heard1 heard2 (skipped_at history) more o.skipped grows);
  }

-- ---- a line, by its number and by its bytes

answer_skipped : (f g : ℕ → List ℕ) (n : ℕ) (t : Name) (a : Answer) → f n ≡ g n → all_skipped f (AnswerTo n t a ∷ []) ≡ all_skipped g (AnswerTo n t a ∷ [])
answer_skipped f g n t answer.NotRun e = ap (λ line. skipped_for n line (Some why.NotRun) ++ []) e
answer_skipped f g n t answer.NoName e = ap (λ line. skipped_for n line (Some why.NoName) ++ []) e
answer_skipped f g n t (answer.At a) e = refl
answer_skipped f g n t answer.Rc0 e = refl
answer_skipped f g n t (answer.Granted len) e = refl
answer_skipped f g n t answer.Rc4 e = refl
answer_skipped f g n t answer.Cell e = refl
answer_skipped f g n t answer.NoCell e = refl
answer_skipped f g n t answer.Attached e = refl
answer_skipped f g n t answer.Ended e = refl
answer_skipped f g n t answer.Done e = refl
answer_skipped f g n t (answer.Data bytes) e = refl
answer_skipped f g n t (answer.Abended code fallen) e = refl
answer_skipped f g n t (answer.Subpools lines) e = refl
answer_skipped f g n t (answer.Map runs) e = refl
answer_skipped f g n t (answer.Region card) e = refl

step_skipped : (f : ℕ → List ℕ) (old : Option JobValue) → all_skipped f (ending machine old) ≡ []
step_skipped f None = refl
step_skipped f (Some job) = refl

module _ (f g : ℕ → List ℕ) (n : ℕ) (same : f n ≡ g n) (events : List Event) (new : Option JobValue) where
  answered : (t : Name) (a : Answer) → events ≡ AnswerTo n t a ∷ [] → all_skipped f events ≡ all_skipped g events
  answered t a e = ap (all_skipped f) e ∙ answer_skipped f g n t a same ∙ ap (all_skipped g) (sym e)

  served_skipped : (old : Option JobValue) (said : Line) → Serves machine n old said events new → all_skipped f events ≡ all_skipped g events
  served_skipped old line.Nothing h = ap (all_skipped f) h.0 ∙ ap (all_skipped g) (sym h.0)
  served_skipped old (line.Statement t (says.Region below above fill residence)) h =
      let begun : (f : ℕ → List ℕ) → all_skipped f events ≡ [] = λ f. ap (all_skipped f) h.0 ∙ skipped_both f (ending machine old) _ ∙ ap (λ x. x ++ []) (step_skipped f old) in
      begun f ∙ sym (begun g)
  served_skipped None (line.Statement t (says.Request a)) h = absurd h
  served_skipped None (line.Statement t (says.Where name)) h = absurd h
  served_skipped None (line.Statement t says.ReportSubpools) h = absurd h
  served_skipped None (line.Statement t says.ReportMap) h = absurd h
  served_skipped (Some job) (line.Statement t (says.Request a)) h = answered t h.0 h.3
  served_skipped (Some job) (line.Statement t (says.Where name)) h = answered t h.0 h.3
  served_skipped (Some job) (line.Statement t says.ReportSubpools) h = answered t h.0 h.3
  served_skipped (Some job) (line.Statement t says.ReportMap) h = answered t h.0 h.3

executed_skipped : (f : ℕ → List ℕ) (n : ℕ) (old : Option JobValue) (l : List ℕ) (e : Entry) → f n ≡ l → IsExecuted n old l e → all_skipped f e.events ≡ all_skipped (λ number. e.bytes) e.events
executed_skipped f n old l e at (said, events, new, of, serves, is) =
    ap (λ e. all_skipped f e.events) is ∙ served_skipped f (λ number. l) n at events new old said serves ∙ ap (λ e. all_skipped (λ number. e.bytes) e.events) (sym is)

-- ---- the last entry has no line that was not executed

closes_skipped : (f : ℕ → List ℕ) (n : ℕ) (old : Option JobValue) (events : List Event) (outcome : Outcome) → Closes machine n old events outcome → all_skipped f events ≡ []
closes_skipped f n None events outcome h = ap (all_skipped f) h.0
closes_skipped f n (Some job) events outcome h = ap (all_skipped f) h.0

takes_skipped : (f : ℕ → List ℕ) (old : Option JobValue) (said : Line) (events : List Event) → TakesMemory old said events → all_skipped f events ≡ []
takes_skipped f old (line.Statement t (says.Region below above fill residence)) events h = ap (all_skipped f) h ∙ step_skipped f old
takes_skipped f (Some job) (line.Statement t (says.Request a)) events h = ap (all_skipped f) h.0
takes_skipped f None line.Nothing events h = absurd h
takes_skipped f (Some job) line.Nothing events h = absurd h
takes_skipped f None (line.Statement t (says.Request a)) events h = absurd h
takes_skipped f None (line.Statement t (says.Where name)) events h = absurd h
takes_skipped f None (line.Statement t says.ReportSubpools) events h = absurd h
takes_skipped f None (line.Statement t says.ReportMap) events h = absurd h
takes_skipped f (Some job) (line.Statement t (says.Where name)) events h = absurd h
takes_skipped f (Some job) (line.Statement t says.ReportSubpools) events h = absurd h
takes_skipped f (Some job) (line.Statement t says.ReportMap) events h = absurd h

one_skipped : (f : ℕ → List ℕ) (e : Entry) (events : List Event) → e.events ≡ events → ((f : ℕ → List ℕ) → all_skipped f events ≡ []) → all_skipped f (events_of (e ∷ [])) ≡ skipped_at (e ∷ [])
one_skipped f e events is none =
    ap (all_skipped f) (append-nil e.events ∙ is) ∙ none f ∙ sym (append-nil (all_skipped (λ number. e.bytes) e.events) ∙ ap (all_skipped (λ number. e.bytes)) is ∙ none (λ number. e.bytes))

last_skipped : (f : ℕ → List ℕ) (how : Ending) (n : ℕ) (old : Option JobValue) (lines : List (List ℕ)) (entries : List Entry) → Stops how n old lines entries → all_skipped f (events_of entries) ≡ skipped_at entries
last_skipped f (Ends outcome) n old [] entries (e, (events, closes, is), same) =
    subst (λ x. all_skipped f (events_of x) ≡ skipped_at x) (sym same) (one_skipped f e events (ap (λ e. e.events) is) (λ f. closes_skipped f n old events outcome closes))
last_skipped f (Ends outcome) n old (l ∷ lines) entries (e, (fault, of, is), same, o) =
    subst (λ x. all_skipped f (events_of x) ≡ skipped_at x) (sym same) (one_skipped f e (Faulted n fault ∷ []) (ap (λ e. e.events) is) (λ f. refl))
last_skipped f Exhausts n old [] entries h = absurd h
last_skipped f Exhausts n old (l ∷ lines) entries (e, (said, events, of, takes, is), same) =
    subst (λ x. all_skipped f (events_of x) ≡ skipped_at x) (sym same) (one_skipped f e events (ap (λ e. e.events) is) (λ f. takes_skipped f old said events takes))
last_skipped f (Arrives new) n old [] entries (same, to) = subst (λ x. all_skipped f (events_of x) ≡ skipped_at x) (sym same) refl
last_skipped f (Arrives new) n old (l ∷ lines) entries h = absurd h

-- ---- a trace

-- the lines from this number on are these
abbrev Numbers : (ℕ → List ℕ) → ℕ → List (List ℕ) → Type 0
Numbers f n [] = Unit {0}
Numbers f n (l ∷ lines) = (f n ≡ l) × Numbers f (n + 1) lines

trace_skipped : (f : ℕ → List ℕ) (how : Ending) (n : ℕ) (old : Option JobValue) (lines : List (List ℕ)) (entries : List Entry) → Numbers f n lines → Traces how n old lines entries → all_skipped f (events_of entries) ≡ skipped_at entries
trace_skipped f how n old [] entries at t = last_skipped f how n old [] entries t
trace_skipped f how n old (l ∷ lines) entries at (inl t) = last_skipped f how n old (l ∷ lines) entries t
trace_skipped f how n old (l ∷ lines) entries at (inr (e, rest, is, same, t)) =
    subst (λ x. all_skipped f (events_of x) ≡ skipped_at x) (sym same)
    (skipped_both f e.events (events_of rest) ∙ ap (λ x. x ++ all_skipped f (events_of rest)) (executed_skipped f n old l e at.0 is) ∙ ap (λ x. all_skipped (λ number. e.bytes) e.events ++ x) (trace_skipped f how (n + 1) e.after lines rest at.1 t))

numbered : (all done lines : List (List ℕ)) (n : ℕ) → n ≡ 1 + length done → all ≡ done ++ lines → Numbers (λ number. get_or all (number - 1) []) n lines
numbered all done [] n at is = tt
numbered all done (l ∷ lines) n at is =
    let k : n - 1 ≡ length done = omega (arith, at) in (
      ap (λ k. get_or all k []) k ∙ ap (λ all. get_or all (length done) []) is ∙ get_or-append_seam done l lines [],
      numbered all (done ++ l ∷ []) lines (n + 1) (let e = length-append done (l ∷ []) in omega (arith, at, e)) (is ∙ sym (append_assoc done (l ∷ []) lines)),
    )

script_skipped : (script : List ℕ) (how : Ending) (entries : List Entry) → IsTrace script entries how → all_skipped (line_at script) (events_of entries) ≡ skipped_at entries
script_skipped script how entries t = trace_skipped (line_at script) how 1 None (lines_of script) entries (numbered (lines_of script) [] (lines_of script) 1 refl refl) t

-- ---- a run

first_numbers : (f : ℕ → List ℕ) (n : ℕ) (lines left : List (List ℕ)) → Numbers f n (lines ++ left) → Numbers f n lines
first_numbers f n [] left at = tt
first_numbers f n (l ∷ lines) left at = (at.0, first_numbers f (n + 1) lines left at.1)

exhausted_none : (n : ℕ) (old : Option JobValue) (lines : List (List ℕ)) (entries : List Entry) → Stops Exhausts n old lines entries → skipped_at entries ≡ []
exhausted_none n old [] entries h = absurd h
exhausted_none n old (l ∷ lines) entries (e, (said, events, of, takes, is), same) =
    ap skipped_at same ∙ append-nil (all_skipped (λ number. e.bytes) e.events) ∙ ap (all_skipped (λ number. e.bytes)) (ap (λ e. e.events) is) ∙ takes_skipped (λ number. e.bytes) old said events takes

-- a run that is printed
pub strict_ended : (script : List ℕ) (before after : Option (List ℕ)) (heard heard' : Option (List Skipped)) (outcome : Outcome) (all : Bool) → RunsObserved printed before after heard heard' script outcome all → PrintsStrictly before after heard heard' script outcome all
strict_ended script before after heard heard' outcome all (entries, text, trace, is, a, served, grows) =
    (events_of entries, subst (Appends before after) (printed_events [] entries text is) a, traces_are_runs script entries outcome trace, served, grows)

pub strict_stopped : (before after : Option (List ℕ)) (script : List ℕ) (why : Stop) → LeavesText printed before after script (Err why) → PrintedUpTo why before after script
strict_stopped before after script stop.Write (text, a, w) = (text, a, front_printing script (keeps_nothing tt) text tt w)
strict_stopped before after script stop.Memory (text, a, w) = (text, a, exhausted_is_front script (keeps_nothing tt) text tt w, exhausted_printing script (keeps_nothing tt) text tt w)

pub strict_ok : (before after : Option (List ℕ)) (heard heard' : Option (List Skipped)) (script : List ℕ) (r : Result StrictOutcome Stop) → IfOk r (λ end. RunsObserved printed before after heard heard' script end.outcome end.all_served)
    → IfOk r (λ end. PrintsStrictly before after heard heard' script end.outcome end.all_served)
strict_ok before after heard heard' script (Ok end) h = strict_ended script before after heard heard' end.outcome end.all_served h
strict_ok before after heard heard' script (Err why) h = tt

pub strict_err : (before after : Option (List ℕ)) (script : List ℕ) (r : Result StrictOutcome Stop) → IfErr r (λ why. LeavesText printed before after script (Err why)) → IfErr r (λ why. PrintedUpTo why before after script)
strict_err before after script (Ok end) h = tt
strict_err before after script (Err why) h = strict_stopped before after script why h

module _ (script : List ℕ) (heard heard' : Option (List Skipped)) where
  -- what was heard of some lines that were executed
  hears : (served left : List (List ℕ)) (n : ℕ) (step : Option JobValue) (entries : List Entry) → lines_of script ≡ served ++ left → n ≡ 1 + length served → Traces (Arrives step) 1 None served entries → Grows heard heard' (skipped_at entries) → ObservesFront heard heard' script
  hears served left n step entries cut at t grows =
      let numbers = first_numbers (line_at script) 1 served left (subst (Numbers (line_at script) 1) cut (numbered (lines_of script) [] (lines_of script) 1 refl refl)) in (
        events_of entries,
        n,
        step,
        left,
        record { served = served; lines = cut; counted = at; leads = walk_of (Arrives step) 1 None served entries t },
        subst (λ (x : List Skipped). Grows heard heard' x) (sym (trace_skipped (line_at script) (Arrives step) 1 None served entries numbers t)) grows,
      )

  module _ {S : Type 0} (piece : Piece) (knows : Known S) (before after : Option (List ℕ)) (s : S) (all : Bool) (observed : (entries : List Entry) → knows.has s entries ⊎ knows.had s entries → Observes true all heard heard' entries) where
    pub run_observed : (outcome : Outcome) → Leaves piece knows before after script s (Ok outcome) → RunsObserved piece before after heard heard' script outcome all
    run_observed outcome (text, a, w) =
        let o = observed w.entries (inl w.known) in (w.entries, text, w.trace, w.is, a, o.served, subst (λ (x : List Skipped). Grows heard heard' x) (sym (script_skipped script (Ends outcome) w.entries w.trace)) o.skipped)

    pub run_heard : (why : Stop) → Leaves piece knows before after script s (Err why) → ObservesFront heard heard' script
    run_heard stop.Write (text, a, w) =
        let r = trace_cut w.begun.how 1 None (lines_of script) w.entries w.next w.begun.rest w.begun.trace in
        hears r.served r.left (1 + length r.served) r.step w.entries r.lines_are refl r.trace (observed w.entries w.known).skipped
    run_heard stop.Memory (text, a, inr (entries, next, needs, known, begun)) =
        let r = trace_cut begun.how 1 None (lines_of script) entries next begun.rest begun.trace in
        hears r.served r.left (1 + length r.served) r.step entries r.lines_are refl r.trace (observed entries (inr known)).skipped
    run_heard stop.Memory (text, a, inl w) =
        let r = trace_split Exhausts 1 None (lines_of script) w.entries w.trace in
        let same : skipped_at w.entries ≡ skipped_at r.before = ap skipped_at r.entries_are ∙ skipped_more r.before r.last ∙ ap (λ x. skipped_at r.before ++ x) (exhausted_none r.next r.step r.left r.last r.stops) ∙ append-nil (skipped_at r.before) in
        hears r.served r.left r.next r.step r.before r.lines_are r.counted r.trace (subst (λ (x : List Skipped). Grows heard heard' x) same (observed w.entries (inl w.known)).skipped)

observed_so : {H : Type 0} (heard : H → Option (List Skipped)) (b c : ℕ) (start first now last : H) (all all' : Bool) → (b ≡ c → last ≡ now) → first ≡ start → all ≡ true
    → (entries : List Entry) → b ≡ c → Observes all all' (heard first) (heard now) entries → Observes true all' (heard start) (heard last) entries
observed_so heard b c start first now last all all' ends same new entries kept o = record {
  served = o.served ∙ ap (λ x. x && list_all is_of_served (events_of entries)) new;
  skipped = subst (λ (h : Option (List Skipped)). Grows (heard start) h (skipped_at entries)) (ap heard (sym (ends kept))) (subst (λ (h : Option (List Skipped)). Grows h (heard now) (skipped_at entries)) (ap heard same) o.skipped);
}

-- what an observer was called for that is borrowed: it has a name for as long, and is at the end what the borrow leaves
pub observed_at : {H : Type 0} (X : List Entry → Type 0) (heard : H → Option (List Skipped)) (b c : ℕ) (start first now last : H) (all all' : Bool) → (b ≡ c → last ≡ now) → first ≡ start → all ≡ true
    → (entries : List Entry) → ((b ≡ c) × X entries × Observes all all' (heard first) (heard now) entries) ⊎ ((b ≡ c) × Observes all all' (heard first) (heard now) entries) → Observes true all' (heard start) (heard last) entries
observed_at X heard b c start first now last all all' ends same new entries (inl (kept, x, o)) = observed_so heard b c start first now last all all' ends same new entries kept o
observed_at X heard b c start first now last all all' ends same new entries (inr (kept, o)) = observed_so heard b c start first now last all all' ends same new entries kept o

-- ---- a call

-- the entry of the end
ended_none : (n : ℕ) (how : End) (e : Entry) → IsEnd n how e → (list_all is_of_served e.events ≡ true) × (all_skipped (λ number. e.bytes) e.events ≡ [])
ended_none n (end.Closed None) e is = (ap (list_all is_of_served) is.1, ap (all_skipped (λ number. e.bytes)) is.1)
ended_none n (end.Closed (Some abended)) e is = (ap (list_all is_of_served) is.1, ap (all_skipped (λ number. e.bytes)) is.1)
ended_none n (end.Exhausted None) e is = (ap (list_all is_of_served) is.1, ap (all_skipped (λ number. e.bytes)) is.1)
ended_none n (end.Exhausted (Some abended)) e is = (ap (list_all is_of_served) is.1, ap (all_skipped (λ number. e.bytes)) is.1)

pub observes_end : (all all' : Bool) (heard heard' : Option (List Skipped)) (history : List Entry) (n : ℕ) (how : End) (e : Entry) → IsEnd n how e → Observes all all' heard heard' history → Observes all all' heard heard' (history ++ e ∷ [])
observes_end all all' heard heard' history n how e is o =
    let none = ended_none n how e is in
    subst (λ x. Observes all x heard heard' (history ++ e ∷ [])) (and_true all') (observes_next all all' heard history heard' heard' true e [] o none.0 none.1 (grows_nil heard'))

-- the entry of a line
and_false : (a : Bool) → (a && false) ≡ false
and_false true = refl
and_false false = refl

bytes_of : (n : ℕ) (line : List ℕ) (w : WalkValue) (t : LineEvent) (e : Entry) → IsEntry n line w t e → list_all is_of_served (events_of_line n w t) ≡ false → e.bytes ≡ line
bytes_of n line w line_event.Nothing e is unserved = ap (λ e. e.bytes) (is.of_line).5
bytes_of n line w (line_event.StepBegan ended card) e is unserved = ap (λ e. e.bytes) (is.of_line).5
bytes_of n line w (line_event.Answered t a) e is unserved = ap (λ e. e.bytes) (is.of_line).5
bytes_of n line w (line_event.Faulted fault) e is unserved = absurd (let f : true ≡ false = unserved in cc)

module _ (fa all : Bool) (heard heard1 : Option (List Skipped)) (history : List Entry) (n : ℕ) (line : List ℕ) (w : WalkValue) (t : LineEvent) (e : Entry) (o : Option SkipReason) (is : IsEntry n line w t e)
    (served : list_all is_of_served (events_of_line n w t) ≡ not (is_some o)) (skipped : (lines : ℕ → List ℕ) → all_skipped lines (events_of_line n w t) ≡ skipped_for n (lines n) o) (before : Observes fa all heard heard1 history) where
  pub unserved_next : (heard2 : Option (List Skipped)) (why : SkipReason) → o ≡ Some why → Grows heard1 heard2 (record { number = n; line = line; why = why } ∷ []) → Observes fa false heard heard2 (history ++ e ∷ [])
  unserved_next heard2 why some grows =
      let none : list_all is_of_served (events_of_line n w t) ≡ false = served ∙ ap (λ o. not (is_some o)) some in
      let bytes = bytes_of n line w t e is none in
      subst (λ x. Observes fa x heard heard2 (history ++ e ∷ [])) (and_false all)
      (observes_next fa all heard history heard1 heard2 false e (record { number = n; line = line; why = why } ∷ []) before (ap (list_all is_of_served) is.events ∙ none)
      (ap (all_skipped (λ number. e.bytes)) is.events ∙ skipped (λ number. e.bytes) ∙ ap (skipped_for n e.bytes) some ∙ ap (λ line. skipped_for n line (Some why)) bytes) grows)

  pub served_next : o ≡ None → Observes fa all heard heard1 (history ++ e ∷ [])
  served_next none =
      subst (λ x. Observes fa x heard heard1 (history ++ e ∷ [])) (and_true all)
      (observes_next fa all heard history heard1 heard1 true e [] before (ap (list_all is_of_served) is.events ∙ served ∙ ap (λ o. not (is_some o)) none)
      (ap (all_skipped (λ number. e.bytes)) is.events ∙ skipped (λ number. e.bytes) ∙ ap (skipped_for n e.bytes) none) (grows_nil heard1))

pub none_of : (o : Option SkipReason) → ((why : SkipReason) → o ≡ Some why → ⊥) → o ≡ None
none_of None other = refl
none_of (Some why) other = absurd (other why refl)

-- what no refusal changes
pub observes_kept : (fa all all' : Bool) (heard heard1 heard2 : Option (List Skipped)) (history : List Entry) → all' ≡ all → heard2 ≡ heard1 → Observes fa all heard heard1 history → Observes fa all' heard heard2 history
observes_kept fa all all' heard heard1 heard2 history same stays o = record { served = same ∙ o.served; skipped = subst (λ (h : Option (List Skipped)). Grows heard h (skipped_at history)) (sym stays) o.skipped }

-- what is known after a call, by its result
pub result_maps : {X E : Type 0} (r : Result X E) (P P' : X → Type 0) (Q Q' : E → Type 0) → ((x : X) → P x → P' x) → ((e : E) → Q e → Q' e) → MatchResult r P Q → MatchResult r P' Q'
result_maps (Ok x) P P' Q Q' f g h = f x h
result_maps (Err e) P P' Q Q' f g h = g e h
