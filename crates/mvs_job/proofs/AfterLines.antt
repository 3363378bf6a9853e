-- What is printed after a line: why it was refused, from what was heard of that, and what it did.
use Rattle.std.proofs.Common.{◌≡◌, ℕ, ◌++◌, inl, inr, Bool, true, false, cond, List, [], ◌∷◌, Option, Some, None, refl, sym, ap, subst, ◌∙◌, not, ◌⊎◌}
use Rattle.std.specs.Prelude.{is_some, MatchOption}
use Rattle.std.specs.Bool.{MatchBool}
use Rattle.std.specs.FinMap.{get}
use Rattle.std.specs.Option.{option_and_then, option_map}
use Rattle.mvs_model.specs.declared.name.Name.{Name}
use Rattle.mvs_model.specs.declared.answer.Answer.{Answer as Short}
use Rattle.mvs_model.specs.declared.answer.Answer.TheVariants as short
use Rattle.mvs_model.specs.declared.line.Line.{Line}
use Rattle.mvs_model.specs.declared.line.Line.TheVariants as line
use Rattle.mvs_model.specs.declared.line.Statement.{Statement}
use Rattle.mvs_model.specs.declared.line.Statement.TheVariants as says
use Rattle.mvs_model.specs.declared.line.SourceRequest.{SourceRequest}
use Rattle.mvs_model.specs.declared.reason.Reason.{Reason}
use Rattle.mvs_model.specs.declared.reason.Reason.TheVariants.{NotActive}
use Rattle.mvs_model.specs.declared.reason.LineReason.{LineReason}
use Rattle.mvs_model.specs.declared.reason.LineReason.TheVariants.{NotSet, Refused}
use Rattle.mvs_model.specs.declared.request.Request.{Request}
use Rattle.mvs_model.specs.Answers.{Answer, NotRun, NoName, Region, Ended, Abended, Event, AnswerTo, Faulted, At}
use Rattle.mvs_model.specs.Card.{CardValue}
use Rattle.mvs_model.specs.Causes.{IsRefused}
use Rattle.mvs_model.specs.Job.{JobValue}
use Rattle.mvs_model.specs.FullAnswers.{full_answer, ended_with_in}
use Rattle.mvs_model.specs.Owners.{is_active}
use Rattle.mvs_model.specs.Reading.{LineOf, FaultOf}
use Rattle.mvs_model.specs.Replies.{where_answer}
use Rattle.mvs_model.specs.Resolving.{first_unset, looked_up, resolved}
use Rattle.mvs_model.specs.Runs.{Any, Does, Asks, OnlyAnswers, machine}
use Rattle.mvs_model.specs.Walk.{Serves, is_first}
use Rattle.mvs_model.proofs.Reading.{one_reading}
use Rattle.mvs_model.proofs.Tests.{by_test, false_true, true_false, none_some, some_none}
use Rattle.request_forms.specs.Facts.{owned_subpools}
use Rattle.request_forms.specs.declared.facts.OwnedSubpool.{OwnedSubpool}
use Rattle.mvs_job.specs.declared.explained.Explained.{Explained}
use Rattle.mvs_job.specs.declared.granting.Baseline.{Baseline}
use Rattle.mvs_job.specs.declared.name_origins.NameOrigins.{NameOrigins as Lines}
use Rattle.mvs_job.specs.declared.walk.LineEvent.{LineEvent}
use Rattle.mvs_job.specs.declared.walk.LineEvent.TheVariants as line_event
use Rattle.mvs_job.specs.Looking.{IsLooking, KeepsExplained}
use Rattle.mvs_job.specs.Explaining.{IsExplanationText, explanation_text, reason_text, reason_part}
use Rattle.mvs_job.specs.Facts.{end_of, ended_by, freed_lines, freed_text}
use Rattle.std.specs.List.{flat_map}
use Rattle.explanation.specs.FactTexts.{fact_line}
use Rattle.mvs_job.specs.Granting.{IsGranting, before_line, facts_after, granted_text, reports_grant}
use Rattle.mvs_job.specs.NamedAddress.{IsNamingOf, NameOrigins, address_in, reason_address, lines_before, naming_text}
use Rattle.mvs_job.specs.Observing.{Fails, Hearing, Observes, ObservesLine, Passes, is_end, is_failure, is_refusal}
use Rattle.mvs_job.specs.LineEvents.{IsReadIn, ServesAs, WalkValue, region_card, ended, events_of_line, full_answer_in}
use Rattle.mvs_job.specs.Why.{OfNext, OfRequest, OfLine, OfRead, OfActiveStatement, answer_reason, line_reason, refused, spoken, reports_refusal, unset_of, OfStatement}
use Rattle.mvs_job.proofs.Observed.{is_return, some_unset}
use Rattle.mvs_model.specs.declared.line.Fault.{Fault}
use Rattle.mvs_model.specs.Place.{PlaceValue}
use Rattle.std.specs.Io.KnownBytes.{Appends}

-- ---- what the line did, by what was looked at before

nothing_done : (l : Line) (events : List Event) (new : Option JobValue) → granted_text None l events new ≡ []
nothing_done l events new = at (reports_grant events) where
  at : (yes : Bool) → flat_map fact_line (cond yes (facts_after None l new) []) ≡ []
  at true = refl
  at false = refl

nothing_before : (step : Option JobValue) → before_line step line.Nothing ≡ None
nothing_before None = refl
nothing_before (Some job) = refl

granting : (step : Option JobValue) (l : List ℕ) (read : Line) (before : Option Baseline) → IsReadIn step l read → before ≡ before_line step read → (events : List Event) (new : Option JobValue) → IsGranting step l events new (granted_text before read events new)
granting None l read before is looked events new = inr (inl (refl, ap (λ b. granted_text b read events new) looked ∙ nothing_done read events new))
granting (Some job) l read before (inl of) looked events new = inl (read, of, ap (λ b. granted_text b read events new) looked)
granting (Some job) l read before (inr (fault, of, is)) looked events new =
    inr (inr (fault, of, ap (λ b. granted_text b read events new) (looked ∙ ap (before_line (Some job)) is ∙ nothing_before (Some job)) ∙ nothing_done read events new))

-- ---- the parts of the text

-- The text explains the next line, and this is why it was not executed as it asks.
abbrev Stood : Option JobValue → NameOrigins → List ℕ → Line → List Event → Option JobValue → Explained → Type 0
Stood old set bytes read events new x = IsExplanationText old set bytes events new (explanation_text x read events new) × OfNext old bytes events x.reason

assemble : (job : JobValue) (set : NameOrigins) (bytes : List ℕ) (read l : Line) (events : List Event) (new : Option JobValue) (x : Explained) → LineOf false bytes l → OfRead job l events x.reason
    → reason_part read x.why.request x.reason ≡ reason_text job l x.reason → IsNamingOf job set (address_in job l x.reason) x.naming → freed_lines x.why.subpools (ended_by events) ≡ freed_text job (ended_by events)
    → IsGranting (Some job) bytes events new (granted_text x.why.before read events new) → Stood (Some job) set bytes read events new x
assemble job set bytes read l events new x of why text names frees grants = (
  (
    reason_part read x.why.request x.reason,
    naming_text x.naming,
    freed_lines x.why.subpools (ended_by events),
    granted_text x.why.before read events new,
    inl (l, of, (x.reason, why, text)),
    (address_in job l x.reason, inl (l, of, (x.reason, why, refl)), (x.naming, names, refl)),
    frees,
    grants,
    refl,
  ),
  inl (l, of, why),
)

-- before the first step
nowhere : (set : NameOrigins) (bytes : List ℕ) (read : Line) (events : List Event) (new : Option JobValue) (x : Explained) → x.naming ≡ None → x.reason ≡ None → ended_by events ≡ None
    → IsGranting None bytes events new (granted_text x.why.before read events new) → Stood None set bytes read events new x
nowhere set bytes read events new x unnamed unsaid none grants = (
  (
    reason_part read x.why.request x.reason,
    naming_text x.naming,
    freed_lines x.why.subpools (ended_by events),
    granted_text x.why.before read events new,
    ap (reason_part read x.why.request) unsaid,
    ap naming_text unnamed,
    ap (freed_lines x.why.subpools) none,
    grants,
    refl,
  ),
  unsaid,
)

-- ---- which subpools go

no_end : (job : JobValue) (subpools : List OwnedSubpool) (events : List Event) → ended_by events ≡ None → freed_lines subpools (ended_by events) ≡ freed_text job (ended_by events)
no_end job subpools events none = ap (freed_lines subpools) none ∙ sym (ap (freed_text job) none)

of_answer : (job : JobValue) (t : Name) (answer : Answer) (subpools : List OwnedSubpool) → (is_end answer ≡ true → subpools ≡ owned_subpools job.state t) → freed_lines subpools (end_of t answer) ≡ freed_text job (end_of t answer)
of_answer job t (Abended code fallen) subpools owned = ap (λ s. freed_lines s (Some (t, fallen))) (owned refl)
of_answer job t Ended subpools owned = ap (λ s. freed_lines s (Some (t, []))) (owned refl)
of_answer job t answer subpools owned = refl

-- ---- a line of which nothing was heard

module _ (job : JobValue) (set : NameOrigins) (bytes : List ℕ) (l : Line) (of : LineOf false bytes l) (read : Line) (reads : IsReadIn (Some job) bytes read) (mid : Explained) (look : IsLooking (Some job) set read mid) where
  read_is : read ≡ l
  read_is = elim reads [ inl is ↦ one_reading.one_line false bytes read l is of | inr f ↦ absurd (one_reading.not_both false bytes l f.0 of f.1) ]

  unheard : (events : List Event) (new : Option JobValue) (r : Option LineReason) (lines : Lines) → OfRead job l events r → ((request : Request) → reason_part l request r ≡ reason_text job l r) → address_in job l r ≡ None
      → freed_lines mid.why.subpools (ended_by events) ≡ freed_text job (ended_by events) → Stood (Some job) set bytes read events new (record { why = mid.why; reason = r; naming = mid.naming; lines = lines })
  unheard events new r lines why text none frees =
      assemble job set bytes read l events new (record { why = mid.why; reason = r; naming = mid.naming; lines = lines }) of why (ap (λ k. reason_part k mid.why.request r) read_is ∙ text mid.why.request)
      (subst (λ a. IsNamingOf job set a mid.naming) (sym none) look.unnamed) frees (granting (Some job) bytes read mid.why.before reads look.before events new)

-- ---- what is answered

-- why a line that was answered so was not executed as it asks
abbrev full_reason : Option JobValue → Line → Option Reason → Answer → Option LineReason
full_reason step l reason NotRun = Some (Refused NotActive)
full_reason step l reason NoName = unset_of step l
full_reason step l reason answer = refused reason

same_reason : (step : Option JobValue) (l : Line) (reason : Option Reason) (later : JobValue) (fallen : List Name) (t : Name) (a : Short) → answer_reason step l reason a ≡ full_reason step l reason (full_answer later.state fallen t a)
same_reason step l reason later fallen t short.NotRun = refl
same_reason step l reason later fallen t short.NoName = refl
same_reason step l reason later fallen t a = refl

by_refusal : (step : Option JobValue) (l : Line) (reason : Option Reason) (y : Answer) → is_refusal y ≡ false → full_reason step l reason y ≡ refused reason
by_refusal step l reason NotRun e = true_false e
by_refusal step l reason NoName e = true_false e
by_refusal step l reason y e = refl

by_failure : (step : Option JobValue) (l : Line) (reason : Option Reason) (y : Answer) → is_failure y ≡ true → full_reason step l reason y ≡ refused reason
by_failure step l reason NotRun e = false_true e
by_failure step l reason NoName e = false_true e
by_failure step l reason y e = refl

failure_refuses : (y : Answer) → is_failure y ≡ true → is_refusal y ≡ true
failure_refuses NotRun e = refl
failure_refuses NoName e = refl
failure_refuses y e = e

-- what is kept of a refusal
abbrev pub keeps : Hearing Explained
keeps old job t request refusal left new = KeepsExplained old job t request refusal new

-- ---- a statement of a step

module _ (number : ℕ) (job later : JobValue) (set : NameOrigins) (bytes : List ℕ) (t : Name) (read : Line) (reads : IsReadIn (Some job) bytes read) (mid : Explained) (look : IsLooking (Some job) set read mid) (lines : Lines) where
  -- what is printed after a statement that was answered so, after which this is kept
  abbrev Stands : Explained → Option LineReason → Answer → Type 0
  Stands after r y = Stood (Some job) set bytes read (AnswerTo number t y ∷ []) (Some later) (record { why = after.why; reason = r; naming = after.naming; lines = lines })

  -- where nothing was heard
  silent : (s : Statement) (after : Explained) (r : Option LineReason) (y : Answer) → LineOf false bytes (line.Statement t s) → after ≡ mid → OfRead job (line.Statement t s) (AnswerTo number t y ∷ []) r
      → ((request : Request) → reason_part (line.Statement t s) request r ≡ reason_text job (line.Statement t s) r) → address_in job (line.Statement t s) r ≡ None → (is_end y ≡ true → mid.why.subpools ≡ owned_subpools job.state t) → Stands after r y
  silent s after r y of same why text none owned =
      subst (λ a. Stands a r y) (sym same) (unheard job set bytes (line.Statement t s) of read reads mid look (AnswerTo number t y ∷ []) (Some later) r lines why text none (of_answer job t y mid.why.subpools owned))

  module _ (q : SourceRequest) (of : LineOf false bytes (line.Statement t (says.Request q))) where
    read_request : read ≡ line.Statement t (says.Request q)
    read_request = read_is job set bytes (line.Statement t (says.Request q)) of read reads mid look

    -- its task is not active
    inactive : (after : Explained) (y : Answer) → not (is_active job.state.owners t) ≡ true → after ≡ mid → y ≡ NotRun → Stands after (full_reason (Some later) read after.why.reason y) y
    inactive after y off same is =
        subst (λ z. Stands after (full_reason (Some later) read after.why.reason z) z) (sym is)
        (silent (says.Request q) after (Some (Refused NotActive)) NotRun of same (subst (λ b. MatchBool b (Some (Refused NotActive) ≡ Some (Refused NotActive)) (OfActiveStatement job t (says.Request q) (Some (Refused NotActive)))) (sym off) refl, refl) (λ request. refl) refl (λ e. false_true e))

    -- a name is not set
    unset : (after : Explained) (y : Answer) → not (is_active job.state.owners t) ≡ false → resolved job.names q ≡ None → after ≡ mid → later ≡ job → y ≡ NoName → Stands after (full_reason (Some later) read after.why.reason y) y
    unset after y on none same stays is =
        subst (λ z. Stands after (full_reason (Some later) read after.why.reason z) z) (sym is)
        (subst (λ r. Stands after r NoName) (sym unset_is) (at (first_unset job.names (looked_up q)) refl (some_unset job.names q none))) where
          unset_is : unset_of (Some later) read ≡ option_map (λ name. NotSet name) (first_unset job.names (looked_up q))
          unset_is = ap (λ j. unset_of (Some j) read) stays ∙ ap (unset_of (Some job)) read_request

          at : (v : Option Name) → first_unset job.names (looked_up q) ≡ v → is_some v ≡ true → Stands after (option_map (λ name. NotSet name) v) NoName
          at None f some = false_true some
          at (Some name) f some =
              silent (says.Request q) after (Some (NotSet name)) NoName of same (
                subst (λ b. MatchBool b (Some (NotSet name) ≡ Some (Refused NotActive)) (OfActiveStatement job t (says.Request q) (Some (NotSet name)))) (sym on)
                    (subst (λ v. OfRequest job t q v (Some (NotSet name))) (sym none) (sym (ap (option_map (λ name. NotSet name)) f))),
                refl,
              ) (λ request. refl) refl (λ e. false_true e)

    -- the request passes
    passes : (after : Explained) (y : Answer) (r : Request) → not (is_active job.state.owners t) ≡ false → resolved job.names q ≡ Some r → Passes mid job t r y after → Stands after (full_reason (Some later) read after.why.reason y) y
    passes after y r on is h =
        subst (λ x. Stands after x y) (sym (by_refusal (Some later) read after.why.reason y h.2 ∙ ap refused (ap (λ (x : Explained). x.why.reason) h.0 ∙ look.unheard)))
        (silent (says.Request q) after None y of h.0
        (subst (λ b. MatchBool b (None ≡ Some (Refused NotActive)) (OfActiveStatement job t (says.Request q) None)) (sym on) (subst (λ v. OfRequest job t q v None) (sym is) (None, h.1, refl)), sym h.2)
        (λ request. refl) refl (λ e. look.subpools job refl t (read_request ∙ ap (λ x. line.Statement t (says.Request x)) (is_return job.names q (is ∙ ap (λ x. Some x) (h.3 e))))))

    -- the request is refused
    fails : (after : Explained) (y : Answer) (r : Request) → not (is_active job.state.owners t) ≡ false → resolved job.names q ≡ Some r → Fails keeps mid job t r y after → Stands after (full_reason (Some later) read after.why.reason y) y
    fails after y r on is (refusal, left, refuses, lacks, failed, ends, kept) =
        subst (λ x. Stands after x y) (sym (by_failure (Some later) read after.why.reason y failed ∙ ap refused kept.why.found))
        (assemble job set bytes read (line.Statement t (says.Request q)) (AnswerTo number t y ∷ []) (Some later) (record { why = after.why; reason = Some (Refused kept.why.reason); naming = after.naming; lines = lines }) of
        (why, sym (failure_refuses y failed)) text names (of_answer job t y after.why.subpools (λ e. let c = ends e in kept.why.subpools c.0 c.1))
        (subst (λ b. IsGranting (Some job) bytes (AnswerTo number t y ∷ []) (Some later) (granted_text b read (AnswerTo number t y ∷ []) (Some later))) (sym kept.why.before)
        (granting (Some job) bytes read mid.why.before reads look.before (AnswerTo number t y ∷ []) (Some later)))) where
          reason : Reason
          reason = kept.why.reason

          asks : after.why.request ≡ r
          asks = kept.why.asks

          why : OfLine job (line.Statement t (says.Request q)) (Some (Refused reason))
          why = subst (λ b. MatchBool b (Some (Refused reason) ≡ Some (Refused NotActive)) (OfActiveStatement job t (says.Request q) (Some (Refused reason)))) (sym on)
              (subst (λ v. OfRequest job t q v (Some (Refused reason))) (sym is) (Some reason, (subst (IsRefused job.state t r) (sym kept.why.explains.0) refuses, kept.why.explains.1), refl))

          text : reason_part read after.why.request (Some (Refused reason)) ≡ reason_text job (line.Statement t (says.Request q)) (Some (Refused reason))
          text = ap (λ l. reason_part l after.why.request (Some (Refused reason))) read_request ∙ ap (λ x. reason_part (line.Statement t (says.Request q)) x (Some (Refused reason))) asks
              ∙ ap (λ v. reason_part (line.Statement t (says.Request q)) (spoken v) (Some (Refused reason))) (sym is)

          names : IsNamingOf job set (address_in job (line.Statement t (says.Request q)) (Some (Refused reason))) after.naming
          names = subst (λ v. IsNamingOf job set (reason_address (spoken v) reason) after.naming) (sym is)
              (subst (λ x. IsNamingOf job set (reason_address x reason) after.naming) asks
              (subst (λ v. IsNamingOf job set (option_and_then (reason_address after.why.request) v) after.naming) kept.why.found (subst (λ lines. IsNamingOf job lines (option_and_then (reason_address after.why.request) after.why.reason) after.naming) (look.lines job refl) kept.naming)))

    -- a request of a task that is active
    asked_stands : (after : Explained) (y : Answer) → not (is_active job.state.owners t) ≡ false → (v : Option Request) → resolved job.names q ≡ v → Asks Any job t q v y later
        → MatchOption v (after ≡ mid) (λ r. Passes mid job t r y after ⊎ Fails keeps mid job t r y after) → Stands after (full_reason (Some later) read after.why.reason y) y
    asked_stands after y on None is does same = unset after y on is same does.1 does.0
    asked_stands after y on (Some r) is does (inl h) = passes after y r on is h
    asked_stands after y on (Some r) is does (inr h) = fails after y r on is h

    request_stands : (after : Explained) (y : Answer) → Does Any job t (says.Request q) y later → Observes keeps mid job t (says.Request q) y after → Stands after (full_reason (Some later) read after.why.reason y) y
    request_stands after y does observes = at (is_active job.state.owners t) refl does observes where
      at : (b : Bool) → is_active job.state.owners t ≡ b → MatchBool (not b) (OnlyAnswers job NotRun y later) (Asks Any job t q (resolved job.names q) y later)
          → MatchBool b (MatchOption (resolved job.names q) (after ≡ mid) (λ r. Passes mid job t r y after ⊎ Fails keeps mid job t r y after)) (after ≡ mid) → Stands after (full_reason (Some later) read after.why.reason y) y
      at true e does observes = asked_stands after y (ap not e) (resolved job.names q) refl does observes
      at false e does observes = inactive after y (ap not e) observes does.0

  -- a question, of a task that is not active, and of one that is
  off_stands : (s : Statement) (after : Explained) (y : Answer) → LineOf false bytes (line.Statement t s) → OfLine job (line.Statement t s) (Some (Refused NotActive)) → ((request : Request) → reason_part (line.Statement t s) request (Some (Refused NotActive)) ≡ reason_text job (line.Statement t s) (Some (Refused NotActive)))
      → address_in job (line.Statement t s) (Some (Refused NotActive)) ≡ None → after ≡ mid → y ≡ NotRun → Stands after (full_reason (Some later) read after.why.reason y) y
  off_stands s after y of why text none same is =
      subst (λ z. Stands after (full_reason (Some later) read after.why.reason z) z) (sym is) (silent s after (Some (Refused NotActive)) NotRun of same (why, refl) text none (λ e. false_true e))

  plain_stands : (s : Statement) (after : Explained) (y : Answer) → LineOf false bytes (line.Statement t s) → OfLine job (line.Statement t s) None → address_in job (line.Statement t s) None ≡ None → after ≡ mid → is_refusal y ≡ false → is_end y ≡ false
      → Stands after (full_reason (Some later) read after.why.reason y) y
  plain_stands s after y of why none same granted stays =
      subst (λ x. Stands after x y) (sym (by_refusal (Some later) read after.why.reason y granted ∙ ap refused (ap (λ (x : Explained). x.why.reason) same ∙ look.unheard)))
      (silent s after None y of same (why, sym granted) (λ request. refl) none (λ e. true_false (sym e ∙ stays)))

  off_reason : (s : Statement) → not (is_active job.state.owners t) ≡ true → (r : Option LineReason) → r ≡ Some (Refused NotActive) → OfStatement job t s r
  off_reason s off r e = subst (λ b. MatchBool b (r ≡ Some (Refused NotActive)) (OfActiveStatement job t s r)) (sym off) e

  on_reason : (s : Statement) → not (is_active job.state.owners t) ≡ false → (r : Option LineReason) → OfActiveStatement job t s r → OfStatement job t s r
  on_reason s on r h = subst (λ b. MatchBool b (r ≡ Some (Refused NotActive)) (OfActiveStatement job t s r)) (sym on) h

  where_stands : (name : Name) (after : Explained) (y : Answer) → LineOf false bytes (line.Statement t (says.Where name)) → Does Any job t (says.Where name) y later → after ≡ mid → Stands after (full_reason (Some later) read after.why.reason y) y
  where_stands name after y of does same = at (not (is_active job.state.owners t)) refl does where
    s : Statement
    s = says.Where name

    found : (v : Option PlaceValue) → get job.names name ≡ v → not (is_active job.state.owners t) ≡ false → y ≡ where_answer v → Stands after (full_reason (Some later) read after.why.reason y) y
    found None e on is =
        subst (λ z. Stands after (full_reason (Some later) read after.why.reason z) z) (sym is)
        (subst (λ r. Stands after r NoName) (sym (ap (unset_of (Some later)) (read_is job set bytes (line.Statement t s) of read reads mid look)))
        (silent s after (Some (NotSet name)) NoName of same (on_reason s on (Some (NotSet name)) (subst (λ v. MatchOption v (Some (NotSet name) ≡ Some (NotSet name)) (λ _. Some (NotSet name) ≡ None)) (sym e) refl), refl) (λ request. refl) refl (λ f. false_true f)))
    found (Some p) e on is =
        subst (λ z. Stands after (full_reason (Some later) read after.why.reason z) z) (sym is)
        (plain_stands s after (At p.addr) of (on_reason s on None (subst (λ v. MatchOption v (None ≡ Some (NotSet name)) (λ _. ◌≡◌ {A = Option LineReason} None None)) (sym e) refl)) refl same refl refl)

    at : (b : Bool) → not (is_active job.state.owners t) ≡ b → MatchBool b (OnlyAnswers job NotRun y later) (OnlyAnswers job (where_answer (get job.names name)) y later) → Stands after (full_reason (Some later) read after.why.reason y) y
    at true off h = off_stands s after y of (off_reason s off (Some (Refused NotActive)) refl) (λ request. refl) refl same h.0
    at false on h = found (get job.names name) refl on h.0

  report_stands : (s : Statement) (answer after_answer : Answer) (after : Explained) (y : Answer) → answer ≡ after_answer → LineOf false bytes (line.Statement t s) → ((r : Option LineReason) → OfStatement job t s r → OfLine job (line.Statement t s) r) → OfActiveStatement job t s None
      → ((request : Request) → reason_part (line.Statement t s) request (Some (Refused NotActive)) ≡ reason_text job (line.Statement t s) (Some (Refused NotActive))) → ((r : Option LineReason) → address_in job (line.Statement t s) r ≡ None)
      → is_refusal answer ≡ false → is_end answer ≡ false → MatchBool (not (is_active job.state.owners t)) (OnlyAnswers job NotRun y later) (OnlyAnswers job answer y later) → after ≡ mid → Stands after (full_reason (Some later) read after.why.reason y) y
  report_stands s answer _ after y _ of opens said text none granted stays does same = at (not (is_active job.state.owners t)) refl does where
    at : (b : Bool) → not (is_active job.state.owners t) ≡ b → MatchBool b (OnlyAnswers job NotRun y later) (OnlyAnswers job answer y later) → Stands after (full_reason (Some later) read after.why.reason y) y
    at true off h = off_stands s after y of (opens _ (off_reason s off (Some (Refused NotActive)) refl)) text (none _) same h.0
    at false on h = plain_stands s after y of (opens _ (on_reason s on None said)) (none _) same (ap is_refusal h.0 ∙ granted) (ap is_end h.0 ∙ stays)

  statement_stands : (s : Statement) (after : Explained) (y : Answer) → LineOf false bytes (line.Statement t s) → Does Any job t s y later → Observes keeps mid job t s y after → region_card t s ≡ None → Stands after (full_reason (Some later) read after.why.reason y) y
  statement_stands (says.Request q) after y of does observes plain = request_stands q of after y does observes
  statement_stands (says.Region below above fill residence) after y of does observes plain = some_none plain
  statement_stands (says.Where name) after y of does observes plain = where_stands name after y of does observes
  statement_stands says.ReportSubpools after y of does observes plain = report_stands says.ReportSubpools _ _ after y refl of (λ r h. h) refl (λ request. refl) (λ r. refl) refl refl does observes
  statement_stands says.ReportMap after y of does observes plain = report_stands says.ReportMap _ _ after y refl of (λ r h. h) refl (λ request. refl) (λ r. refl) refl refl does observes

-- ---- a line

one_event : (x y : Answer) (number : ℕ) (t : Name) → ◌≡◌ {A = List Event} (AnswerTo number t x ∷ []) (AnswerTo number t y ∷ []) → x ≡ y
one_event x y number t e = cc

some_job : (x y : JobValue) → Some x ≡ Some y → x ≡ y
some_job x y e = cc

not_two : {P : Type 0} (x y : Event) (more : List Event) → ◌≡◌ {A = List Event} (x ∷ []) (y ∷ more) → (more ≡ [] → ⊥) → P
not_two x y more e some = absurd (some (let f : [] ≡ more = cc in sym f))

-- what a statement was answered by its step
pub answered_does : (number : ℕ) (job later : JobValue) (t : Name) (s : Statement) (y : Answer) → Serves machine number (Some job) (line.Statement t s) (AnswerTo number t y ∷ []) (Some later) → Does Any job t s y later × (region_card t s ≡ None)
answered_does number job later t (says.Region below above fill residence) y h = absurd (let e = h.0 in cc)
answered_does number job later t (says.Request q) y (z, last, does, e, f) = (subst (λ x. Does Any job t (says.Request q) x later) (sym (one_event y z number t e)) (subst (Does Any job t (says.Request q) z) (sym (some_job later last f)) does), refl)
answered_does number job later t (says.Where name) y (z, last, does, e, f) = (subst (λ x. Does Any job t (says.Where name) x later) (sym (one_event y z number t e)) (subst (Does Any job t (says.Where name) z) (sym (some_job later last f)) does), refl)
answered_does number job later t says.ReportSubpools y (z, last, does, e, f) = (subst (λ x. Does Any job t says.ReportSubpools x later) (sym (one_event y z number t e)) (subst (Does Any job t says.ReportSubpools z) (sym (some_job later last f)) does), refl)
answered_does number job later t says.ReportMap y (z, last, does, e, f) = (subst (λ x. Does Any job t says.ReportMap x later) (sym (one_event y z number t e)) (subst (Does Any job t says.ReportMap z) (sym (some_job later last f)) does), refl)

module _ (set : NameOrigins) (bytes : List ℕ) (read : Line) (mid after : Explained) (lines : Lines) where
  -- what is kept of a line with this reason
  abbrev pub kept_with : Option LineReason → Explained
  kept_with r = record { why = after.why; reason = r; naming = after.naming; lines = lines }

  -- so is one with the same parts
  pub kept_same : (x : Explained) (r : Option LineReason) → x.why ≡ after.why → x.naming ≡ after.naming → x.reason ≡ r → x.lines ≡ lines → kept_with r ≡ x
  kept_same x r why naming reason same =
      ap (λ y. record { why = y; reason = r; naming = after.naming; lines = lines }) (sym why) ∙ ap (λ y. record { why = x.why; reason = y; naming = after.naming; lines = lines }) (sym reason)
      ∙ ap (λ y. record { why = x.why; reason = x.reason; naming = y; lines = lines }) (sym naming) ∙ ap (λ y. record { why = x.why; reason = x.reason; naming = x.naming; lines = y }) (sym same)

  -- a line that asks for nothing
  quiet_line : (l : Line) (events : List Event) (step new : Option JobValue) → IsReadIn step bytes read → IsLooking step set read mid → LineOf (is_first step) bytes l → ((job : JobValue) → OfLine job l None) → ((job : JobValue) → address_in job l None ≡ None) → reports_refusal events ≡ false → ended_by events ≡ None
      → after ≡ mid → Stood step set bytes read events new (kept_with None)
  quiet_line l events None new reads look of why none quiet stays same =
      subst (λ (a : Explained). Stood None set bytes read events new (record { why = a.why; reason = None; naming = a.naming; lines = lines })) (sym same)
      (nowhere set bytes read events new (record { why = mid.why; reason = None; naming = mid.naming; lines = lines }) look.unnamed refl stays (granting None bytes read mid.why.before reads look.before events new))
  quiet_line l events (Some job) new reads look of why none quiet stays same =
      subst (λ (a : Explained). Stood (Some job) set bytes read events new (record { why = a.why; reason = None; naming = a.naming; lines = lines })) (sym same)
      (unheard job set bytes l of read reads mid look events new None lines (why job, sym quiet) (λ request. refl) (none job) (no_end job mid.why.subpools events stays))

  -- a REGION statement
  region_line : (number : ℕ) (t : Name) (s : Statement) (end : Option Bool) (card card_of : CardValue) (u : Name) (step new : Option JobValue) → IsReadIn step bytes read → IsLooking step set read mid → LineOf (is_first step) bytes (line.Statement t s) → region_card t s ≡ Some card → after ≡ mid
      → Stood step set bytes read (ended end ++ AnswerTo number u (Region card_of) ∷ []) new (kept_with None)
  region_line number t (says.Region below above fill residence) end card card_of u step new reads look of is same =
      quiet_line (line.Statement t (says.Region below above fill residence)) (ended end ++ AnswerTo number u (Region card_of) ∷ []) step new reads look of (λ job. refl) (λ job. refl) (quiet end) (stays end) same where
        quiet : (end : Option Bool) → reports_refusal (ended end ++ AnswerTo number u (Region card_of) ∷ []) ≡ false
        quiet None = refl
        quiet (Some abended) = refl

        stays : (end : Option Bool) → ended_by (ended end ++ AnswerTo number u (Region card_of) ∷ []) ≡ None
        stays None = refl
        stays (Some abended) = refl
  region_line number t (says.Request q) end card card_of u step new reads look of is same = none_some is
  region_line number t (says.Where name) end card card_of u step new reads look of is same = none_some is
  region_line number t says.ReportSubpools end card card_of u step new reads look of is same = none_some is
  region_line number t says.ReportMap end card card_of u step new reads look of is same = none_some is

  -- a line with a fault
  fault_line : (number : ℕ) (fault : Fault) (step new : Option JobValue) → IsReadIn step bytes read → IsLooking step set read mid → FaultOf (is_first step) bytes fault → after ≡ mid → Stood step set bytes read (Faulted number fault ∷ []) new (kept_with None)
  fault_line number fault None new reads look of same =
      subst (λ (a : Explained). Stood None set bytes read (Faulted number fault ∷ []) new (record { why = a.why; reason = None; naming = a.naming; lines = lines })) (sym same)
      (nowhere set bytes read (Faulted number fault ∷ []) new (record { why = mid.why; reason = None; naming = mid.naming; lines = lines }) look.unnamed refl refl (granting None bytes read mid.why.before reads look.before (Faulted number fault ∷ []) new))
  fault_line number fault (Some job) new reads look of same =
      subst (λ (a : Explained). Stood (Some job) set bytes read (Faulted number fault ∷ []) new (record { why = a.why; reason = None; naming = a.naming; lines = lines })) (sym same) (
        (
          [],
          naming_text mid.naming,
          freed_lines mid.why.subpools (ended_by (Faulted number fault ∷ [])),
          granted_text mid.why.before read (Faulted number fault ∷ []) new,
          inr (fault, of, refl),
          (None, inr (fault, of, refl), (mid.naming, look.unnamed, refl)),
          refl,
          granting (Some job) bytes read mid.why.before reads look.before (Faulted number fault ∷ []) new,
          refl,
        ),
        inr (fault, of, refl),
      )

  -- a statement that was answered
  answered_line : (number : ℕ) (t : Name) (s : Statement) (job later : JobValue) (fallen : List Name) (a : Short) → IsReadIn (Some job) bytes read → IsLooking (Some job) set read mid → LineOf false bytes (line.Statement t s) → Observes keeps mid job t s (full_answer later.state fallen t a) after
      → Serves machine number (Some job) (line.Statement t s) (AnswerTo number t (full_answer later.state fallen t a) ∷ []) (Some later)
      → Stood (Some job) set bytes read (AnswerTo number t (full_answer later.state fallen t a) ∷ []) (Some later) (kept_with (answer_reason (Some later) read after.why.reason a))
  answered_line number t s job later fallen a reads look of observes serves =
      let does = answered_does number job later t s (full_answer later.state fallen t a) serves in
      subst (λ r. Stands number job later set bytes t read reads mid look lines after r (full_answer later.state fallen t a)) (sym (same_reason (Some later) read after.why.reason later fallen t a))
      (statement_stands number job later set bytes t read reads mid look lines s after (full_answer later.state fallen t a) of does.0 observes does.1)

  module _ (w w' : WalkValue) (reads : IsReadIn w.step bytes read) (look : IsLooking w.step set read mid) where
    event_of_statement : (t : Name) (s : Statement) (a : Short) (job later : JobValue) → w.step ≡ Some job → w'.step ≡ Some later → LineOf (is_first w.step) bytes (line.Statement t s) → Observes keeps mid job t s (full_answer later.state (ended_with_in w'.reply) t a) after → ServesAs w bytes (line_event.Answered t a) w'
        → Stood w.step set bytes read (AnswerTo w.number t (full_answer_in w'.step (ended_with_in w'.reply) t a) ∷ []) w'.step (kept_with (answer_reason w'.step read after.why.reason a))
    event_of_statement t s a job later is new of observes tells =
        let serves = subst (λ l. Serves machine w.number w.step l (AnswerTo w.number t (full_answer_in w'.step (ended_with_in w'.reply) t a) ∷ []) w'.step) (one_reading.one_line (is_first w.step) bytes tells.0 (line.Statement t s) tells.1 of) tells.2 in
        subst (λ o. Stood w.step set bytes read (AnswerTo w.number t (full_answer_in o (ended_with_in w'.reply) t a) ∷ []) o (kept_with (answer_reason o read after.why.reason a))) (sym new)
        (subst (λ o. Stood o set bytes read (AnswerTo w.number t (full_answer later.state (ended_with_in w'.reply) t a) ∷ []) (Some later) (kept_with (answer_reason (Some later) read after.why.reason a))) (sym is)
        (answered_line w.number t s job later (ended_with_in w'.reply) a (subst (λ o. IsReadIn o bytes read) is reads) (subst (λ o. IsLooking o set read mid) is look) (subst (λ o. LineOf (is_first o) bytes (line.Statement t s)) is of) observes
        (subst (λ o. Serves machine w.number o (line.Statement t s) (AnswerTo w.number t (full_answer later.state (ended_with_in w'.reply) t a) ∷ []) (Some later)) is (subst (λ o. Serves machine w.number w.step (line.Statement t s) (AnswerTo w.number t (full_answer_in o (ended_with_in w'.reply) t a) ∷ []) o) new serves))))

    -- what is kept of any line, and printed after it
    pub kept_after : (t : LineEvent) → ServesAs w bytes t w' → ObservesLine keeps mid w.step bytes t w' after → Stood w.step set bytes read (events_of_line w.number w' t) w'.step (kept_with (line_reason w'.step read after.why.reason t))
    kept_after line_event.Nothing tells (of, same) = quiet_line line.Nothing [] w.step w'.step reads look of (λ job. refl) (λ job. refl) refl refl same
    kept_after (line_event.StepBegan end card) tells (t, s, of, is, same) = region_line w.number t s end card card card.name w.step w'.step reads look of is same
    kept_after (line_event.Faulted fault) tells same = fault_line w.number fault w.step w'.step reads look tells.0 same
    kept_after (line_event.Answered t a) tells (s, job, later, of, is, new, observes) = event_of_statement t s a job later is new of observes tells

-- ---- what stays

-- The lines that have set names stay.
abbrev Stays : Explained → Explained → Type 0
Stays old new = new.lines ≡ old.lines

stays_same : (old new : Explained) → new ≡ old → Stays old new
stays_same old new e = ap (λ (x : Explained). x.lines) e

module _ (mid after : Explained) (job : JobValue) (t : Name) (y : Answer) where
  request_keeps : (v : Option Request) → MatchOption v (after ≡ mid) (λ r. Passes mid job t r y after ⊎ Fails keeps mid job t r y after) → Stays mid after
  request_keeps None same = stays_same mid after same
  request_keeps (Some r) (inl h) = stays_same mid after h.0
  request_keeps (Some r) (inr (refusal, left, refuses, lacks, failed, ends, kept)) = kept.lines

  statement_keeps : (s : Statement) → Observes keeps mid job t s y after → Stays mid after
  statement_keeps (says.Request q) h = by_test (is_active job.state.owners t) h (λ _ k. request_keeps (resolved job.names q) k) (λ _ same. stays_same mid after same)
  statement_keeps (says.Region below above fill residence) same = stays_same mid after same
  statement_keeps (says.Where name) same = stays_same mid after same
  statement_keeps says.ReportSubpools same = stays_same mid after same
  statement_keeps says.ReportMap same = stays_same mid after same

pub line_keeps : (step : Option JobValue) (w' : WalkValue) (bytes : List ℕ) (mid after : Explained) (t : LineEvent) → ObservesLine keeps mid step bytes t w' after → Stays mid after
line_keeps step w' bytes mid after line_event.Nothing (of, same) = stays_same mid after same
line_keeps step w' bytes mid after (line_event.StepBegan end card) (t, s, of, is, same) = stays_same mid after same
line_keeps step w' bytes mid after (line_event.Faulted fault) same = stays_same mid after same
line_keeps step w' bytes mid after (line_event.Answered t a) (s, job, later, of, is, new, observes) = statement_keeps mid after job t (full_answer later.state (ended_with_in w'.reply) t a) s observes

-- ---- a line whose explanations are printed apart

-- before the first step the names of former lines are forgotten
pub looking_begun : (step : Option JobValue) (set begun : NameOrigins) (read : Line) (x : Explained) → begun ≡ lines_before step set → IsLooking step begun read x → IsLooking step set read x
looking_begun step set begun read x e look =
    record { before = look.before; subpools = look.subpools; unheard = look.unheard; unnamed = look.unnamed; lines = λ job is. look.lines job is ∙ e ∙ ap (λ o. lines_before o set) is }
