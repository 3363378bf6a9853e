-- An entry that is printed with its explanations.
use Rattle.std.proofs.Common.{◌≡◌, ℕ, List, [], ◌∷◌, ◌++◌, append-nil, inl, inr, true, false, Option, Some, None, Result, Ok, Err, length, ◌≤◌, refl, sym, ap, ◌∙◌, subst}
use Rattle.mvs_model.specs.declared.line.Fault.{Fault}
use Rattle.mvs_model.specs.declared.line.Line.{Line}
use Rattle.mvs_model.specs.Answers.{Event, Faulted}
use Rattle.mvs_model.specs.Job.{JobValue}
use Rattle.mvs_model.specs.Memory.{TakesMemory}
use Rattle.mvs_model.specs.Reading.{FaultOf, LineOf}
use Rattle.mvs_model.specs.Runs.{IsPrinting, machine}
use Rattle.mvs_model.specs.Texts.{printing}
use Rattle.mvs_model.specs.Walk.{Serves, is_first}
use Rattle.mvs_model.proofs.Reading.{one_reading}
use Rattle.mvs_model.specs.declared.outcome.Outcome.{Outcome}
use Rattle.mvs_model.specs.declared.watched.Failed.{Failed}
use Rattle.mvs_job.specs.Exchanging.{Exchanges}
use Rattle.line_text.specs.Writing.{WritesAll}
use Rattle.mvs_job.specs.declared.consumer.End.{End}
use Rattle.mvs_job.specs.declared.consumer.End.TheVariants as end
use Rattle.mvs_job.specs.declared.explained.Explained.{Explained}
use Rattle.mvs_job.specs.declared.walk.LineEvent.{LineEvent}
use Rattle.mvs_job.specs.declared.walk.LineEvent.TheVariants as line_event
use Rattle.mvs_job.specs.Consuming.{AcceptsLast, IsEnd, IsEntry, IsOfLine}
use Rattle.mvs_job.specs.Explained.{ExplainedArePrintings, IsExplained, IsExplainedAs, SetsNames, explained, set_after, set_by_entries, set_from}
use Rattle.mvs_job.specs.Explaining.{IsExplanationText, explanation_text, text_of_event, without_starred}
use Rattle.mvs_job.specs.Granting.{reports_grant}
use Rattle.mvs_job.specs.Looking.{IsLooking, knows_set}
use Rattle.mvs_job.specs.NamedAddress.{NameOrigins, SetsSome, no_lines, names_after}
use Rattle.mvs_job.specs.Observing.{ObservesLine}
use Rattle.mvs_job.specs.LineEvents.{IsReadIn, ServesAs, WalkValue, events_of_line}
use Rattle.mvs_job.specs.Trace.{Closed, Entry, Executed, Exhausted, Faulty, Kind}
use Rattle.mvs_job.specs.Why.{line_reason}
use Rattle.mvs_job.proofs.AfterLines.{keeps, kept_after, kept_same, kept_with}
use Rattle.mvs_job.proofs.Kept.{stops_naming}

-- ---- the names that are set

set_then : (set : NameOrigins) (history : List Entry) (e : Entry) → set_from set (history ++ e ∷ []) ≡ set_after (set_from set history) e e.kind
set_then set [] e = refl
set_then set (x ∷ history) e = set_then (set_after set x x.kind) history e

-- ---- the entry of a line

-- what was executed, or the fault
abbrev Said : ℕ → List ℕ → LineEvent → WalkValue → Entry → Type 0
Said n line (line_event.Faulted fault) w e = FaultOf (is_first e.before) line fault × (e.kind ≡ Faulty fault) × (w.step ≡ e.before)
Said n line t w e =
    (said : Line) × LineOf (is_first e.before) line said × Serves machine n e.before said (events_of_line n w t) w.step × (e.kind ≡ Executed said) × (e.number ≡ n) × (e.bytes ≡ line)

one_fault : (n : ℕ) (x y : Fault) → ◌≡◌ {A = List Event} (Faulted n x ∷ []) (Faulted n y ∷ []) → x ≡ y
one_fault n x y e = cc

module _ (n : ℕ) (line : List ℕ) (w : WalkValue) (e : Entry) where
  executed_said : (t : LineEvent) → e.events ≡ events_of_line n w t → e.after ≡ w.step → ((said : Line) × (events : List Event) × (new : Option JobValue) × LineOf (is_first e.before) line said × Serves machine n e.before said events new
      × (e ≡ record { number = n; bytes = line; kind = Executed said; events = events; before = e.before; after = new })) → (said : Line) × LineOf (is_first e.before) line said × Serves machine n e.before said (events_of_line n w t) w.step × (e.kind ≡ Executed said) × (e.number ≡ n) × (e.bytes ≡ line)
  executed_said t events after (said, these, new, of, serves, is) = (
    said,
    of,
    subst (λ o. Serves machine n e.before said (events_of_line n w t) o) (sym (ap (λ (e : Entry). e.after) is) ∙ after)
        (subst (λ x. Serves machine n e.before said x new) (sym (ap (λ (e : Entry). e.events) is) ∙ events) serves),
    ap (λ (e : Entry). e.kind) is,
    ap (λ (e : Entry). e.number) is,
    ap (λ (e : Entry). e.bytes) is,
  )

  said_by : (t : LineEvent) → IsEntry n line w t e → Said n line t w e
  said_by (line_event.Faulted fault) entry = at entry.of_line where
    at : IsOfLine (line_event.Faulted fault) n line e → Said n line (line_event.Faulted fault) w e
    at (other, of, is) =
        let same : other ≡ fault = one_fault n other fault (sym (ap (λ (e : Entry). e.events) is) ∙ entry.events) in
        (subst (FaultOf (is_first e.before) line) same of, ap (λ (e : Entry). e.kind) is ∙ ap Faulty same, sym entry.after ∙ ap (λ (e : Entry). e.after) is)
  said_by line_event.Nothing entry = executed_said line_event.Nothing entry.events entry.after entry.of_line
  said_by (line_event.StepBegan end card) entry = executed_said (line_event.StepBegan end card) entry.events entry.after entry.of_line
  said_by (line_event.Answered t a) entry = executed_said (line_event.Answered t a) entry.events entry.after entry.of_line

  -- the job before the line
  abbrev pub before_it : WalkValue
  before_it = record { step = e.before; number = n; read = w.read; request = w.request; reply = w.reply }

  serves_as : (t : LineEvent) → Said n line t w e → ServesAs before_it line t w
  serves_as (line_event.Faulted fault) (of, kind, same) = (of, same)
  serves_as line_event.Nothing (said, of, serves, kind, number, bytes) = (said, of, serves)
  serves_as (line_event.StepBegan end card) (said, of, serves, kind, number, bytes) = (said, of, serves)
  serves_as (line_event.Answered t a) (said, of, serves, kind, number, bytes) = (said, of, serves)

  -- it is executed so
  pub entry_serves : (t : LineEvent) → IsEntry n line w t e → ServesAs before_it line t w
  entry_serves t entry = serves_as t (said_by t entry)

  -- ---- what is printed of it

  module _ (set : NameOrigins) (mid after x : Explained) (look : IsLooking e.before set w.read mid) (why : x.why ≡ after.why) (naming : x.naming ≡ after.naming) where
    -- the explanations by what is kept
    same_after : (t : LineEvent) → x.reason ≡ line_reason w.step w.read after.why.reason t → (events : List Event) → explanation_text (kept_with set line w.read mid after x.lines (line_reason w.step w.read after.why.reason t)) w.read events w.step ≡ explanation_text x w.read events w.step
    same_after t reason events = ap (λ (y : Explained). explanation_text y w.read events w.step) (kept_same set line w.read mid after x.lines x (line_reason w.step w.read after.why.reason t) why naming reason refl)

    -- the explanations of a line that is executed
    why_executed : (t : LineEvent) → x.reason ≡ line_reason w.step w.read after.why.reason t → IsEntry n line w t e → e.bytes ≡ line → ServesAs before_it line t w → ObservesLine keeps mid e.before line t w after
        → IsExplanationText e.before set e.bytes e.events e.after (explanation_text x w.read (events_of_line n w t) w.step)
    why_executed t reason entry bytes tells observed =
        let events = events_of_line n w t in
        let trailing = (kept_after set line w.read mid after x.lines before_it w entry.read look t tells observed).0 in
        let here : IsExplanationText e.before set line events w.step (explanation_text x w.read events w.step) = subst (λ y. IsExplanationText e.before set line events w.step y) (same_after t reason events) trailing in
        subst (λ b. IsExplanationText e.before set b e.events e.after (explanation_text x w.read events w.step)) (sym bytes)
        (subst (λ v. IsExplanationText e.before set line v e.after (explanation_text x w.read events w.step)) (sym entry.events) (subst (λ o. IsExplanationText e.before set line events o (explanation_text x w.read events w.step)) (sym entry.after) here))

    executed_text : (t : LineEvent) → x.reason ≡ line_reason w.step w.read after.why.reason t → IsEntry n line w t e → (said : Line) → e.kind ≡ Executed said → e.bytes ≡ line → ServesAs before_it line t w → ObservesLine keeps mid e.before line t w after
        → IsExplainedAs set e e.kind (printing (events_of_line n w t) ++ explanation_text x w.read (events_of_line n w t) w.step)
    executed_text t reason entry said kind bytes tells observed =
        let events = events_of_line n w t in
        subst (λ k. IsExplainedAs set e k (printing events ++ explanation_text x w.read events w.step)) (sym kind)
        (explanation_text x w.read events w.step, why_executed t reason entry bytes tells observed, ap (λ v. printing v ++ explanation_text x w.read events w.step) (sym entry.events))

    why_of : (t : LineEvent) → x.reason ≡ line_reason w.step w.read after.why.reason t → IsEntry n line w t e → Said n line t w e → ObservesLine keeps mid e.before line t w after → (said : Line) → e.kind ≡ Executed said
        → IsExplanationText e.before set e.bytes e.events e.after (explanation_text x w.read (events_of_line n w t) w.step)
    why_of (line_event.Faulted fault) reason entry (of, kind, same) observed said executed = absurd (let f : Faulty fault ≡ Executed said = sym kind ∙ executed in cc)
    why_of line_event.Nothing reason entry (other, of, serves, kind, number, bytes) observed said executed = why_executed line_event.Nothing reason entry bytes (other, of, serves) observed
    why_of (line_event.StepBegan end card) reason entry (other, of, serves, kind, number, bytes) observed said executed = why_executed (line_event.StepBegan end card) reason entry bytes (other, of, serves) observed
    why_of (line_event.Answered t a) reason entry (other, of, serves, kind, number, bytes) observed said executed = why_executed (line_event.Answered t a) reason entry bytes (other, of, serves) observed

    -- the explanations of an entry that is executed
    pub executed_why : (t : LineEvent) → x.reason ≡ line_reason w.step w.read after.why.reason t → IsEntry n line w t e → ObservesLine keeps mid e.before line t w after → (said : Line) → e.kind ≡ Executed said
        → IsExplanationText e.before set e.bytes e.events e.after (explanation_text x w.read (events_of_line n w t) w.step)
    executed_why t reason entry observed said executed = why_of t reason entry (said_by t entry) observed said executed

    text_of : (t : LineEvent) → x.reason ≡ line_reason w.step w.read after.why.reason t → IsEntry n line w t e → Said n line t w e → ObservesLine keeps mid e.before line t w after → IsExplainedAs set e e.kind (text_of_event x n w t)
    text_of (line_event.Faulted fault) reason entry (of, kind, same) observed = subst (λ k. IsExplainedAs set e k (printing (events_of_line n w (line_event.Faulted fault)))) (sym kind) (ap printing (sym entry.events))
    text_of line_event.Nothing reason entry (said, of, serves, kind, number, bytes) observed = executed_text line_event.Nothing reason entry said kind bytes (said, of, serves) observed
    text_of (line_event.StepBegan end card) reason entry (said, of, serves, kind, number, bytes) observed = executed_text (line_event.StepBegan end card) reason entry said kind bytes (said, of, serves) observed
    text_of (line_event.Answered t a) reason entry (said, of, serves, kind, number, bytes) observed = executed_text (line_event.Answered t a) reason entry said kind bytes (said, of, serves) observed

    pub explained_text : (t : LineEvent) → x.reason ≡ line_reason w.step w.read after.why.reason t → IsEntry n line w t e → ObservesLine keeps mid e.before line t w after → IsExplainedAs set e e.kind (text_of_event x n w t)
    explained_text t reason entry observed = text_of t reason entry (said_by t entry) observed

  -- ---- the names after it

  module _ (set : NameOrigins) (read : Line) (is : IsReadIn e.before line read) where
    set_executed : (t : LineEvent) → e.events ≡ events_of_line n w t → (said : Line) → LineOf (is_first e.before) line said → e.kind ≡ Executed said → e.number ≡ n → names_after n set read (events_of_line n w t) ≡ set_after set e e.kind
    set_executed t events said of kind number = elim is [
      | inl here ↦ ap (λ l. names_after n set l (events_of_line n w t)) (one_reading.one_line (is_first e.before) line read said here of) ∙ ap (λ m. names_after m set said (events_of_line n w t)) (sym number) ∙ ap (λ v. names_after e.number set said v) (sym events)
          ∙ ap (λ k. set_after set e k) (sym kind)
      | inr f ↦ absurd (one_reading.not_both (is_first e.before) line said f.0 of f.1)
    ]

    set_faulty : (fault : Fault) (events : List Event) → FaultOf (is_first e.before) line fault → e.kind ≡ Faulty fault → names_after n set read events ≡ set_after set e e.kind
    set_faulty fault events of kind = elim is [
      | inl here ↦ absurd (one_reading.not_both (is_first e.before) line read fault here of)
      | inr f ↦ ap (λ l. names_after n set l events) f.2 ∙ ap (λ k. set_after set e k) (sym kind)
    ]

    set_so : (t : LineEvent) → IsEntry n line w t e → Said n line t w e → names_after n set read (events_of_line n w t) ≡ set_after set e e.kind
    set_so (line_event.Faulted fault) entry (of, kind, same) = set_faulty fault (events_of_line n w (line_event.Faulted fault)) of kind
    set_so line_event.Nothing entry (said, of, serves, kind, number, bytes) = set_executed line_event.Nothing entry.events said of kind number
    set_so (line_event.StepBegan end card) entry (said, of, serves, kind, number, bytes) = set_executed (line_event.StepBegan end card) entry.events said of kind number
    set_so (line_event.Answered t a) entry (said, of, serves, kind, number, bytes) = set_executed (line_event.Answered t a) entry.events said of kind number

  pub set_next : (history : List Entry) (read : Line) → IsReadIn e.before line read → (t : LineEvent) → IsEntry n line w t e → names_after n (set_by_entries history) read (events_of_line n w t) ≡ set_by_entries (history ++ e ∷ [])
  set_next history read is t entry = set_so (set_by_entries history) read is t entry (said_by t entry) ∙ sym (set_then no_lines history e)

  -- ---- the memory that it needs

  module _ (read : Line) (is : IsReadIn e.before line read) (sets : SetsSome read) where
    needs_so : (t : LineEvent) → reports_grant (events_of_line n w t) ≡ true → ServesAs before_it line t w → (said : Line) → LineOf (is_first e.before) line said → e.kind ≡ Executed said → SetsNames e e.kind
    needs_so t grant tells said of kind =
        let stops = stops_naming before_it w line read is t tells sets grant in
        subst (SetsNames e) (sym kind) (subst (λ l. TakesMemory e.before l []) (one_reading.one_line (is_first e.before) line stops.0 said stops.1 of) stops.2)

    needs_of : (t : LineEvent) → reports_grant (events_of_line n w t) ≡ true → Said n line t w e → SetsNames e e.kind
    needs_of (line_event.Faulted fault) grant said = absurd (let f : false ≡ true = grant in cc)
    needs_of line_event.Nothing grant (said, of, serves, kind, number, bytes) = needs_so line_event.Nothing grant (said, of, serves) said of kind
    needs_of (line_event.StepBegan end card) grant (said, of, serves, kind, number, bytes) = needs_so (line_event.StepBegan end card) grant (said, of, serves) said of kind
    needs_of (line_event.Answered t a) grant (said, of, serves, kind, number, bytes) = needs_so (line_event.Answered t a) grant (said, of, serves) said of kind

    pub needs_names : (t : LineEvent) → reports_grant (events_of_line n w t) ≡ true → IsEntry n line w t e → SetsNames e e.kind
    needs_names t grant entry = needs_of t grant (said_by t entry)

-- ---- the text of a line

pub text_begins_with_printing : (x : Explained) (n : ℕ) (w : WalkValue) (t : LineEvent) → (more : List ℕ) × (text_of_event x n w t ≡ printing (events_of_line n w t) ++ more)
text_begins_with_printing x n w (line_event.Faulted fault) = ([], sym (append-nil (printing (events_of_line n w (line_event.Faulted fault)))))
text_begins_with_printing x n w line_event.Nothing = (explanation_text x w.read (events_of_line n w line_event.Nothing) w.step, refl)
text_begins_with_printing x n w (line_event.StepBegan end card) = (explanation_text x w.read (events_of_line n w (line_event.StepBegan end card)) w.step, refl)
text_begins_with_printing x n w (line_event.Answered t a) = (explanation_text x w.read (events_of_line n w (line_event.Answered t a)) w.step, refl)

pub text_of_fault : (x : Explained) (n : ℕ) (w : WalkValue) (t : LineEvent) (fault : Fault) → t ≡ line_event.Faulted fault → text_of_event x n w t ≡ printing (events_of_line n w t)
text_of_fault x n w t fault is = subst (λ t. text_of_event x n w t ≡ printing (events_of_line n w t)) (sym is) refl

pub text_after_printing : (x : Explained) (n : ℕ) (w : WalkValue) (t : LineEvent) → ((fault : Fault) → t ≡ line_event.Faulted fault → ⊥) → text_of_event x n w t ≡ printing (events_of_line n w t) ++ explanation_text x w.read (events_of_line n w t) w.step
text_after_printing x n w (line_event.Faulted fault) other = absurd (other fault refl)
text_after_printing x n w line_event.Nothing other = refl
text_after_printing x n w (line_event.StepBegan end card) other = refl
text_after_printing x n w (line_event.Answered t a) other = refl

-- ---- the last entry

end_kind : (n : ℕ) (how : End) (e : Entry) → IsEnd n how e → (P : Kind → Type 0) → P Closed → ((said : Line) → P (Exhausted said)) → P e.kind
end_kind n (end.Closed o) e ((outcome, (events, closes, is)), same) P closed exhausted = subst P (sym (ap (λ (e : Entry). e.kind) is)) closed
end_kind n (end.Exhausted o) e ((l, (said, events, of, takes, is)), same) P closed exhausted = subst P (sym (ap (λ (e : Entry). e.kind) is)) (exhausted said)

end_text : (n : ℕ) (how : End) (e : Entry) → IsEnd n how e → (set : NameOrigins) (text : List ℕ) → text ≡ printing e.events → IsExplainedAs set e e.kind text
end_text n how e is set text same = end_kind n how e is (λ k. IsExplainedAs set e k text) same (λ said. same)

-- the last entry sets no name
pub end_set : (n : ℕ) (how : End) (e : Entry) → IsEnd n how e → (history : List Entry) → set_by_entries history ≡ set_by_entries (history ++ e ∷ [])
end_set n how e is history = end_kind n how e is (λ k. set_by_entries history ≡ set_after (set_by_entries history) e k) refl (λ said. refl) ∙ sym (set_then no_lines history e)

pub explains_end : {X : Type 0} (before after : Option (List ℕ)) (first x : Explained) (n : ℕ) (how : End) (result : Result X Failed) (events : List Event) → ((e : Entry) → IsEnd n how e → e.events ≡ events) → WritesAll before after result (printing events)
    → (history : List Entry) (e : Entry) → IsEnd n how e → (knows_set first).has x history → AcceptsLast {S = Explained} {X = X} explained (knows_set first) before after x history e result
explains_end before after first x n how (Ok y) events same p history e is known = ((printing events, end_text n how e is (set_by_entries history) (printing events) (ap printing (sym (same e is))), p), known ∙ end_set n how e is history)
explains_end before after first x n how (Err failed) events same p history e is known = ((printing events, end_text n how e is (set_by_entries history) (printing events) (ap printing (sym (same e is))), p), tt)

-- ---- a run

pub exchanged_printing : ExplainedArePrintings → (unread left start now : Option (List ℕ)) (outcome : Outcome) → Exchanges unread left start now (λ consumed script text. (length consumed ≤ 16777215) × IsExplained script text (Ok outcome))
    → Exchanges unread left start now (λ consumed script text. IsPrinting script (without_starred text) outcome)
exchanged_printing law unread left start now outcome h = (h.0, h.1, h.2, h.3, h.4, h.5, law (h.0 ++ h.1) h.2 outcome h.6.1)
