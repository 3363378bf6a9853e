-- A history around another consumer.
use Rattle.std.proofs.Common.{◌≡◌, ℕ, List, [], ◌∷◌, ◌++◌, append-nil, Option, Some, None, Bool, true, false, inl, inr, length, refl, sym, ap, subst, ◌∙◌}
use Rattle.std.specs.Prelude.{Result, Ok, Err, OnOk, OnErr, ◌≢◌, ◌⊎◌, MatchOption, is_some, unwrap_or, option_map, if◌then◌else◌}
use Rattle.std.specs.Bool.{MatchBool}
use Rattle.mvs_model.specs.declared.line.Line.{Line}
use Rattle.mvs_model.specs.declared.line.Line.TheVariants as line
use Rattle.mvs_model.specs.declared.line.SourceRequest.{SourceRequest}
use Rattle.mvs_model.specs.declared.line.Statement.{Statement}
use Rattle.mvs_model.specs.declared.line.Statement.TheVariants as says
use Rattle.mvs_model.specs.declared.name.Name.{Name}
use Rattle.mvs_model.specs.declared.request.Request.{Request}
use Rattle.mvs_model.specs.Answers.{Answer, Event}
use Rattle.mvs_model.specs.Card.{CardValue}
use Rattle.mvs_model.specs.Causes.{IsRefused}
use Rattle.mvs_model.specs.FullAnswers.{ended_with_in, full_answer}
use Rattle.mvs_model.specs.Job.{JobValue}
use Rattle.mvs_model.specs.Owners.{is_active}
use Rattle.mvs_model.specs.Reading.{LineOf}
use Rattle.mvs_model.specs.Resolving.{resolved}
use Rattle.mvs_model.specs.Walk.{is_first}
use Rattle.mvs_model.proofs.Reading.{one_reading}
use Rattle.mvs_model.proofs.Tests.{none_some}
use Rattle.mvs_job.specs.declared.walk.LineEvent.{LineEvent}
use Rattle.mvs_job.specs.declared.walk.LineEvent.TheVariants as events
use Rattle.mvs_job.specs.declared.consumer.End.{End}
use Rattle.mvs_job.specs.declared.consumer.End.TheVariants as end
use Rattle.mvs_job.specs.Consuming.{IsEnd, IsEntry, IsOfLine, Piece, WritesUntil}
use Rattle.mvs_model.specs.declared.answer.Answer.{Answer as Short}
use Rattle.mvs_job.specs.LineEvents.{WalkValue, events_of_line, full_answer_in, region_card}
use Rattle.mvs_job.specs.Observing.{Fails, Hearing, Observes, ObservesLine, Passes}
use Rattle.mvs_job.specs.Trace.{Closed, Entry, Executed, Exhausted, Faulty, IsExecuted, Kind}
use Rattle.mvs_job.proofs.Hearing.{line_part, line_stays}
use Rattle.area_history.specs.declared.chronicle.Chronicle.{Chronicle}
use Rattle.area_history.specs.declared.historian.Historian.{Historian}
use Rattle.area_history.specs.Chronicles.{HearsHistory, IsHistory, IsKept, history_of}
use Rattle.line_text.proofs.Appending.{front_longer}
use Rattle.mvs_job.specs.declared.printing.Stop.{Stop}
use Rattle.mvs_job.specs.declared.printing.Stop.TheVariants as stop
use Rattle.area_history.specs.declared.findings.Findings.{Findings}
use Rattle.area_history.specs.declared.largest.Leaks.{Leaks}
use Rattle.area_history.specs.Leaking.{summary}
use Rattle.area_history.proofs.Ending.{none_begun, none_granted}
use Rattle.area_history.specs.Histories.{Found, FoundAt, all_ended, ended_with, ends_by, FoundIn, FoundOf, History, ended_tasks, events_at, events_by, events_in, findings_of, found_in, history_after, history_from, history_in, no_history, nothing_found, stays_at, stays_of, with_history}
use Rattle.area_history.specs.Ledgers.{begun, granted_at, granted_by}
use Rattle.area_history.proofs.Reported.{events_so, granted_so}

-- what a history keeps of a refusal
abbrev pub hears : Hearing Chronicle
hears old job t request refusal left new = HearsHistory old job t request refusal new

-- ---- the history after one more entry

pub history_snoc : (h : History) (entries : List Entry) (e : Entry) → history_from h (entries ++ e ∷ []) ≡ history_after (history_from h entries) e
history_snoc h [] e = refl
history_snoc h (x ∷ entries) e = history_snoc (history_after h x) entries e

-- ---- the tasks that end with a line

pub ends_so : (line number : ℕ) (w : WalkValue) (t : LineEvent) (task : Name) (a : Short) (fallen : List Name) (job : JobValue) → t ≡ events.Answered task a → w.step ≡ Some job → fallen ≡ ended_with_in w.reply
    → ends_by line (events_of_line number w t) ≡ all_ended line task (ended_with task (full_answer job.state fallen task a))
ends_so line number w t task a fallen job is step same =
    ap (λ x. ends_by line (events_of_line number w x)) is ∙ ap (λ o. all_ended line task (ended_with task (full_answer_in o (ended_with_in w.reply) task a))) step ∙ ap (λ f. all_ended line task (ended_with task (full_answer job.state f task a))) (sym same)

pub tasks_so : (number : ℕ) (w : WalkValue) (t : LineEvent) (task : Name) (a : Short) (fallen : List Name) (job : JobValue) → t ≡ events.Answered task a → w.step ≡ Some job → fallen ≡ ended_with_in w.reply
    → ended_tasks (events_of_line number w t) ≡ ended_with task (full_answer job.state fallen task a)
tasks_so number w t task a fallen job is step same =
    ap (λ x. ended_tasks (events_of_line number w x)) is ∙ ap (λ o. ended_with task (full_answer_in o (ended_with_in w.reply) task a)) step ∙ ap (λ f. ended_with task (full_answer job.state f task a)) (sym same)

pub ok_maps : {X E P Q : Type 0} (r : Result X E) → (P → Q) → OnOk r P → OnOk r Q
ok_maps (Ok x) f h = f h
ok_maps (Err e) f h = h

pub err_maps : {X E P Q : Type 0} (r : Result X E) → (P → Q) → OnErr r P → OnErr r Q
err_maps (Ok x) f h = h
err_maps (Err e) f h = f h

-- ---- what is found of a line

bool_maps : {P P' Q Q' : Type 0} (b : Bool) → (P → P') → (Q → Q') → MatchBool b P Q → MatchBool b P' Q'
bool_maps true f g h = f h
bool_maps false f g h = g h

option_maps : {A P P' : Type 0} {Q Q' : A → Type 0} (v : Option A) → (P → P') → ((x : A) → Q x → Q' x) → MatchOption v P Q → MatchOption v P' Q'
option_maps None f g h = f h
option_maps (Some x) f g h = g x h

module _ (mid after : Chronicle) (nothing : found_in mid.found ≡ nothing_found) where
  abbrev now_found : Found
  now_found = found_in after.found

  unheard : after ≡ mid → now_found ≡ nothing_found
  unheard same = ap (λ (c : Chronicle). found_in c.found) same ∙ nothing

  asked_found : (job : JobValue) (t : Name) (r : Request) (y : Answer) → Passes mid job t r y after ⊎ Fails hears mid job t r y after → FoundOf (history_of mid) job t r now_found
  asked_found job t r y (inl h) = inl (h.1, unheard h.0)
  asked_found job t r y (inr (refusal, left, refuses, lacks, failed, ends, kept)) = inr (kept.reason, kept.any, (subst (IsRefused job.state t r) (sym kept.explains.0) refuses, kept.explains.1), kept.anywhere, kept.found)

  statement_found : (job : JobValue) (t : Name) (s : Statement) (y : Answer) → Observes hears mid job t s y after → FoundIn (history_of mid) (Some job) (line.Statement t s) now_found
  statement_found job t (says.Request a) y h = bool_maps (is_active job.state.owners t) (λ k. option_maps (resolved job.names a) unheard (λ r k. asked_found job t r y k) k) unheard h
  statement_found job t (says.Region below above fill residence) y h = unheard h
  statement_found job t (says.Where name) y h = unheard h
  statement_found job t says.ReportSubpools y h = unheard h
  statement_found job t says.ReportMap y h = unheard h

  quiet_found : (o : Option JobValue) (l : Line) → ((t : Name) (a : SourceRequest) → l ≡ line.Statement t (says.Request a) → ⊥) → after ≡ mid → FoundIn (history_of mid) o l now_found
  quiet_found None l other same = unheard same
  quiet_found (Some job) line.Nothing other same = unheard same
  quiet_found (Some job) (line.Statement t (says.Request a)) other same = absurd (other t a refl)
  quiet_found (Some job) (line.Statement t (says.Region below above fill residence)) other same = unheard same
  quiet_found (Some job) (line.Statement t (says.Where name)) other same = unheard same
  quiet_found (Some job) (line.Statement t says.ReportSubpools) other same = unheard same
  quiet_found (Some job) (line.Statement t says.ReportMap) other same = unheard same

  region_found : (o : Option JobValue) (t : Name) (s : Statement) (card : CardValue) → region_card t s ≡ Some card → after ≡ mid → FoundIn (history_of mid) o (line.Statement t s) now_found
  region_found None t s card is same = unheard same
  region_found (Some job) t (says.Region below above fill residence) card is same = unheard same
  region_found (Some job) t (says.Request q) card is same = none_some is
  region_found (Some job) t (says.Where name) card is same = none_some is
  region_found (Some job) t says.ReportSubpools card is same = none_some is
  region_found (Some job) t says.ReportMap card is same = none_some is

  module _ (n : ℕ) (bytes : List ℕ) (w : WalkValue) (e : Entry) where
    executed_found : (said l : Line) → LineOf (is_first e.before) bytes said → LineOf (is_first e.before) bytes l → e.kind ≡ Executed said → FoundIn (history_of mid) e.before l now_found → FoundAt (history_of mid) e.before e.kind now_found
    executed_found said l of here kind found = subst (λ k. FoundAt (history_of mid) e.before k now_found) (sym kind) (subst (λ x. FoundIn (history_of mid) e.before x now_found) (one_reading.one_line (is_first e.before) bytes l said here of) found)

    nothing_read : (t : Name) (a : SourceRequest) → line.Nothing ≡ line.Statement t (says.Request a) → ⊥
    nothing_read t a e = absurd (let f : ◌≡◌ {A = Line} line.Nothing (line.Statement t (says.Request a)) = e in cc)

    -- whatever the line led to
    pub line_found : (t : LineEvent) → IsOfLine t n bytes e → ObservesLine hears mid e.before bytes t w after → FoundAt (history_of mid) e.before e.kind now_found
    line_found (events.Faulted fault) (other, of, is) same = subst (λ k. FoundAt (history_of mid) e.before k now_found) (sym (ap (λ (e : Entry). e.kind) is)) (unheard same)
    line_found events.Nothing (said, evs, new, of, serves, is) (here, same) = executed_found said line.Nothing of here (ap (λ (e : Entry). e.kind) is) (quiet_found e.before line.Nothing nothing_read same)
    line_found (events.StepBegan end card) (said, evs, new, of, serves, is) (t, s, here, region, same) = executed_found said (line.Statement t s) of here (ap (λ (e : Entry). e.kind) is) (region_found e.before t s card region same)
    line_found (events.Answered t a) (said, evs, new, of, serves, is) (s, job, later, here, step, after_it, h) =
        executed_found said (line.Statement t s) of here (ap (λ (e : Entry). e.kind) is) (subst (λ o. FoundIn (history_of mid) o (line.Statement t s) now_found) (sym step) (statement_found job t s (full_answer later.state (ended_with_in w.reply) t a) h))

-- ---- a line that is kept

module _ (n : ℕ) (bytes : List ℕ) (w : WalkValue) (t : LineEvent) (e : Entry) (is : IsEntry n bytes w t e) (mid self : Chronicle) (h : ObservesLine hears mid e.before bytes t w self) where
  pub history_stays : history_of self ≡ history_of mid
  history_stays = line_stays mid self (λ (c : Chronicle). history_of c) hears (λ job t request refusal left k. k.same) e.before bytes t w h

  -- the history after the entry
  pub next_history : (l : History) (new : Chronicle) → history_of mid ≡ l → IsKept self n w.read (events_of_line n w t) w.step new → IsHistory new (history_after l e)
  next_history l new same kept = at (begun e.events) (kept.areas ∙ ap (λ v. if is_some (begun v) then [] else self.areas ++ granted_by n w.read (events_of_line n w t) w.step) (sym is.events)) (kept.changes ∙ ap (λ v. if is_some (begun v) then [] else self.events ++ events_by n w.read (events_of_line n w t) w.step (length self.areas)) (sym is.events)) where
    is_l : history_of self ≡ l
    is_l = history_stays ∙ same

    areas_are : self.areas ≡ l.grants
    areas_are = ap (λ (x : History). x.grants) is_l

    events_are : self.events ≡ l.events
    events_are = ap (λ (x : History). x.events) is_l

    at : (o : Option Name) → new.areas ≡ (if is_some o then [] else self.areas ++ granted_by n w.read (events_of_line n w t) w.step) → new.events ≡ (if is_some o then [] else self.events ++ events_by n w.read (events_of_line n w t) w.step (length self.areas)) → IsHistory new (unwrap_or (option_map (λ t. no_history) o) (history_in l e))
    at (Some x) areas evs = ap (λ a. record { grants = a; events = new.events }) areas ∙ ap (λ v. record { grants = []; events = v }) evs
    at None areas evs =
        let grants_so = areas ∙ ap (λ a. a ++ granted_by n w.read (events_of_line n w t) w.step) areas_are ∙ ap (λ g. l.grants ++ g) (granted_so n bytes w t e is) in
        let evs_so = evs ∙ ap (λ v. v ++ events_by n w.read (events_of_line n w t) w.step (length self.areas)) events_are ∙ ap (λ a. l.events ++ events_by n w.read (events_of_line n w t) w.step (length a)) areas_are ∙ ap (λ v. l.events ++ v) (events_so n bytes w t e is (length l.grants)) in
        ap (λ a. record { grants = a; events = new.events }) grants_so ∙ ap (λ v. record { grants = l.grants ++ granted_at e; events = v }) evs_so

-- one with the same history keeps the same
pub kept_as : (self settled new : Chronicle) (n : ℕ) (read : Line) (evs : List Event) (after : Option JobValue) → history_of settled ≡ history_of self → IsKept settled n read evs after new → IsKept self n read evs after new
kept_as self settled new n read evs after same kept =
    let areas = ap (λ (h : History). h.grants) same in
    let evs_same = ap (λ (h : History). h.events) same in record {
      areas = kept.areas ∙ ap (λ a. if is_some (begun evs) then [] else a ++ granted_by n read evs after) areas;
      changes = kept.changes ∙ ap (λ v. if is_some (begun evs) then [] else v ++ events_by n read evs after (length settled.areas)) evs_same ∙ ap (λ a. if is_some (begun evs) then [] else self.events ++ events_by n read evs after (length a)) areas;
    }

-- the memory that a line needs for it
pub needs_some : (n : ℕ) (bytes : List ℕ) (w : WalkValue) (t : LineEvent) (e : Entry) (is : IsEntry n bytes w t e) (settled : Chronicle)
    → (granted_by n w.read (events_of_line n w t) w.step ≢ []) ⊎ (events_by n w.read (events_of_line n w t) w.step (length settled.areas) ≢ []) → (granted_at e ≢ []) ⊎ ((areas : ℕ) × (events_at e areas ≢ []))
needs_some n bytes w t e is settled (inl some) = inl (λ none. some (granted_so n bytes w t e is ∙ none))
needs_some n bytes w t e is settled (inr some) = inr (length settled.areas, λ none. some (events_so n bytes w t e is (length settled.areas) ∙ none))

-- ---- what is written

module _ (print : Findings → List ℕ) (piece : Piece) (history : List Entry) (e : Entry) (found : Found) (at : FoundAt (history_from no_history history) e.before e.kind found) where
  -- what is found
  abbrev pub findings : Findings
  findings = findings_of found (stays_at (history_from no_history history) e)

  pub longer : (text : List ℕ) → piece.may history e text → (with_history print piece).may history e (text ++ print findings)
  longer text m = (text, found, m, at, refl)

  pub until_longer : (before after : Option (List ℕ)) (why : Stop) → WritesUntil piece before after history e why → WritesUntil (with_history print piece) before after history e why
  until_longer before after stop.Write (text, m, front) = (text ++ print findings, longer text m, front_longer before after text (print findings) front)
  until_longer before after stop.Memory (needs, kept) = (inl needs, kept)

-- the parts of what was found
pub findings_are : (f : Findings) (found : Found) (stays : Leaks) → found_in f ≡ found → f.stays ≡ stays → f ≡ findings_of found stays
findings_are f found stays same left = ap (λ x. findings_of x f.stays) same ∙ ap (findings_of found) left

pub stays_are : (n : ℕ) (bytes : List ℕ) (w : WalkValue) (t : LineEvent) (e : Entry) → IsEntry n bytes w t e → (h l : History) → h ≡ l → stays_of h w.step (ended_tasks (events_of_line n w t)) ≡ stays_at l e
stays_are n bytes w t e is h l same =
    ap (λ x. stays_of x w.step (ended_tasks (events_of_line n w t))) same ∙ ap (λ o. stays_of l o (ended_tasks (events_of_line n w t))) (sym is.after) ∙ ap (λ v. stays_of l e.after (ended_tasks v)) (sym is.events)

-- ---- the last entry

module _ (n : ℕ) (e : Entry) where
  end_quiet : (how : End) → IsEnd n how e → ended_tasks e.events ≡ []
  end_quiet (end.Closed None) is = ap ended_tasks is.1
  end_quiet (end.Closed (Some abended)) is = ap ended_tasks is.1
  end_quiet (end.Exhausted None) is = ap ended_tasks is.1
  end_quiet (end.Exhausted (Some abended)) is = ap ended_tasks is.1

  -- no task ends
  none_stays : (h : History) (o : Option JobValue) → stays_of h o [] ≡ summary []
  none_stays h None = refl
  none_stays h (Some job) = refl

  end_stays : (how : End) (h : History) → IsEnd n how e → stays_at h e ≡ summary []
  end_stays how h is = ap (stays_of h e.after) (end_quiet how is) ∙ none_stays h e.after

  kind_changes : (o : Option JobValue) (areas : ℕ) (k : Kind) → (k ≡ Closed) ⊎ ((said : Line) × (k ≡ Exhausted said)) → events_in e areas o k ≡ []
  kind_changes None areas k is = refl
  kind_changes (Some job) areas k (inl is) = ap (events_in e areas (Some job)) is
  kind_changes (Some job) areas k (inr (said, is)) = ap (events_in e areas (Some job)) is

  end_kind : (how : End) → IsEnd n how e → (e.kind ≡ Closed) ⊎ ((said : Line) × (e.kind ≡ Exhausted said))
  end_kind (end.Closed o) ((outcome, (events, closes, is)), same) = inl (ap (λ (e : Entry). e.kind) is)
  end_kind (end.Exhausted o) ((l, (said, events, of, takes, is)), same) = inr (said, ap (λ (e : Entry). e.kind) is)

  -- the history stays
  pub end_history : (how : End) (h : History) → IsEnd n how e → h ≡ history_after h e
  end_history how h is =
      sym (ap (λ o. unwrap_or (option_map (λ t. no_history) o) (history_in h e)) (none_begun n e how is) ∙ ap (λ g. record { grants = g; events = h.events ++ events_at e (length h.grants) }) (ap (λ g. h.grants ++ g) (none_granted n e how is) ∙ append-nil h.grants)
      ∙ ap (λ v. record { grants = h.grants; events = v }) (ap (λ v. h.events ++ v) (kind_changes e.before (length h.grants) e.kind (end_kind how is)) ∙ append-nil h.events))

  end_found : (h : History) (k : Kind) → (k ≡ Closed) ⊎ ((said : Line) × (k ≡ Exhausted said)) → FoundAt h e.before k nothing_found
  end_found h k (inl is) = subst (λ k. FoundAt h e.before k nothing_found) (sym is) refl
  end_found h k (inr (said, is)) = subst (λ k. FoundAt h e.before k nothing_found) (sym is) refl

  -- nothing is found, of which a format writes nothing
  pub end_text : (print : Findings → List ℕ) → print (findings_of nothing_found (summary [])) ≡ [] → (how : End) (piece : Piece) (history : List Entry) (one : List ℕ) → IsEnd n how e → piece.may history e one → (with_history print piece).may history e one
  end_text print quiet how piece history one is m =
      (one, nothing_found, m, end_found (history_from no_history history) e.kind (end_kind how is), sym (append-nil one) ∙ ap (λ x. one ++ x) (sym (ap (λ s. print (findings_of nothing_found s)) (end_stays how (history_from no_history history) is) ∙ quiet)))

-- ---- through another consumer

module _ {C F : Type 0} (heard : Hearing C) where
  -- what it keeps of a refusal
  abbrev pub recorded : Hearing (Historian C F)
  recorded old job t request refusal left new = (new.consumer.ghost_name ≡ old.consumer.ghost_name) × heard old.consumer.now job t request refusal left new.consumer.now × HearsHistory old.chronicle job t request refusal new.chronicle

  module _ (mid self : Historian C F) (step : Option JobValue) (bytes : List ℕ) (t : LineEvent) (w : WalkValue) (h : ObservesLine recorded mid step bytes t w self) where
    pub name_kept : self.consumer.ghost_name ≡ mid.consumer.ghost_name
    name_kept = line_stays mid self (λ s. s.consumer.ghost_name) recorded (λ job t request refusal left k. k.0) step bytes t w h

    pub consumer_sees : ObservesLine heard mid.consumer.now step bytes t w self.consumer.now
    consumer_sees = line_part mid self (λ s. s.consumer.now) recorded heard (λ job t request refusal left k. k.1) step bytes t w h

    pub chronicle_sees : ObservesLine hears mid.chronicle step bytes t w self.chronicle
    chronicle_sees = line_part mid self (λ s. s.chronicle) recorded hears (λ job t request refusal left k. k.2) step bytes t w h
