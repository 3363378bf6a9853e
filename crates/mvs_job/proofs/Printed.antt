-- The printing of a trace is that of a run.
use Rattle.std.proofs.Common.{◌≡◌, ◌⊎◌, ℕ, ◌+◌, ◌<◌, ◌≤◌, inl, inr, List, [], ◌∷◌, ◌++◌, length, take, arith, append_assoc, append-nil, Option, None, Bool, true, false, Result, IfOk, IfErr, Ok, Err, refl, sym, ap, ◌∙◌, subst}
use Rattle.std.proofs.lemmas.List.{take_all}
use Rattle.std.specs.Io.KnownBytes.{Appends}
use Rattle.mvs_model.specs.declared.line.Line.{Line}
use Rattle.mvs_model.specs.declared.outcome.Outcome.{Outcome}
use Rattle.mvs_model.specs.Answers.{Event, Faulted}
use Rattle.mvs_model.specs.Lines.{lines_of}
use Rattle.mvs_model.specs.Memory.{IsPrintingBefore}
use Rattle.mvs_model.specs.Runs.{IsAnswered, IsPrinting, IsPrintingFront, machine}
use Rattle.mvs_model.specs.Texts.{printing}
use Rattle.mvs_model.specs.Walk.{Serves}
use Rattle.mvs_laws.specs.Going.{Reaches}
use Rattle.mvs_laws.specs.Labels.{IsLabelText}
use Rattle.mvs_laws.specs.Tidy.{Tidy, IsPrintingInFull}
use Rattle.mvs_laws.proofs.Going.{front_at_memory, front_so_far, printed_both}
use Rattle.mvs_laws.proofs.TidySteps.{tidy_text}
use Rattle.line_text.specs.Writing.{AppendsFront, WritesAll}
use Rattle.mvs_model.specs.declared.watched.Failed.{Failed}
use Rattle.mvs_model.specs.Job.{JobValue}
use Rattle.mvs_job.specs.declared.consumer.End.{End}
use Rattle.mvs_job.specs.declared.printer.Printer.{Printer}
use Rattle.mvs_job.specs.declared.walk.LineEvent.{LineEvent}
use Rattle.mvs_job.specs.declared.printing.Stop.{Stop}
use Rattle.mvs_job.specs.declared.printing.Stop.TheVariants as stop
use Rattle.mvs_job.specs.declared.run.RunFault.{RunFault}
use Rattle.mvs_job.specs.declared.run.RunFault.TheVariants.{Read, Write, Memory, ReadTooLong}
use Rattle.mvs_job.specs.Consuming.{AcceptsLast, AcceptsLine, IsAny, IsEnd, IsFront, IsShort, IsWritten, Known, Leaves, RunsEntry, RunsNext, WritesPiece, WrittenAfter, keeps_nothing}
use Rattle.mvs_job.specs.Exchanging.{Exchanges}
use Rattle.mvs_job.specs.Printed.{printed}
use Rattle.mvs_job.specs.Serving.{RunsLine}
use Rattle.mvs_job.specs.Streams.{GivesUp, HasAnswered, HasEnded, HasGivenUp}
use Rattle.mvs_job.specs.Observing.{Hearing}
use Rattle.mvs_job.specs.LineEvents.{WalkValue, events_of_line}
use Rattle.mvs_job.specs.Trace.{Arrives, Closed, Ending, Ends, Entry, Exhausts, IsTrace, Stops, events_of}
use Rattle.mvs_job.proofs.Serving.{stopped_front}
use Rattle.mvs_job.proofs.Tracing.{IsSplit, stops_walk, trace_split, traces_are_runs, walk_of}

-- what is printed of entries is the printing of their events
pub printed_events : (history entries : List Entry) (text : List ℕ) → WrittenAfter printed history entries text → text ≡ printing (events_of entries)
printed_events history [] text is = is
printed_events history (e ∷ entries) text (one, rest, first, is, cut) =
    cut ∙ ap (λ x. x ++ rest) first ∙ ap (λ x. printing e.events ++ x) (printed_events (history ++ e ∷ []) entries rest is) ∙ sym (printed_both e.events (events_of entries))

-- ---- a call that prints the events of an entry

pub prints_end : {S X : Type 0} (before after : Option (List ℕ)) (first s s' : S) (n : ℕ) (how : End) (result : Result X Failed) (events : List Event) → ((e : Entry) → IsEnd n how e → e.events ≡ events) → WritesAll before after result (printing events)
    → (history : List Entry) (e : Entry) → IsEnd n how e → AcceptsLast {S = S} {X = X} printed (keeps_nothing first) before after s' history e result
prints_end before after first s s' n how (Ok x) events same p history e is = ((printing events, ap printing (sym (same e is)), p), tt)
prints_end before after first s s' n how (Err failed) events same p history e is = ((printing events, ap printing (sym (same e is)), p), tt)

module _ {S : Type 0} (heard : Hearing S) (sees : S → Option JobValue → Line → Type 0) (before after : Option (List ℕ)) (first s s' : S) (n : ℕ) (line : List ℕ) (w : WalkValue) (t : LineEvent) where
  pub prints_line : {X : Type 0} (x : X) → Appends before after (printing (events_of_line n w t)) → AcceptsLine {S = S} {X = X} printed heard sees (keeps_nothing first) before after s s' n line w t (Ok x)
  prints_line x a mid history e is follows seen observed known = ((printing (events_of_line n w t), ap printing (sym is.events), a), tt)

  pub prints_front : (X : Type 0) → AppendsFront before after (printing (events_of_line n w t)) → AcceptsLine {S = S} {X = X} printed heard sees (keeps_nothing first) before after s s' n line w t (Err stop.Write)
  prints_front X a mid history e is follows seen observed known = ((printing (events_of_line n w t), ap printing (sym is.events), a), tt)

-- ---- the text of a trace

events_both : (xs ys : List Entry) → events_of (xs ++ ys) ≡ events_of xs ++ events_of ys
events_both [] ys = refl
events_both (e ∷ xs) ys = ap (λ x. e.events ++ x) (events_both xs ys) ∙ sym (append_assoc e.events (events_of xs) (events_of ys))

module _ (script : List ℕ) where
  reached : (how : Ending) (entries : List Entry) (r : IsSplit how 1 None (lines_of script) entries) → Reaches (lines_of script) (events_of r.before) r.next r.step r.left
  reached how entries r = record { served = r.served; lines = r.lines_are; counted = r.counted; leads = walk_of (Arrives r.step) 1 None r.served r.before r.trace }

  exhausted_front : (entries : List Entry) (r : IsSplit Exhausts 1 None (lines_of script) entries) (left : List (List ℕ)) → r.left ≡ left → Stops Exhausts r.next r.step left r.last → IsPrintingFront script (printing (events_of entries))
  exhausted_front entries r [] is h = absurd h
  exhausted_front entries r (l ∷ left) is h =
      let to : Reaches (lines_of script) (events_of r.before) r.next r.step (l ∷ left) = subst (Reaches (lines_of script) (events_of r.before) r.next r.step) is (reached Exhausts entries r) in
      let text : printing (events_of entries) ≡ printing (events_of r.before) ++ printing (events_of r.last) = ap (λ x. printing (events_of x)) r.entries_are ∙ ap printing (events_both r.before r.last) ∙ printed_both (events_of r.before) (events_of r.last) in
      subst (IsPrintingFront script) (sym text) (front_at_memory (lines_of script) (events_of r.before) (events_of r.last) r.next r.step l left to (stops_walk Exhausts r.next r.step (l ∷ left) r.last h))

  -- what is printed for a trace is a front of what a run prints
  pub trace_front : (how : Ending) (entries : List Entry) → IsTrace script entries how → IsPrintingFront script (printing (events_of entries))
  trace_front (Ends outcome) entries t = ([], outcome, (events_of entries, traces_are_runs script entries outcome t, append-nil (printing (events_of entries))))
  trace_front Exhausts entries t = let r = trace_split Exhausts 1 None (lines_of script) entries t in exhausted_front entries r r.left refl r.stops
  trace_front (Arrives new) entries t =
      front_so_far (lines_of script) (events_of entries) (1 + length (lines_of script)) new [] (record { served = lines_of script; lines = sym (append-nil (lines_of script)); counted = refl; leads = walk_of (Arrives new) 1 None (lines_of script) entries t })

  -- a front of a piece for the next entry
  next_front : (how : Ending) (entries rest : List Entry) (next : Entry) (done front left : List ℕ) → IsTrace script (entries ++ next ∷ rest) how → done ≡ printing (events_of entries) → front ++ left ≡ printing next.events → IsPrintingFront script (done ++ front)
  next_front how entries rest next done front left t is cut =
      let after = printing (events_of rest) in
      let f = trace_front how (entries ++ next ∷ rest) t in
      let whole : (done ++ front) ++ (left ++ after) ≡ printing (events_of (entries ++ next ∷ rest)) =
      append_assoc done front (left ++ after) ∙ ap (λ x. done ++ x) (sym (append_assoc front left after)) ∙ ap (λ x. done ++ (x ++ after)) cut
      ∙ ap (λ x. done ++ x) (sym (printed_both next.events (events_of rest))) ∙ ap (λ x. x ++ printing (next.events ++ events_of rest)) is
      ∙ sym (printed_both (events_of entries) (next.events ++ events_of rest)) ∙ ap printing (sym (events_both entries (next ∷ rest))) in
      ((left ++ after) ++ f.0, f.1, (f.2.0, f.2.1, sym (append_assoc (done ++ front) (left ++ after) f.0) ∙ ap (λ x. x ++ f.0) whole ∙ f.2.2))

  cut_front : (how : Ending) (entries rest : List Entry) (next : Entry) (done front : List ℕ) → IsTrace script (entries ++ next ∷ rest) how → done ≡ printing (events_of entries) → (front ≡ []) ⊎ ((left : List ℕ) × (front ++ left ≡ printing next.events)) → IsPrintingFront script (done ++ front)
  cut_front how entries rest next done front t is (inl none) = next_front how entries rest next done front (printing next.events) t is (ap (λ x. x ++ printing next.events) none)
  cut_front how entries rest next done front t is (inr (left, cut)) = next_front how entries rest next done front left t is cut

  module _ {S : Type 0} (knows : Known S) (text : List ℕ) (s : S) where
    pub ended_printing : (outcome : Outcome) → IsWritten printed knows script text (Ends outcome) s → IsPrinting script text outcome
    ended_printing outcome w = (events_of w.entries, traces_are_runs script w.entries outcome w.trace, printed_events [] w.entries text w.is)

    pub exhausted_printing : IsWritten printed knows script text Exhausts s ⊎ IsShort printed knows script text s → IsPrintingBefore script text
    exhausted_printing (inl w) = (events_of w.entries, walk_of Exhausts 1 None (lines_of script) w.entries w.trace, printed_events [] w.entries text w.is)
    exhausted_printing (inr (entries, next, needs, known, begun)) = absurd needs

    pub exhausted_is_front : IsWritten printed knows script text Exhausts s ⊎ IsShort printed knows script text s → IsPrintingFront script text
    exhausted_is_front (inl w) = subst (IsPrintingFront script) (sym (printed_events [] w.entries text w.is)) (trace_front Exhausts w.entries w.trace)
    exhausted_is_front (inr (entries, next, needs, known, begun)) = absurd needs

    pub front_printing : IsFront printed knows script text s → IsPrintingFront script text
    front_printing w = subst (IsPrintingFront script) (sym w.is) (cut_front w.begun.how w.entries w.begun.rest w.next w.done w.front w.begun.trace (printed_events [] w.entries w.done w.begun.is) w.cut)

  pub answered_printing : {S : Type 0} (consumed text : List ℕ) (first s : S) → HasAnswered printed (keeps_nothing first) consumed text s → IsAnswered consumed text
  answered_printing consumed text first s h =
      record { lines = h.lines; kept = h.pending; cut = h.cut; each = h.each; unended = h.unended; short = h.short; events = events_of h.entries; step = h.step; leads = walk_of (Arrives h.step) 1 None h.lines h.entries h.trace; printed = printed_events [] h.entries text h.is }

-- what a run leaves that prints
pub lines_printed : (before after : Option (List ℕ)) (script : List ℕ) (first s : Printer) (r : Result Outcome Stop) → Leaves printed (keeps_nothing first) before after script s r → IfOk r (λ outcome. (text : List ℕ) × Appends before after text × IsPrinting script text outcome)
lines_printed before after script first s (Ok outcome) (text, a, w) = (text, a, ended_printing script (keeps_nothing first) text s outcome w)
lines_printed before after script first s (Err why) h = tt

-- ---- a job that prints

module _ {S : Type 0} (unread left start now : Option (List ℕ)) (most : ℕ) (first s : S) where
  pub printed_ended : (outcome : Outcome) → HasEnded printed (keeps_nothing first) unread left start now most s outcome → Exchanges unread left start now (λ consumed script text. (length consumed ≤ most) × IsPrinting script text outcome)
  printed_ended outcome h = (h.0, h.1, h.2, h.3, h.4, h.5, (h.6.0, ended_printing (h.0 ++ h.1) (keeps_nothing first) h.2 s outcome h.6.1))

  pub printed_tidy : (outcome : Outcome) → HasEnded printed (keeps_nothing first) unread left start now most s outcome
      → Exchanges unread left start now (λ consumed script text. IsPrinting script text outcome × (Tidy script → IsPrintingInFull script text outcome → IsLabelText script text))
  printed_tidy outcome h = (h.0, h.1, h.2, h.3, h.4, h.5, (ended_printing (h.0 ++ h.1) (keeps_nothing first) h.2 s outcome h.6.1, λ tidy full. tidy_text (h.0 ++ h.1) h.2 outcome tidy full))

  module _ (consumed script text : List ℕ) where
    pub gives_up_front : (fault : RunFault) → GivesUp printed (keeps_nothing first) most consumed script text s fault → (length consumed ≤ most + 1) × IsPrintingFront script text × (fault ≡ ReadTooLong → most < length consumed)
    gives_up_front Memory h = (omega (arith, h.0), exhausted_is_front script (keeps_nothing first) text s h.1, (λ e. absurd (let f : Memory ≡ ReadTooLong = e in cc)))
    gives_up_front Write h = (omega (arith, h.0), front_printing script (keeps_nothing first) text s h.1, (λ e. absurd (let f : Write ≡ ReadTooLong = e in cc)))
    gives_up_front Read h = (omega (arith, h.0), front_printing script (keeps_nothing first) text s h.1, (λ e. absurd (let f : Read ≡ ReadTooLong = e in cc)))
    gives_up_front ReadTooLong h = (omega (arith, h.0), front_printing script (keeps_nothing first) text s h.1, (λ e. omega (arith, h.0)))

    pub gives_up_before : (fault : RunFault) → GivesUp printed (keeps_nothing first) most consumed script text s fault → fault ≡ Memory → IsPrintingBefore script text
    gives_up_before Memory h e = exhausted_printing script (keeps_nothing first) text s h.1
    gives_up_before Write h e = absurd (let f : Write ≡ Memory = e in cc)
    gives_up_before Read h e = absurd (let f : Read ≡ Memory = e in cc)
    gives_up_before ReadTooLong h e = absurd (let f : ReadTooLong ≡ Memory = e in cc)

    pub gives_up_answered : (fault : RunFault) → GivesUp printed (keeps_nothing first) most consumed script text s fault → (fault ≡ Read) ⊎ (fault ≡ ReadTooLong) → IsAnswered (take most consumed) text
    gives_up_answered Memory h (inl e) = absurd (let f : Memory ≡ Read = e in cc)
    gives_up_answered Memory h (inr e) = absurd (let f : Memory ≡ ReadTooLong = e in cc)
    gives_up_answered Write h (inl e) = absurd (let f : Write ≡ Read = e in cc)
    gives_up_answered Write h (inr e) = absurd (let f : Write ≡ ReadTooLong = e in cc)
    gives_up_answered Read h e = subst (λ x. IsAnswered x text) (sym (take_all most consumed h.0)) (answered_printing script consumed text first s h.2)
    gives_up_answered ReadTooLong h e = answered_printing script (take most consumed) text first s h.2

  pub printed_fault : (fault : RunFault) → HasGivenUp printed (keeps_nothing first) unread left start now most s fault
      → Exchanges unread left start now (λ consumed script text. (length consumed ≤ most + 1) × IsPrintingFront script text × (fault ≡ ReadTooLong → most < length consumed))
  printed_fault fault h = (h.0, h.1, h.2, h.3, h.4, h.5, gives_up_front h.0 (h.0 ++ h.1) h.2 fault h.6)

  pub printed_before : (fault : RunFault) → HasGivenUp printed (keeps_nothing first) unread left start now most s fault → fault ≡ Memory → Exchanges unread left start now (λ consumed script text. IsPrintingBefore script text)
  printed_before fault h e = (h.0, h.1, h.2, h.3, h.4, h.5, gives_up_before h.0 (h.0 ++ h.1) h.2 fault h.6 e)

  pub printed_answered : (fault : RunFault) → HasGivenUp printed (keeps_nothing first) unread left start now most s fault → (fault ≡ Read) ⊎ (fault ≡ ReadTooLong)
      → Exchanges unread left start now (λ consumed script text. IsAnswered (take most consumed) text)
  printed_answered fault h e = (h.0, h.1, h.2, h.3, h.4, h.5, gives_up_answered h.0 (h.0 ++ h.1) h.2 fault h.6 e)

-- what holds of each result
pub ok_so : {X E : Type 0} (r : Result X E) (P Q : X → Type 0) → IfOk r P → ((x : X) → P x → Q x) → IfOk r Q
ok_so (Ok x) P Q h f = f x h
ok_so (Err e) P Q h f = tt

pub err_so : {X E : Type 0} (r : Result X E) (P Q : E → Type 0) → IfErr r P → ((e : E) → P e → Q e) → IfErr r Q
err_so (Ok x) P Q h f = tt
err_so (Err e) P Q h f = f e h

-- ---- a line that is printed

module _ (before after : Option (List ℕ)) (w : WalkValue) (line : List ℕ) (new : WalkValue) (first s s' : Printer) where
  printed_at : (e : Entry) (events : List Event) → e.events ≡ events → Appends before after (printing e.events) → Appends before after (printing events)
  printed_at e events is a = subst (λ x. Appends before after (printing x)) is a

  front_at : (e : Entry) (events : List Event) → e.events ≡ events → AppendsFront before after (printing e.events) → AppendsFront before after (printing events)
  front_at e events is f = subst (λ x. AppendsFront before after (printing x)) is f

  any_line : (e : Entry) → IsAny w.number w.step line e → AppendsFront before after (printing e.events) → RunsLine before after w line new (Err stop.Write)
  any_line e (inl (said, events, later, of, serves, is)) f = inr (events, inl (later, (said, of, serves)), front_at e events (ap (λ e. e.events) is) f)
  any_line e (inr (inl (fault, of, is))) f = inr (Faulted w.number fault ∷ [], inr (fault, of, refl), front_at e (Faulted w.number fault ∷ []) (ap (λ e. e.events) is) f)
  any_line e (inr (inr (said, events, of, takes, is))) f = stopped_front w line events before after (said, of, takes) (front_at e events (ap (λ e. e.events) is) f)

  -- an entry that leads to the step of the job
  abbrev so_far : List Entry
  so_far = record { number = 0; bytes = []; kind = Closed; events = []; before = None; after = w.step } ∷ []

  -- what is written for an entry
  piece_at : (e : Entry) (events : List Event) → e.events ≡ events → WritesPiece printed before after so_far e → Appends before after (printing events)
  piece_at e events is (one, may, a) = printed_at e events is (subst (Appends before after) may a)

  pub printed_line : (r : Result Bool Stop) → RunsNext printed (keeps_nothing first) before after w line new s s' r → RunsLine before after w line new r
  printed_line (Ok true) ran =
      let (e, (said, events, later, of, serves, is), to, a, known) = ran so_far refl tt in
      (events, piece_at e events (ap (λ e. e.events) is) a, (said, of, subst (Serves machine w.number w.step said events) (sym (ap (λ e. e.after) is) ∙ to) serves))
  printed_line (Ok false) ran = let (e, (fault, of, is), a, known) = ran so_far refl tt in (Faulted w.number fault ∷ [], piece_at e (Faulted w.number fault ∷ []) (ap (λ e. e.events) is) a, (fault, of, refl))
  printed_line (Err stop.Write) ran = let (e, is, (one, may, f), known) = ran so_far refl tt in any_line e is (subst (AppendsFront before after) may f)
  printed_line (Err stop.Memory) ran = exhausted (ran so_far refl tt) where
    exhausted : RunsEntry printed (keeps_nothing first) before after w line new so_far s' (Err stop.Memory) → RunsLine before after w line new (Err stop.Memory)
    exhausted (inl (e, (said, events, of, takes, is), a, known)) = (events, piece_at e events (ap (λ e. e.events) is) a, (said, of, takes))
    exhausted (inr (e, is, needs, kept, known)) = absurd needs
