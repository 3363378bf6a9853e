-- The items of the entries of a run.
use Rattle.std.proofs.Common.{◌≡◌, ◌≤◌, ℕ, ◌+◌, length, List, [], ◌∷◌, ◌++◌, take, append-nil, codes, decimal, Option, Some, None, Result, Bool, true, false, IfOk, Ok, Err, inl, inr, refl, sym, ap, ◌∙◌, subst, arith}
use Rattle.std.specs.Prelude.{◌≢◌, ◌⊎◌, IsErrAnd, MatchResult}
use Rattle.std.proofs.lemmas.Grind.{flat_map-append}
use Rattle.std.proofs.lemmas.List.{take-take}
use Rattle.std.specs.Io.KnownBytes.{Appends}
use Rattle.std.proofs.KnownBytes.{Appends-nil, Appends-trans}
use Rattle.mvs_model.specs.declared.line.Line.{Line}
use Rattle.mvs_model.specs.declared.line.Line.TheVariants as line
use Rattle.mvs_model.specs.declared.name.Name.{Name}
use Rattle.mvs_model.specs.declared.outcome.Outcome.{Outcome}
use Rattle.mvs_model.specs.declared.watched.Failed.{Failed}
use Rattle.mvs_model.specs.Answers.{Answer, AnswerTo, Event, Region}
use Rattle.mvs_model.specs.Answers as answer
use Rattle.mvs_model.specs.FullAnswers.{ended_with_in}
use Rattle.mvs_model.specs.Job.{JobValue}
use Rattle.mvs_model.specs.Lines.{lines_of}
use Rattle.mvs_model.specs.Memory.{TakesMemory}
use Rattle.mvs_model.specs.Reading.{LineOf}
use Rattle.mvs_model.specs.Runs.{machine}
use Rattle.mvs_model.specs.Texts.{printing}
use Rattle.mvs_model.specs.Walk.{Serves, is_first}
use Rattle.mvs_model.proofs.Reading.{one_reading}
use Rattle.mvs_laws.proofs.Going.{printed_both}
use Rattle.line_text.specs.Writing.{AppendsFront, WritesAll}
use Rattle.mvs_job.specs.declared.consumer.End.{End}
use Rattle.mvs_job.specs.declared.consumer.End.TheVariants as end
use Rattle.mvs_job.specs.declared.printing.Stop.{Stop}
use Rattle.mvs_job.specs.declared.printing.Stop.TheVariants as stop
use Rattle.mvs_job.specs.declared.run.RunFault.{RunFault}
use Rattle.mvs_job.specs.declared.run.RunFault.TheVariants.{Write}
use Rattle.mvs_job.specs.declared.walk.LineEvent.{LineEvent}
use Rattle.mvs_job.specs.declared.walk.LineEvent.TheVariants as line_event
use Rattle.mvs_job.specs.Consuming.{Accepts, AcceptsLast, IsEnd, IsEntry, LeavesText, WritesText, WrittenAfter}
use Rattle.mvs_job.specs.Exchanging.{Exchanges}
use Rattle.mvs_job.specs.Explained.{SetsNames, set_by_entries}
use Rattle.mvs_job.specs.LineEvents.{IsReadIn, WalkValue, closing, ended, events_of_line, full_answer_in}
use Rattle.mvs_job.specs.Streams.{StopsText}
use Rattle.mvs_job.specs.Trace.{Closed, Ends, Entry, Executed, Exhausted, Faulty, IsClosed, IsExecuted, IsFaulty, Kind, Traces, events_of}
use Rattle.mvs_job.proofs.ExplainedLine.{end_set}
use Rattle.mvs_job.proofs.Tracing.{traces_are_runs}
use Rattle.area_history.specs.Chronicles.{IsHistory}
use Rattle.area_history.specs.Histories.{events_at, events_in, history_from, no_history}
use Rattle.area_history.specs.Ledgers.{granted_at, granted_in}
use Rattle.area_history.proofs.Recording.{end_history, history_snoc}
use Rattle.page.specs.declared.pages.PageItems.{PageItems}
use Rattle.page.specs.Changes.{answer_in, changes_of}
use Rattle.page.specs.Items.{item_of_event}
use Rattle.page.specs.Lines.{change_lines}
use Rattle.page.specs.Markup.{Inside, answer_class, article_tag, class_of, closing_of, escaped, escaped_byte, fault_of, head_of, is_plain, item_of, pre_texts, reply_of, shown_line, tail_of}
use Rattle.page.specs.Pages.{IsItemOf, IsPage, IsShown, IsWords, NeedsMemory, ShowsPrinting, StopsPage, WritesItem, WritesPage, WritesShown, knows_items, paged}
use Rattle.page.proofs.Plain.{Shows, both_shown, head_shown, none_shown, note_of_shown, plain_shown, reply_shown, tail_shown}

-- ---- the item of an entry

module _ (n : ℕ) (line : List ℕ) (w : WalkValue) (e : Entry) where
  one_read : (said : Line) → LineOf (is_first e.before) line said → IsReadIn e.before line w.read → w.read ≡ said
  one_read said of (inl here) = one_reading.one_line (is_first e.before) line w.read said here of
  one_read said of (inr f) = absurd (one_reading.not_both (is_first e.before) line said f.0 of f.1)

  module _ (history : List Entry) (words : List ℕ) where
    executed_item : (events : List Event) → e.events ≡ events → e.after ≡ w.step → IsReadIn e.before line w.read → ((said : Line) → e.kind ≡ Executed said → IsWords history e said words) → IsExecuted n e.before line e
        → IsItemOf history e e.kind (item_of n line w.read events w.step words)
    executed_item events same_events same_after reading are (said, others, new, of, serves, is) =
        let kind : e.kind ≡ Executed said = ap (λ (e : Entry). e.kind) is in
        let number : n ≡ e.number = sym (ap (λ (e : Entry). e.number) is) in
        let bytes : line ≡ e.bytes = sym (ap (λ (e : Entry). e.bytes) is) in
        let read : w.read ≡ said = one_read said of reading in
        let these : events ≡ e.events = sym same_events in
        let after : w.step ≡ e.after = sym same_after in
        let same : item_of n line w.read events w.step words ≡ item_of e.number e.bytes said e.events e.after words = λ i. item_of (number i) (bytes i) (read i) (these i) (after i) words in
        subst (λ k. IsItemOf history e k (item_of n line w.read events w.step words)) (sym kind) (words, are said kind, same)

    fault_item : (events : List Event) → e.events ≡ events → IsFaulty n e.before line e → IsItemOf history e e.kind (fault_of n line events)
    fault_item events same_events (fault, of, is) =
        let kind : e.kind ≡ Faulty fault = ap (λ (e : Entry). e.kind) is in
        let number : n ≡ e.number = sym (ap (λ (e : Entry). e.number) is) in
        let bytes : take 256 line ≡ e.bytes = sym (ap (λ (e : Entry). e.bytes) is) in
        let short : shown_line line ≡ shown_line e.bytes = ap escaped (sym (take-take 255 256 line (omega arith)) ∙ ap (take 255) bytes) in
        let these : events ≡ e.events = sym same_events in
        let notice = codes "<p>The job ends here.</p>\n</article>\n" in
        let head : head_of n (codes "js") line ≡ head_of e.number (codes "js") e.bytes =
        λ i. article_tag (number i) (codes "js") ++ (codes "\n<h2>" ++ (escaped (decimal (number i)) ++ (codes " <code>" ++ (short i ++ codes "</code></h2>\n")))) in
        let same : fault_of n line events ≡ fault_of e.number e.bytes e.events = λ i. head i ++ (reply_of (printing (these i)) ++ notice) in
        subst (λ k. IsItemOf history e k (fault_of n line events)) (sym kind) same

    -- the item of a line may be written for its entry
    pub may_item : (t : LineEvent) → IsEntry n line w t e → ((said : Line) → e.kind ≡ Executed said → IsWords history e said words) → IsItemOf history e e.kind (item_of_event n line w.read w t words)
    may_item (line_event.Faulted fault) entry are = fault_item (events_of_line n w (line_event.Faulted fault)) entry.events entry.of_line
    may_item line_event.Nothing entry are = executed_item (events_of_line n w line_event.Nothing) entry.events entry.after entry.read are entry.of_line
    may_item (line_event.StepBegan end card) entry are = executed_item (events_of_line n w (line_event.StepBegan end card)) entry.events entry.after entry.read are entry.of_line
    may_item (line_event.Answered t a) entry are = executed_item (events_of_line n w (line_event.Answered t a)) entry.events entry.after entry.read are entry.of_line

  -- ---- the memory that it needs

  some_needs : (events : List Event) → (events ≡ [] → ⊥) → e.events ≡ events → IsExecuted n e.before line e → NeedsMemory e.kind
  some_needs events some same (said, others, new, of, serves, is) =
      let here : others ≡ events = sym (ap (λ (e : Entry). e.events) is) ∙ same in
      subst NeedsMemory (sym (ap (λ (e : Entry). e.kind) is)) (λ none. some (sym here ∙ (subst (λ l. Serves machine n e.before l others new) none serves).0))

  one_more : (front : List Event) (x : Event) → front ++ x ∷ [] ≡ [] → ⊥
  one_more [] x is = absurd (let f : x ∷ [] ≡ [] = is in cc)
  one_more (y ∷ front) x is = absurd (let f : y ∷ (front ++ x ∷ []) ≡ [] = is in cc)

  pub item_needs : (t : LineEvent) → IsEntry n line w t e → t ≢ line_event.Nothing → NeedsMemory e.kind
  item_needs line_event.Nothing entry some = absurd (some refl)
  item_needs (line_event.Faulted fault) entry some = faulty entry.of_line where
    faulty : IsFaulty n e.before line e → NeedsMemory e.kind
    faulty (other, of, is) = subst NeedsMemory (sym (ap (λ (e : Entry). e.kind) is)) tt
  item_needs (line_event.StepBegan end card) entry some = some_needs _ (one_more (ended end) (AnswerTo n card.name (Region card))) entry.events entry.of_line
  item_needs (line_event.Answered t a) entry some = some_needs _ (one_more [] (AnswerTo n t (full_answer_in w.step (ended_with_in w.reply) t a))) entry.events entry.of_line

-- a line that says nothing takes no memory
takes_none : (old : Option JobValue) → TakesMemory old line.Nothing [] → ⊥
takes_none None h = h
takes_none (Some job) h = h

-- an entry that needs memory for its names needs it for its item
pub names_need : (e : Entry) (k : Kind) → SetsNames e k → NeedsMemory k
names_need e (Executed said) sets = λ none. takes_none e.before (subst (λ l. TakesMemory e.before l []) none sets)
names_need e (Faulty fault) sets = absurd sets
names_need e Closed sets = absurd sets
names_need e (Exhausted said) sets = absurd sets

-- so does one at which something is kept for the history
grants_need : (e : Entry) (o : Option JobValue) (k : Kind) → (granted_in e o k ≡ [] → ⊥) → NeedsMemory k
grants_need e None (Executed said) some = absurd (some refl)
grants_need e (Some job) (Executed said) some = λ none. some (ap (λ l. granted_in e (Some job) (Executed l)) none)
grants_need e o (Faulty fault) some = tt
grants_need e None Closed some = absurd (some refl)
grants_need e (Some job) Closed some = absurd (some refl)
grants_need e None (Exhausted said) some = absurd (some refl)
grants_need e (Some job) (Exhausted said) some = absurd (some refl)

changes_need : (e : Entry) (areas : ℕ) (o : Option JobValue) (k : Kind) → (events_in e areas o k ≡ [] → ⊥) → NeedsMemory k
changes_need e areas None (Executed said) some = absurd (some refl)
changes_need e areas (Some job) (Executed said) some = λ none. some (ap (λ l. events_in e areas (Some job) (Executed l)) none)
changes_need e areas o (Faulty fault) some = tt
changes_need e areas None Closed some = absurd (some refl)
changes_need e areas (Some job) Closed some = absurd (some refl)
changes_need e areas None (Exhausted said) some = absurd (some refl)
changes_need e areas (Some job) (Exhausted said) some = absurd (some refl)

pub history_needs : (e : Entry) → (granted_at e ≢ []) ⊎ ((areas : ℕ) × (events_at e areas ≢ [])) → NeedsMemory e.kind
history_needs e (inl some) = grants_need e e.before e.kind some
history_needs e (inr (areas, some)) = changes_need e areas e.before e.kind some

-- ---- what a call does

abbrev pub Knows : PageItems → List Entry → Type 0
Knows now entries = (now.explained.lines ≡ set_by_entries entries) × IsHistory now.chronicle (history_from no_history entries)

-- the last entry changes nothing of that
still_known : (now : PageItems) (history : List Entry) (n : ℕ) (e : Entry) (how : End) → IsEnd n how e → Knows now history → Knows now (history ++ e ∷ [])
still_known now history n e how is known = (known.0 ∙ end_set n how e is history, known.1 ∙ end_history n e how (history_from no_history history) is ∙ sym (history_snoc no_history history e))

module _ (before after : Option (List ℕ)) (first now : PageItems) (history : List Entry) (e : Entry) where
  pub accepts_item : {X : Type 0} (t : LineEvent) (item : List ℕ) (r : Result X Stop) → WritesItem before after t item r → IsItemOf history e e.kind item → (t ≢ line_event.Nothing → NeedsMemory e.kind)
      → Knows now (history ++ e ∷ []) → Accepts {S = PageItems} {X = X} paged (knows_items first) before after now history e r
  accepts_item t item (Ok x) wrote may needs known = ((item, may, wrote), known)
  accepts_item t item (Err stop.Write) wrote may needs known = ((item, may, wrote), tt)
  accepts_item t item (Err stop.Memory) (some, kept) may needs known = ((needs some, kept), tt)

  closed_item : (n : ℕ) (o : Option Bool) → IsEnd n (end.Closed o) e → IsItemOf history e e.kind (closing_of (closing n o))
  closed_item n o ((outcome, (events, closes, is)), same) = subst (λ k. IsItemOf history e k (closing_of (closing n o))) (sym (ap (λ (e : Entry). e.kind) is)) (ap closing_of (sym same))

  pub accepts_closed : {X : Type 0} (n : ℕ) (o : Option Bool) (r : Result X Failed) → IsEnd n (end.Closed o) e → WritesAll before after r (closing_of (closing n o)) → Knows now history → AcceptsLast {S = PageItems} {X = X} paged (knows_items first) before after now history e r
  accepts_closed n o (Ok x) is wrote known = ((closing_of (closing n o), closed_item n o is, wrote), still_known now history n e (end.Closed o) is known)
  accepts_closed n o (Err failed) is wrote known = ((closing_of (closing n o), closed_item n o is, wrote), tt)

-- memory was exhausted: nothing is written
module _ (before : Option (List ℕ)) (first now : PageItems) (history : List Entry) (e : Entry) where
  none_item : (n : ℕ) (o : Option Bool) → IsEnd n (end.Exhausted o) e → IsItemOf history e e.kind []
  none_item n o ((l, (said, events, of, takes, is)), same) = subst (λ k. IsItemOf history e k []) (sym (ap (λ (e : Entry). e.kind) is)) refl

  pub accepts_exhausted : {X : Type 0} (n : ℕ) (o : Option Bool) (x : X) → IsEnd n (end.Exhausted o) e → Knows now history → AcceptsLast {S = PageItems} {X = X} paged (knows_items first) before before now history e (Ok x)
  accepts_exhausted n o x is known = (([], none_item n o is, Appends-nil before), still_known now history n e (end.Exhausted o) is known)

-- ---- a page

-- the fixed part, and then what is written for a run
pub page_after : (before mid after : Option (List ℕ)) (frame script : List ℕ) (how : Result Outcome Stop) → Appends before mid frame → LeavesText paged mid after script how → WritesPage before after frame script how
page_after before mid after frame script how a (items, b, w) = (frame ++ items, Appends-trans before mid after frame items a b, inl (items, refl, w))

-- a front of the fixed part, if a write fails
pub page_cut : (before after : Option (List ℕ)) (frame script : List ℕ) → AppendsFront before after frame → WritesPage before after frame script (Err stop.Write)
page_cut before after frame script (front, rest, is, a) = (front, a, inr (refl, (rest, is)))

-- the same of a script that is read
module _ (unread left before mid after : Option (List ℕ)) (frame : List ℕ) (a : Appends before mid frame) where
  page_read : (P Q : List ℕ → List ℕ → List ℕ → Type 0) → ((consumed script items : List ℕ) → P consumed script items → Q consumed script (frame ++ items)) → Exchanges unread left mid after P → Exchanges unread left before after Q
  page_read P Q f (consumed, rest, items, read, is, b, p) = (consumed, rest, frame ++ items, read, is, Appends-trans before mid after frame items a b, f consumed (consumed ++ rest) items p)

  pub page_ended : (outcome : Outcome) → Exchanges unread left mid after (λ consumed script items. (length consumed ≤ 16777215) × WritesText paged script items (Ok outcome)) → Exchanges unread left before after (λ consumed script text. (length consumed ≤ 16777215) × IsPage frame script text (Ok outcome))
  page_ended outcome h = page_read (λ consumed script items. (length consumed ≤ 16777215) × WritesText paged script items (Ok outcome)) (λ consumed script text. (length consumed ≤ 16777215) × IsPage frame script text (Ok outcome)) (λ consumed script items (few, w). (few, inl (items, refl, w))) h

  pub page_given_up : (fault : RunFault) → Exchanges unread left mid after (λ consumed script items. StopsText paged consumed script items fault) → Exchanges unread left before after (λ consumed script text. StopsPage frame consumed script text fault)
  page_given_up fault h = page_read (λ consumed script items. StopsText paged consumed script items fault) (λ consumed script text. StopsPage frame consumed script text fault) (λ consumed script items w. inl (items, refl, w)) h

-- nothing was read before a write of the fixed part failed
pub page_unread : (unread before after : Option (List ℕ)) (frame : List ℕ) → AppendsFront before after frame → Exchanges unread unread before after (λ consumed script text. StopsPage frame consumed script text Write)
page_unread None before after frame (front, rest, is, a) = ([], [], front, tt, tt, a, inr (refl, refl, (rest, is)))
page_unread (Some xs) before after frame (front, rest, is, a) = ([], xs, front, refl, refl, a, inr (refl, refl, (rest, is)))

-- a write has failed, if `map_err` made an error of it
pub write_failed : {X E D : Type 0} (before after : Option (List ℕ)) (text : List ℕ) (r : Result X E) (s : Result X D) (Q : E → D → Type 0) (d : D) → MatchResult r (λ y. s ≡ Ok y) (λ e. IsErrAnd s (Q e)) → s ≡ Err d → WritesAll before after r text → AppendsFront before after text
write_failed before after text (Ok y) s Q d same is w = absurd (let e : Ok y ≡ Err d = sym same ∙ is in cc)
write_failed before after text (Err e) s Q d made is w = w

-- ---- what a reader sees

class_plain : (a : Answer) → is_plain (answer_class a) ≡ true
class_plain answer.NotRun = refl
class_plain answer.NoName = refl
class_plain (answer.At a) = refl
class_plain answer.Rc0 = refl
class_plain (answer.Granted n) = refl
class_plain answer.Rc4 = refl
class_plain answer.Cell = refl
class_plain answer.NoCell = refl
class_plain answer.Attached = refl
class_plain answer.Ended = refl
class_plain answer.Done = refl
class_plain (answer.Data bytes) = refl
class_plain (answer.Abended code fallen) = refl
class_plain (answer.Subpools lines) = refl
class_plain (answer.Map runs) = refl
class_plain (answer.Region card) = refl

class_of_plain : (events : List Event) → is_plain (class_of events) ≡ true
class_of_plain events = at (answer_in events) refl where
  at : (said : Option (Name × Answer)) → answer_in events ≡ said → is_plain (class_of events) ≡ true
  at None e = rw e refl
  at (Some said) e = rw e (class_plain said.1)

-- the printing of events, as it is written between tags
abbrev shown_of : List Event → List ℕ
shown_of events = escaped (printing events)

reply_then : (printed rest : List ℕ) → Shows rest [] → Shows (reply_of printed ++ rest) (escaped printed)
reply_then printed rest p = subst (Shows (reply_of printed ++ rest)) (append-nil (escaped printed)) (both_shown (reply_of printed) rest (escaped printed) [] (reply_shown printed) p)

item_shown : (number : ℕ) (l : List ℕ) (read : Line) (events : List Event) (new : Option JobValue) (trailing : List ℕ) → Shows (item_of number l read events new trailing) (shown_of events)
item_shown number l read [] new trailing = note_of_shown number l
item_shown number l read (e ∷ events) new trailing =
    let how = class_of (e ∷ events) in
    let printed = printing (e ∷ events) in
    let changes = change_lines new (changes_of read (e ∷ events) new) in
    both_shown (head_of number how l) (reply_of printed ++ tail_of trailing changes) [] (escaped printed) (head_shown number how l (class_of_plain (e ∷ events)))
    (reply_then printed (tail_of trailing changes) (tail_shown trailing changes))

fault_shown : (number : ℕ) (l : List ℕ) (events : List Event) → Shows (fault_of number l events) (shown_of events)
fault_shown number l events =
    let notice = codes "The job ends here." in
    let close = codes "</p>\n</article>\n" in
    let end = codes "<p>" ++ (notice ++ close) in
    both_shown (head_of number (codes "js") l) (reply_of (printing events) ++ end) [] (shown_of events) (head_shown number (codes "js") l refl)
    (reply_then (printing events) end (none_shown (codes "<p>") (notice ++ close) (λ rest. refl) (none_shown notice close (plain_shown notice refl) (λ rest. refl))))

shown_both : (events more : List Event) → shown_of (events ++ more) ≡ shown_of events ++ shown_of more
shown_both events more = ap escaped (printed_both events more) ∙ flat_map-append escaped_byte (printing events) (printing more)

closing_shown : (events : List Event) → Shows (closing_of events) (shown_of events)
closing_shown events = reply_shown (printing events)

-- an entry before the end of a job that ends shows its events
kind_shown : (history : List Entry) (e : Entry) (k : Kind) (text : List ℕ) → ((said : Line) → k ≡ Exhausted said → ⊥) → IsItemOf history e k text → Shows text (shown_of e.events)
kind_shown history e (Executed said) text some (words, are, is) = subst (λ t. Shows t (shown_of e.events)) (sym is) (item_shown e.number e.bytes said e.events e.after words)
kind_shown history e (Faulty fault) text some is = subst (λ t. Shows t (shown_of e.events)) (sym is) (fault_shown e.number e.bytes e.events)
kind_shown history e Closed text some is = subst (λ t. Shows t (shown_of e.events)) (sym is) (closing_shown e.events)
kind_shown history e (Exhausted said) text some is = absurd (some said refl)

module _ (history : List Entry) (e : Entry) (rest : List Entry) (text : List ℕ) (some : (said : Line) → e.kind ≡ Exhausted said → ⊥) where
  entry_shown : WrittenAfter paged history (e ∷ rest) text → ((others : List ℕ) → WrittenAfter paged (history ++ e ∷ []) rest others → Shows others (shown_of (events_of rest))) → Shows text (shown_of (events_of (e ∷ rest)))
  entry_shown (one, others, may, more, is) shows =
      subst (λ t. Shows t (shown_of (events_of (e ∷ rest)))) (sym is)
      (subst (Shows (one ++ others)) (sym (shown_both e.events (events_of rest)))
      (both_shown one others (shown_of e.events) (shown_of (events_of rest)) (kind_shown history e e.kind one some may) (shows others more)))

none_left : (history : List Entry) (others : List ℕ) → WrittenAfter paged history [] others → Shows others (shown_of (events_of []))
none_left history others is = subst (λ t. Shows t []) (sym is) (λ rest. refl)

closed_kind : (n : ℕ) (old : Option JobValue) (outcome : Outcome) (e : Entry) → IsClosed n old outcome e → (said : Line) → e.kind ≡ Exhausted said → ⊥
closed_kind n old outcome e (events, closes, is) said exhausted = absurd (let f : Closed ≡ Exhausted said = sym (ap (λ (e : Entry). e.kind) is) ∙ exhausted in cc)

faulty_kind : (n : ℕ) (old : Option JobValue) (l : List ℕ) (e : Entry) → IsFaulty n old l e → (said : Line) → e.kind ≡ Exhausted said → ⊥
faulty_kind n old l e (fault, of, is) said exhausted = absurd (let f : Faulty fault ≡ Exhausted said = sym (ap (λ (e : Entry). e.kind) is) ∙ exhausted in cc)

executed_kind : (n : ℕ) (old : Option JobValue) (l : List ℕ) (e : Entry) → IsExecuted n old l e → (said : Line) → e.kind ≡ Exhausted said → ⊥
executed_kind n old l e (other, events, new, of, serves, is) said exhausted = absurd (let f : Executed other ≡ Exhausted said = sym (ap (λ (e : Entry). e.kind) is) ∙ exhausted in cc)

abbrev Seen : List Entry → List Entry → Type 0
Seen history entries = (text : List ℕ) → WrittenAfter paged history entries text → Shows text (shown_of (events_of entries))

trace_shown : (outcome : Outcome) (lines : List (List ℕ)) (number : ℕ) (old : Option JobValue) (history entries : List Entry) → Traces (Ends outcome) number old lines entries → Seen history entries
trace_shown outcome [] number old history entries (e, closed, is) =
    subst (Seen history) (sym is) (λ text w. entry_shown history e [] text (closed_kind number old outcome e closed) w (none_left (history ++ e ∷ [])))
trace_shown outcome (l ∷ lines) number old history entries (inl (e, faulty, is, same)) =
    subst (Seen history) (sym is) (λ text w. entry_shown history e [] text (faulty_kind number old l e faulty) w (none_left (history ++ e ∷ [])))
trace_shown outcome (l ∷ lines) number old history entries (inr (e, rest, executed, is, more)) =
    subst (Seen history) (sym is) (λ text w. entry_shown history e rest text (executed_kind number old l e executed) w (trace_shown outcome lines (number + 1) e.after (history ++ e ∷ []) rest more))

shows_printing : (script items : List ℕ) (outcome : Outcome) → WritesText paged script items (Ok outcome) → ShowsPrinting script items outcome
shows_printing script items outcome w =
    let shown = trace_shown outcome (lines_of script) 1 None [] w.entries w.trace items w.is in
    record { events = events_of w.entries; run = traces_are_runs script w.entries outcome w.trace; shown = ap (pre_texts (Inside false)) (sym (append-nil items)) ∙ shown [] ∙ append-nil (shown_of (events_of w.entries)) }

-- The page of a run shows its printing.
shows : (start after : Option (List ℕ)) (frame script : List ℕ) (outcome : Outcome) → WritesPage start after frame script (Ok outcome) → WritesShown start after frame script outcome
shows start after frame script outcome (text, a, inl (items, e, w)) = (items, subst (Appends start after) e a, shows_printing script items outcome w)
shows start after frame script outcome (text, a, inr (e, rest)) = absurd (let f : ◌≡◌ {A = Result Outcome Stop} (Ok outcome) (Err stop.Write) = e in cc)

-- the same of a script that is read
pub read_shows : (unread left before after : Option (List ℕ)) (frame : List ℕ) (outcome : Outcome) → Exchanges unread left before after (λ consumed script text. (length consumed ≤ 16777215) × IsPage frame script text (Ok outcome)) → Exchanges unread left before after (λ consumed script text. IsShown frame script text outcome)
read_shows unread left before after frame outcome (consumed, rest, text, read, is, b, (few, inl (items, e, w))) = (consumed, rest, text, read, is, b, (items, e, shows_printing (consumed ++ rest) items outcome w))
read_shows unread left before after frame outcome (consumed, rest, text, read, is, b, (few, inr (e, more))) = absurd (let f : ◌≡◌ {A = Result Outcome Stop} (Ok outcome) (Err stop.Write) = e in cc)

pub page_shows : (start after : Option (List ℕ)) (frame script : List ℕ) (how : Result Outcome Stop) → WritesPage start after frame script how → IfOk how (WritesShown start after frame script)
page_shows start after frame script (Ok outcome) w = shows start after frame script outcome w
page_shows start after frame script (Err why) w = tt
