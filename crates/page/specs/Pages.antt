-- The page of a script: a fixed part, and an item for each entry of a run.
use Rattle.std.specs.Prelude.{◌≡◌, ◌≢◌, ◌⊎◌, ℕ, List, [], ◌++◌, Option, Result, Ok, Err, false}
use Rattle.std.specs.Io.KnownBytes.{Appends, Keeps}
use Rattle.line_text.specs.Writing.{AppendsFront}
use Rattle.mvs_model.specs.declared.line.Line.{Line}
use Rattle.mvs_model.specs.declared.line.Line.TheVariants as line
use Rattle.mvs_model.specs.declared.outcome.Outcome.{Outcome}
use Rattle.mvs_model.specs.Answers.{Event}
use Rattle.mvs_model.specs.Runs.{IsRun}
use Rattle.mvs_model.specs.Texts.{printing}
use Rattle.mvs_job.specs.declared.printing.Stop.{Stop}
use Rattle.mvs_job.specs.declared.printing.Stop.TheVariants as stop
use Rattle.mvs_job.specs.declared.run.RunFault.{RunFault}
use Rattle.mvs_job.specs.declared.run.RunFault.TheVariants.{Write}
use Rattle.mvs_job.specs.declared.walk.LineEvent.{LineEvent}
use Rattle.mvs_job.specs.declared.walk.LineEvent.TheVariants as line_event
use Rattle.mvs_job.specs.Consuming.{Known, Piece, WritesText}
use Rattle.mvs_job.specs.Explained.{set_by_entries}
use Rattle.mvs_job.specs.Explaining.{IsExplanationText, explanation_text}
use Rattle.mvs_job.specs.LineEvents.{WalkValue, events_of_line}
use Rattle.mvs_job.specs.Streams.{StopsText}
use Rattle.mvs_job.specs.Trace.{Closed, Entry, Executed, Exhausted, Faulty, Kind}
use Rattle.area_history.specs.Chronicles.{IsHistory}
use Rattle.area_history.specs.Histories.{Found, FoundAt, findings_of, history_from, no_history, stays_at}
use Rattle.area_history.specs.HistoryTexts.{findings_text}
use Rattle.page.specs.declared.pages.PageItems.{PageItems}
use Rattle.page.specs.Markup.{Inside, closing_of, escaped, fault_of, item_of, pre_texts}

-- These are the words about a line that was executed, after these entries: its explanations, and what the history of the storage shows
-- about it.
pub record IsWords (history : List Entry) (e : Entry) (said : Line) (words : List ℕ) : Type 0 where
  pub why : List ℕ
  pub explains : IsExplanationText e.before (set_by_entries history) e.bytes e.events e.after why
  pub found : Found
  pub shows : FoundAt (history_from no_history history) e.before (Executed said) found
  pub are : words ≡ why ++ findings_text (findings_of found (stays_at (history_from no_history history) e))

-- The text is the item of an entry of this kind, after these entries: of a line that was executed, with the words about it; of a line
-- with a fault; and of the end of the job. An entry at which memory is exhausted has none.
abbrev pub IsItemOf : List Entry → Entry → Kind → List ℕ → Type 0
IsItemOf history e (Executed said) text = (words : List ℕ) × IsWords history e said words × (text ≡ item_of e.number e.bytes said e.events e.after words)
IsItemOf history e (Faulty fault) text = text ≡ fault_of e.number e.bytes e.events
IsItemOf history e Closed text = text ≡ closing_of e.events
IsItemOf history e (Exhausted said) text = text ≡ []

-- Memory may be needed for an entry of this kind: the line is answered, or has a fault. A blank line, a comment and the end need none.
abbrev pub NeedsMemory : Kind → Type 0
NeedsMemory (Executed said) = said ≢ line.Nothing
NeedsMemory (Faulty fault) = Unit {0}
NeedsMemory Closed = ⊥
NeedsMemory (Exhausted said) = ⊥

-- what is written for an entry
abbrev pub paged : Piece
paged = record { may = λ history e text. IsItemOf history e e.kind text; needs = λ e. NeedsMemory e.kind }

-- The text is the page of a run of the script, which stops so: the fixed part, and what is written for its entries; or a front of the
-- fixed part, if a write fails.
abbrev pub IsPage : List ℕ → List ℕ → List ℕ → Result Outcome Stop → Type 0
IsPage frame script text how =
    ((items : List ℕ) × (text ≡ frame ++ items) × WritesText paged script items how)
    ⊎ ((how ≡ Err stop.Write) × ((rest : List ℕ) × (frame ≡ text ++ rest)))

-- the text between two moments of a writer is such a page
abbrev pub WritesPage : Option (List ℕ) → Option (List ℕ) → List ℕ → List ℕ → Result Outcome Stop → Type 0
WritesPage before after frame script how = (text : List ℕ) × Appends before after text × IsPage frame script text how

-- The texts of the `<pre>` without a class among the items, one after another, are the printing of a run of the script.
pub record ShowsPrinting (script items : List ℕ) (outcome : Outcome) : Type 0 where
  pub events : List Event
  pub run : IsRun script events outcome
  pub shown : pre_texts (Inside false) items ≡ escaped (printing events)

-- the text between two moments of a writer is the fixed part and such items
abbrev pub WritesShown : Option (List ℕ) → Option (List ℕ) → List ℕ → List ℕ → Outcome → Type 0
WritesShown before after frame script outcome = (items : List ℕ) × Appends before after (frame ++ items) × ShowsPrinting script items outcome

-- The text is the fixed part and such items.
abbrev pub IsShown : List ℕ → List ℕ → List ℕ → Outcome → Type 0
IsShown frame script text outcome = (items : List ℕ) × (text ≡ frame ++ items) × ShowsPrinting script items outcome

-- The text is that of a page when the job stopped for a fault, where these bytes of the script were consumed: the fixed part, and what is
-- written for the first entries of a run; or a front of the fixed part, if a write fails before the first read.
abbrev pub StopsPage : List ℕ → List ℕ → List ℕ → List ℕ → RunFault → Type 0
StopsPage frame consumed script text fault =
    ((items : List ℕ) × (text ≡ frame ++ items) × StopsText paged consumed script items fault)
    ⊎ ((fault ≡ Write) × (consumed ≡ []) × ((rest : List ℕ) × (frame ≡ text ++ rest)))

-- ---- what calls do

-- What is known of a writer of items: it has the names that the entries have set, each with its line, and the history of the storage.
abbrev pub knows_items : PageItems → Known PageItems
knows_items first = record {
  has = λ now entries. (now.explained.lines ≡ set_by_entries entries) × IsHistory now.chronicle (history_from no_history entries);
  had = λ now entries. Unit {0};
}

-- the words about a line with this number, from what a writer has kept of it
abbrev pub words_of_line : PageItems → ℕ → WalkValue → LineEvent → List ℕ
words_of_line items number w t = explanation_text items.explained w.read (events_of_line number w t) w.step ++ findings_text items.chronicle.found

-- The effect of the call for the item of a line with these events, between two moments of a writer: all of it is written, or a front
-- if a write fails. If memory is exhausted, nothing is; that happens only if the line has events.
abbrev pub WritesItem : {X : Type 0} → Option (List ℕ) → Option (List ℕ) → LineEvent → List ℕ → Result X Stop → Type 0
WritesItem before after t item (Ok x) = Appends before after item
WritesItem before after t item (Err stop.Write) = AppendsFront before after item
WritesItem before after t item (Err stop.Memory) = (t ≢ line_event.Nothing) × Keeps before after
