-- Lines that are easily overlooked: nothing was done, since their task was not active, or a name in them was not set.
use Rattle.std.specs.Prelude.{◌≡◌, ℕ, ◌-◌, ◌&&◌, List, [], ◌∷◌, ◌++◌, get_or, Option, Some, None, is_some, Bool, true, not}
use Rattle.std.specs.List.{list_all}
use Rattle.std.specs.Io.KnownBytes.{Appends}
use Rattle.mvs_model.specs.declared.answer.Answer.{Answer as Short}
use Rattle.mvs_model.specs.declared.answer.Answer.TheVariants as short
use Rattle.mvs_model.specs.declared.outcome.Outcome.{Outcome}
use Rattle.mvs_model.specs.Answers.{Answer, Event, AnswerTo, StepEnded, Faulted}
use Rattle.mvs_model.specs.Answers as answer
use Rattle.mvs_laws.specs.Going.{Reaches}
use Rattle.mvs_model.specs.Job.{JobValue}
use Rattle.mvs_model.specs.Lines.{lines_of}
use Rattle.mvs_model.specs.Runs.{IsRun}
use Rattle.mvs_model.specs.Texts.{printing}
use Rattle.mvs_job.specs.declared.strict.SkipReason.{SkipReason}
use Rattle.mvs_job.specs.declared.strict.SkipReason.TheVariants as why
use Rattle.mvs_job.specs.Consuming.{Piece, WritesPieces}
use Rattle.mvs_job.specs.Trace.{Ends, Entry, IsTrace, events_of}

-- why a line that is answered so was not served, if it was not
abbrev pub why_skipped : Answer → Option SkipReason
why_skipped answer.NotRun = Some why.NotRun
why_skipped answer.NoName = Some why.NoName
why_skipped (answer.At addr) = None
why_skipped answer.Rc0 = None
why_skipped (answer.Granted n) = None
why_skipped answer.Rc4 = None
why_skipped answer.Cell = None
why_skipped answer.NoCell = None
why_skipped answer.Attached = None
why_skipped answer.Ended = None
why_skipped answer.Done = None
why_skipped (answer.Data bytes) = None
why_skipped (answer.Abended code fallen) = None
why_skipped (answer.Subpools lines) = None
why_skipped (answer.Map runs) = None
why_skipped (answer.Region card) = None

-- whether it was served
abbrev pub serves : Answer → Bool
serves a = not (is_some (why_skipped a))

-- whether an event is not that of a line that was not executed
abbrev pub is_of_served : Event → Bool
is_of_served (AnswerTo number t a) = serves a
is_of_served (StepEnded abended) = true
is_of_served (Faulted number fault) = true

-- a line that was not served: its number, its text, and why
pub record Skipped : Type 0 where
  pub number : ℕ
  pub line : List ℕ
  pub why : SkipReason

-- a known list grows by some items, in their order
abbrev pub Grows : {A : Type 0} → Option (List A) → Option (List A) → List A → Type 0
Grows None new more = Unit {0}
Grows (Some xs) None more = ⊥
Grows (Some xs) (Some ys) more = ys ≡ xs ++ more

-- the same by its short answer
abbrev pub why_unserved : Short → Option SkipReason
why_unserved short.NotRun = Some why.NotRun
why_unserved short.NoName = Some why.NoName
why_unserved (short.At addr) = None
why_unserved short.Rc0 = None
why_unserved (short.Granted n) = None
why_unserved short.Rc4 = None
why_unserved short.Cell = None
why_unserved short.NoCell = None
why_unserved short.Attached = None
why_unserved short.Ended = None
why_unserved short.Done = None
why_unserved (short.Data p) = None
why_unserved (short.Abended code) = None
why_unserved short.Subpools = None
why_unserved short.Map = None

-- a line of a number, if it was not served
abbrev pub skipped_for : ℕ → List ℕ → Option SkipReason → List Skipped
skipped_for number line None = []
skipped_for number line (Some why) = record { number = number; line = line; why = why } ∷ []

-- the line that was not executed, for its event, where each number has a line
abbrev pub skipped_in : (ℕ → List ℕ) → Event → List Skipped
skipped_in line (AnswerTo number t a) = skipped_for number (line number) (why_skipped a)
skipped_in line (StepEnded abended) = []
skipped_in line (Faulted number fault) = []

-- all lines that were not executed, in the order of the events
abbrev pub all_skipped : (ℕ → List ℕ) → List Event → List Skipped
all_skipped line [] = []
all_skipped line (event ∷ events) = skipped_in line event ++ all_skipped line events

-- the line of a number in a script
abbrev pub line_at : List ℕ → ℕ → List ℕ
line_at script number = get_or (lines_of script) (number - 1) []

-- The text between two moments of a writer is the printing of a run of the script, which ends so; each line was executed, or not;
-- and the observer was called for exactly the lines that were not, in order.
abbrev pub PrintsStrictly : Option (List ℕ) → Option (List ℕ) → Option (List Skipped) → Option (List Skipped) → List ℕ → Outcome → Bool → Type 0
PrintsStrictly before after heard heard' script outcome all =
    (events : List Event) × Appends before after (printing events) × IsRun script events outcome × (all ≡ list_all is_of_served events) × Grows heard heard' (all_skipped (line_at script) events)

-- The text between two moments of a writer is what a consumer writes for a trace of the script, which ends so; each line was executed,
-- or not; and the observer was called for exactly the lines that were not, in order.
abbrev pub RunsObserved : Piece → Option (List ℕ) → Option (List ℕ) → Option (List Skipped) → Option (List Skipped) → List ℕ → Outcome → Bool → Type 0
RunsObserved piece before after heard heard' script outcome all =
    (entries : List Entry) × (text : List ℕ) × IsTrace script entries (Ends outcome) × WritesPieces piece entries text × Appends before after text
    × (all ≡ list_all is_of_served (events_of entries)) × Grows heard heard' (all_skipped (line_at script) (events_of entries))

-- Just the lines are heard of that were not served of the first lines of a script, in a run of it.
abbrev pub ObservesFront : Option (List Skipped) → Option (List Skipped) → List ℕ → Type 0
ObservesFront heard heard' script =
    (events : List Event) × (number : ℕ) × (step : Option JobValue) × (left : List (List ℕ)) × Reaches (lines_of script) events number step left × Grows heard heard' (all_skipped (line_at script) events)

-- the lines of some entries that were not executed, in order
abbrev pub skipped_at : List Entry → List Skipped
skipped_at [] = []
skipped_at (e ∷ entries) = all_skipped (λ number. e.bytes) e.events ++ skipped_at entries

-- From one moment to another these entries were observed: each line of them was executed, or not, and the observer was called for
-- exactly the lines that were not, in order.
pub record Observes (all all' : Bool) (heard heard' : Option (List Skipped)) (entries : List Entry) : Type 0 where
  pub served : all' ≡ (all && list_all is_of_served (events_of entries))
  pub skipped : Grows heard heard' (skipped_at entries)
