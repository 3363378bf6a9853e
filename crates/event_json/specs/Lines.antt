-- Events as lines of JSON.
use Rattle.std.specs.Prelude.{◌≡◌, ℕ, List, [], ◌∷◌, ◌++◌, Option, Some, None, Bool, true, false, Result, Ok, Err, codes, decimal}
use Rattle.std.specs.Io.KnownBytes.{Appends, Keeps}
use Rattle.line_text.specs.Writing.{AppendsFront, WritesAll}
use Rattle.mvs_model.specs.declared.name.Name.{Name}
use Rattle.mvs_model.specs.declared.outcome.Outcome.{Outcome}
use Rattle.mvs_model.specs.Answers.{Answer, Event, AnswerTo, StepEnded, Faulted}
use Rattle.mvs_model.specs.Name.{trimmed}
use Rattle.mvs_model.specs.Runs.{IsRun}
use Rattle.mvs_model.specs.Texts.{fault_number}
use Rattle.mvs_job.specs.declared.printing.Stop.{Stop}
use Rattle.mvs_job.specs.declared.printing.Stop.TheVariants as stop
use Rattle.mvs_job.specs.Consuming.{Piece, WritesText}
use Rattle.mvs_job.specs.Trace.{Entry}

-- the first members of a statement of a task, and the comma after them
abbrev pub statement_head : ℕ → Name → List ℕ
statement_head number t = codes "{\"event\":\"statement\",\"line\":" ++ decimal number ++ codes ",\"task\":\"" ++ trimmed t ++ codes "\","

-- the line of the end of a step, if one ended
abbrev pub step_end : Option Bool → List ℕ
step_end (Some true) = codes "{\"event\":\"step_ended\",\"return_code\":8}\n"
step_end (Some false) = codes "{\"event\":\"step_ended\",\"return_code\":0}\n"
step_end None = []

-- the line of a fault
abbrev pub fault_line : ℕ → ℕ → List ℕ
fault_line number digit = codes "{\"event\":\"fault\",\"line\":" ++ decimal number ++ codes ",\"fault\":" ++ decimal digit ++ codes "}\n"

-- The text is the line of a statement of a task. Only its first members are pinned: those of its answer come after them.
abbrev pub IsStatement : ℕ → Name → List ℕ → Type 0
IsStatement number t text = (members : List ℕ) × (text ≡ statement_head number t ++ members ++ 10 ∷ [])

-- The text is the line of an event.
abbrev pub IsLineOf : Event → List ℕ → Type 0
IsLineOf (AnswerTo number t answer) text = IsStatement number t text
IsLineOf (StepEnded abended) text = text ≡ step_end (Some abended)
IsLineOf (Faulted number fault) text = text ≡ fault_line number (fault_number fault)

-- The text is the lines of some events, in their order.
abbrev pub AreLinesOf : List Event → List ℕ → Type 0
AreLinesOf [] text = text ≡ []
AreLinesOf (event ∷ events) text = (line : List ℕ) × (rest : List ℕ) × (text ≡ line ++ rest) × IsLineOf event line × AreLinesOf events rest

-- The last of some events is the answer to a statement.
abbrev pub EndsWithAnswer : List Event → Type 0
EndsWithAnswer events = (before : List Event) × (number : ℕ) × (t : Name) × (answer : Answer) × (events ≡ before ++ AnswerTo number t answer ∷ [])

-- What is written for an entry: a line for each of its events. Memory may be needed for the line of a statement.
abbrev pub event_lines : Piece
event_lines = record { may = λ history e text. AreLinesOf e.events text; needs = λ e. EndsWithAnswer e.events }

-- ---- a law

-- The lines of a run that ends so are those of the events of a run.
abbrev pub EventLinesAreOfRuns : Type 0
EventLinesAreOfRuns = (script text : List ℕ) (outcome : Outcome) → WritesText event_lines script text (Ok outcome) → (events : List Event) × IsRun script events outcome × AreLinesOf events text

-- ---- what calls do

-- The lines of some events are written, or a front of them, if a write failed.
abbrev pub WritesLast : {X E : Type 0} → Option (List ℕ) → Option (List ℕ) → List Event → Result X E → Type 0
WritesLast before after events result = (text : List ℕ) × AreLinesOf events text × WritesAll before after result text

-- The lines of some events are written; or a front of them, if a write failed; or nothing, if memory was exhausted for the line of a
-- statement.
abbrev pub WritesEvents : {X : Type 0} → Option (List ℕ) → Option (List ℕ) → List Event → Result X Stop → Type 0
WritesEvents before after events (Ok done) = (text : List ℕ) × AreLinesOf events text × Appends before after text
WritesEvents before after events (Err stop.Write) = (text : List ℕ) × AreLinesOf events text × AppendsFront before after text
WritesEvents before after events (Err stop.Memory) = EndsWithAnswer events × Keeps before after
