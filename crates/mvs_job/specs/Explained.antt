-- What is written of a run with explanations.
use Rattle.std.specs.Prelude.{◌≡◌, ℕ, List, [], ◌∷◌, ◌++◌, Option, Result, Ok}
use Rattle.std.specs.Io.KnownBytes.{Appends}
use Rattle.mvs_model.specs.declared.outcome.Outcome.{Outcome}
use Rattle.mvs_model.specs.Memory.{TakesMemory}
use Rattle.mvs_model.specs.Runs.{IsPrinting}
use Rattle.mvs_model.specs.Texts.{printing}
use Rattle.mvs_job.specs.declared.printing.Stop.{Stop}
use Rattle.mvs_job.specs.Consuming.{Piece, WritesText}
use Rattle.mvs_job.specs.Explaining.{IsExplanationText, without_starred}
use Rattle.mvs_job.specs.NamedAddress.{NameOrigins, no_lines, names_after}
use Rattle.mvs_job.specs.Trace.{Entry, Executed, Kind}

-- the names that are set after a line that says this, each with the number of the line that set it last
abbrev pub set_after : NameOrigins → Entry → Kind → NameOrigins
set_after set e (Executed said) = names_after e.number set said e.events
set_after set e kind = set

-- the names that are set after some entries, which come after others that set these
abbrev pub set_from : NameOrigins → List Entry → NameOrigins
set_from set [] = set
set_from set (e ∷ entries) = set_from (set_after set e e.kind) entries

-- the names that are set after the first entries of a trace
abbrev pub set_by_entries : List Entry → NameOrigins
set_by_entries entries = set_from no_lines entries

-- The text is that of an entry of this kind, before which these names are set: its events, and if it was executed, why it was refused,
-- the name that has the address of the reason, the subpools that were freed with a task, and what a granted request changed.
abbrev pub IsExplainedAs : NameOrigins → Entry → Kind → List ℕ → Type 0
IsExplainedAs set e (Executed said) text = (why : List ℕ) × IsExplanationText e.before set e.bytes e.events e.after why × (text ≡ printing e.events ++ why)
IsExplainedAs set e kind text = text ≡ printing e.events

-- An entry of this kind needs memory, to record the names that it sets.
abbrev pub SetsNames : Entry → Kind → Type 0
SetsNames e (Executed said) = TakesMemory e.before said []
SetsNames e kind = ⊥

-- what is written for an entry
abbrev pub explained : Piece
explained = record { may = λ history e text. IsExplainedAs (set_by_entries history) e e.kind text; needs = λ e. SetsNames e e.kind }

-- The text is that of a run of the script with explanations, which stops so.
abbrev pub IsExplained : List ℕ → List ℕ → Result Outcome Stop → Type 0
IsExplained script text how = WritesText explained script text how

-- the text between two moments of a writer is such a text
abbrev pub WritesExplained : Option (List ℕ) → Option (List ℕ) → List ℕ → Result Outcome Stop → Type 0
WritesExplained before after script how = (text : List ℕ) × Appends before after text × IsExplained script text how

-- Without its lines that begin with an asterisk it is the printing of a run.
abbrev pub ExplainedArePrintings : Type 0
ExplainedArePrintings = (script text : List ℕ) (outcome : Outcome) → IsExplained script text (Ok outcome) → IsPrinting script (without_starred text) outcome
