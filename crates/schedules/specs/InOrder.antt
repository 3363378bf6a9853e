-- A run of the lines of a script in another order, in which each line has the number that it has in the script.
use Rattle.std.specs.Prelude.{◌≡◌, ℕ, ◌-◌, List, [], map, Option, Result, slice_get}
use Rattle.std.specs.Option.{unwrap_or}
use Rattle.mvs_model.specs.declared.outcome.Outcome.{Outcome}
use Rattle.mvs_model.specs.Answers.{Event, AnswerTo, StepEnded, Faulted}
use Rattle.mvs_model.specs.Lines.{lines_of}
use Rattle.mvs_job.specs.declared.printing.Stop.{Stop}
use Rattle.mvs_job.specs.Consuming.{Known, Leaves, Piece}
use Rattle.mvs_job.specs.Trace.{Entry}

-- the line of a script with a number
abbrev pub line_at : List (List ℕ) → ℕ → List ℕ
line_at lines n = unwrap_or (slice_get lines (n - 1)) []

-- the lines of a script with these numbers
abbrev pub lines_at : List (List ℕ) → List ℕ → List (List ℕ)
lines_at lines numbers = map (line_at lines) numbers

-- the number in the script of the line that comes at this place; that of the end stays as it is
abbrev pub number_at : List ℕ → ℕ → ℕ
number_at numbers n = unwrap_or (slice_get numbers (n - 1)) n

-- an event, with the number of its line in the script
abbrev pub renumbered_event : List ℕ → Event → Event
renumbered_event numbers (AnswerTo n t answer) = AnswerTo (number_at numbers n) t answer
renumbered_event numbers (StepEnded abended) = StepEnded abended
renumbered_event numbers (Faulted n fault) = Faulted (number_at numbers n) fault

-- an entry, with the number of its line in the script
abbrev pub renumbered : List ℕ → Entry → Entry
renumbered numbers e = record e { number = number_at numbers e.number; events = map (renumbered_event numbers) e.events }

-- what a consumer writes of entries with the numbers of the script
abbrev pub with_numbers : List ℕ → Piece → Piece
with_numbers numbers piece =
    record { may = λ history e text. piece.may (map (renumbered numbers) history) (renumbered numbers e) text; needs = λ e. piece.needs (renumbered numbers e) }

-- what is known of a consumer that has these entries
abbrev pub knows_with_numbers : {S : Type 0} → List ℕ → Known S → Known S
knows_with_numbers numbers knows = record { has = λ s entries. knows.has s (map (renumbered numbers) entries); had = λ s entries. knows.had s (map (renumbered numbers) entries) }

-- The text between two moments of a writer is what a consumer writes of a run of those lines of a script that have these numbers, one
-- after another, each with its number in the script.
abbrev pub LeavesInOrder : {S : Type 0} → Piece → Known S → Option (List ℕ) → Option (List ℕ) → List (List ℕ) → List ℕ → S → Result Outcome Stop → Type 0
LeavesInOrder piece knows before after lines numbers s result =
    (text : List ℕ) × (lines_of text ≡ lines_at lines numbers) × Leaves (with_numbers numbers piece) (knows_with_numbers numbers knows) before after text s result
