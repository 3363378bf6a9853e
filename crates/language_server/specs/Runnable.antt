-- The script that is run of a text while it is edited: a line with a fault counts for nothing, and the others keep their numbers.
use Rattle.std.specs.Prelude.{ℕ, ◌+◌, ◌&&◌, Bool, true, false, if◌then◌else◌, List, [], ◌∷◌, Option, Some, None, is_some}
use Rattle.mvs_model.specs.declared.line.Fault.{Fault}
use Rattle.mvs_model.specs.Lines.{lines_of, ended_text}
use Rattle.mvs_model.specs.declared.line.Line.{Line}
use Rattle.mvs_model.specs.declared.line.Line.TheVariants as line
use Rattle.mvs_model.specs.Reading.{checks, first_of, line_meaning}
use Rattle.language_server.specs.declared.runnable.FaultAt.{FaultAt}

-- the fault of a line, if it has one. `first` is whether no statement came before it
unfoldable pub line_fault : Bool → List ℕ → Option Fault
line_fault first line = first_of (checks first line)

-- what is run of a line with or without a fault
abbrev pub executed_text : Option Fault → List ℕ → List ℕ
executed_text None line = line
executed_text (Some fault) line = []

-- whether a line is blank or a comment
abbrev pub is_blank : Option Line → Bool
is_blank (Some line.Nothing) = true
is_blank said = false

-- whether no statement that is run comes before the next line
unfoldable pub is_first_after : Bool → List ℕ → Bool
is_first_after first bytes = if is_some (line_fault first bytes) then first else first && is_blank (line_meaning bytes)

-- the lines that are run
abbrev pub emptied : Bool → List (List ℕ) → List (List ℕ)
emptied first [] = []
emptied first (l ∷ lines) = executed_text (line_fault first l) l ∷ emptied (is_first_after first l) lines

-- the script that is run
abbrev pub without_faults : List ℕ → List ℕ
without_faults text = ended_text (emptied true (lines_of text))

-- the faults of lines, the first of which has a number
abbrev pub onto_faults : ℕ → Option Fault → List FaultAt → List FaultAt
onto_faults n None faults = faults
onto_faults n (Some fault) faults = record { line = n; fault = fault } ∷ faults

abbrev pub faults_from : ℕ → Bool → List (List ℕ) → List FaultAt
faults_from n first [] = []
faults_from n first (l ∷ lines) = onto_faults n (line_fault first l) (faults_from (n + 1) (is_first_after first l) lines)
