-- The report of the subpools of a task after a line: a run of the lines up to it, with one more statement.
use Rattle.std.specs.Prelude.{◌≡◌, ℕ, zero, suc, ◌+◌, ◌==◌, Bool, List, [], ◌∷◌, ◌++◌, take, slice_get, codes, if◌then◌else◌}
use Rattle.std.specs.List.{list_any}
use Rattle.mvs_model.specs.Lines.{lines_of}
use Rattle.expected_answers.specs.Reports.{shown}
use Rattle.language_server.specs.Documents.{DocumentValue, answer_of}
use Rattle.language_server.specs.LineOutputs.{line_outputs}
use Rattle.language_server.specs.Spans.{line_bytes}
use Rattle.language_server.specs.Transcripts.{IsTranscript}
use Rattle.language_server.specs.declared.runnable.FaultAt.{FaultAt}

-- whether a line has a fault
abbrev pub has_fault : List FaultAt → ℕ → Bool
has_fault faults n = list_any (λ f. f.line == n) faults

-- what is run of a line: nothing, if it has a fault
abbrev pub runnable_line : DocumentValue → ℕ → List ℕ
runnable_line d n = if has_fault d.faults n then [] else line_bytes d.text n

-- some lines, the first of which has a number
abbrev pub runnable_lines : DocumentValue → ℕ → ℕ → List ℕ
runnable_lines d n zero = []
runnable_lines d n (suc count) = runnable_line d n ++ 10 ∷ runnable_lines d (n + 1) count

-- the lines up to one with a number, and a statement of a task that reports its subpools
abbrev pub report_script : DocumentValue → ℕ → List ℕ → List ℕ
report_script d n task = runnable_lines d 0 (n + 1) ++ (shown task ++ codes " REPORT SP\n")

-- the most bytes of a script that are run
abbrev pub front_of_script : ℕ → List ℕ → List ℕ
front_of_script most script = take most script

abbrev pub answer_in : List ℕ → List ℕ → ℕ → List ℕ
answer_in script printed n = answer_of (slice_get (line_outputs 1 (lines_of script) (lines_of printed)) n)

-- The answer is what a run of a script prints for a line.
abbrev pub IsAnswerOf : List ℕ → ℕ → List ℕ → Type 0
IsAnswerOf script n answer = (printed : List ℕ) × (whole : Bool) × IsTranscript script printed whole × (answer ≡ answer_in script printed n)

-- The answer is the report of the subpools of a task after a line.
abbrev pub IsReport : DocumentValue → ℕ → List ℕ → List ℕ → Type 0
IsReport d n task answer = IsAnswerOf (front_of_script 1048576 (report_script d n task)) (n + 1) answer
