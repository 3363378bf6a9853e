-- Diagnostics of answers, and of the end of the run, that differ from those that the text expects. There are none, if the run is not shown whole.
use Rattle.std.specs.Prelude.{ℕ, zero, suc, ◌+◌, ◌-◌, ◌&&◌, ◌||◌, not, Bool, if◌then◌else◌, List, [], ◌∷◌, ◌++◌, codes, filter, flat_map, length, max, Option, Some, None, is_some, bytes_eq}
use Rattle.mvs_model.specs.Lines.{lines_of}
use Rattle.mvs_model.specs.Reading.{is_empty}
use Rattle.expected_answers.specs.ExpectedAnswers.{answers_in, end_in, ends_step, last_or, or_nothing}
use Rattle.expected_answers.specs.Reports.{shown}
use Rattle.language_server.specs.Actions.{statement_length}
use Rattle.language_server.specs.Documents.{DocumentValue, answer_at}
use Rattle.language_server.specs.LineOutputs.{LineOutputValue}
use Rattle.language_server.specs.NoteValues.{NoteValue, line_span, whole_span}
use Rattle.language_server.specs.Spans.{line_bytes, line_starts}
use Rattle.language_server.specs.Words.{parts_of}
use Rattle.language_server.specs.declared.notes.Severity.TheVariants as level
use Rattle.language_server.specs.declared.span.Span.{Span}

abbrev pub got_text : List ℕ → List ℕ
got_text got = codes ", but the run prints " ++ shown got

abbrev pub difference_message : List ℕ → List ℕ → List ℕ
difference_message expected got = codes "expected " ++ (shown expected ++ got_text got)

abbrev pub difference_note : Span → List ℕ → List ℕ → NoteValue
difference_note span expected got = record { span = span; severity = level.Warning; code = codes "=>"; message = difference_message expected got }

-- ---- the answers of lines

-- what is after the blank of an arrow
abbrev pub arrow_span : List ℕ → Span
arrow_span line = record { start = statement_length line + 1; end = max (length line) (statement_length line + 1) }

-- whether a text after an arrow expects no answer
abbrev pub is_open : List ℕ → Bool
is_open expected = is_empty expected || bytes_eq expected (codes "?")

-- whether a statement expects an answer, and the run printed another one
abbrev pub is_difference : List ℕ → List ℕ → List ℕ → Bool
is_difference line expected got = not (is_open expected) && (not (bytes_eq expected got) && is_some (parts_of line))

abbrev pub difference_by : DocumentValue → ℕ → Option (List ℕ) → List NoteValue
difference_by d n None = []
difference_by d n (Some expected) =
    if is_difference (line_bytes d.text n) expected (answer_at d n) then difference_note (line_span d.text n (arrow_span (line_bytes d.text n))) expected (or_nothing (answer_at d n)) ∷ []
    else []

abbrev pub difference_at : DocumentValue → ℕ → List NoteValue
difference_at d n = difference_by d n (answers_in (line_bytes d.text n))

-- those of a number of lines, the first of which has a number
abbrev pub differences_from : DocumentValue → ℕ → ℕ → List NoteValue
differences_from d n zero = []
differences_from d n (suc count) = difference_at d n ++ differences_from d (n + 1) count

abbrev pub line_count : List ℕ → ℕ
line_count text = length (line_starts text)

-- ---- the end

-- the last line of a text, or the one before it, if that is empty
abbrev pub last_line : List ℕ → ℕ
last_line text = if is_empty (line_bytes text (line_count text - 1)) then line_count text - 1 - 1 else line_count text - 1

abbrev pub ends_in : LineOutputValue → List (List ℕ)
ends_in output = filter ends_step (lines_of output.others)

abbrev pub step_ends : List LineOutputValue → List (List ℕ)
step_ends outputs = flat_map ends_in outputs

-- the end of the last step. `mvsjob` ends a job at a line with a fault
abbrev pub end_printed : DocumentValue → List ℕ
end_printed d = if is_empty d.faults then last_or (codes "nothing") (step_ends d.outputs) else codes "JOB FAULT RC 12"

abbrev pub end_by : DocumentValue → ℕ → Option (List ℕ) → List NoteValue
end_by d n None = []
end_by d n (Some expected) =
    if bytes_eq (end_printed d) expected then [] else difference_note (line_span d.text n (whole_span (line_bytes d.text n))) expected (end_printed d) ∷ []

abbrev pub end_difference : DocumentValue → List NoteValue
end_difference d = end_by d (last_line d.text) (end_in (line_bytes d.text (last_line d.text)))

abbrev pub differences : DocumentValue → List NoteValue
differences d = if d.is_whole then differences_from d 0 (line_count d.text) ++ end_difference d else []
