-- Diagnostics of requests that were refused, and of lines that were not executed.
use Rattle.std.specs.Prelude.{ℕ, zero, suc, ◌==◌, ◌||◌, Bool, true, false, if◌then◌else◌, List, [], ◌∷◌, ◌++◌, map, codes, Option, Some, None, unwrap_or, bytes_eq}
use Rattle.std.specs.List.{before_first}
use Rattle.mvs_model.specs.Lines.{lines_of}
use Rattle.expected_answers.specs.Reports.{shown}
use Rattle.language_server.specs.Documents.{DocumentValue, answer_at, others_at}
use Rattle.language_server.specs.Explanations.{abend_code, starred}
use Rattle.language_server.specs.NoteValues.{NoteValue, line_span, named_span, statement_span}
use Rattle.language_server.specs.Refusals.{refused_from}
use Rattle.language_server.specs.Spans.{line_bytes}
use Rattle.language_server.specs.Words.{line_piece, word_span}
use Rattle.language_server.specs.declared.notes.Severity.{Severity}
use Rattle.language_server.specs.declared.notes.Severity.TheVariants as level
use Rattle.language_server.specs.declared.span.Span.{Span}

-- ---- the reason

abbrev pub gap : Bool → List ℕ
gap true = []
gap false = codes " "

abbrev pub onto_reason : Option (List ℕ) → List (List ℕ) → List (List ℕ)
onto_reason None texts = []
onto_reason (Some text) texts = text ∷ texts

-- the texts of the first printed lines that begin with an asterisk, at most a number of them
abbrev pub reasons_in : ℕ → List (List ℕ) → List (List ℕ)
reasons_in zero lines = []
reasons_in (suc most) [] = []
reasons_in (suc most) (line ∷ lines) = onto_reason (starred line) (reasons_in most lines)

abbrev pub spaced : Bool → List (List ℕ) → List ℕ
spaced first [] = []
spaced first (text ∷ texts) = gap first ++ (shown text ++ spaced false texts)

-- the reason of a refusal: the first lines of the explanation, in one line
abbrev pub reason_text : List ℕ → List ℕ
reason_text others = spaced true (reasons_in 3 (lines_of others))

abbrev pub first_reason : List (List ℕ) → List ℕ
first_reason [] = []
first_reason (line ∷ lines) = unwrap_or (starred line) []

-- the word with which a reason begins: the task that is not active, or the name that is not set
abbrev pub lacking_word : List ℕ → List ℕ
lacking_word others = before_first (λ b. b == 32) (first_reason (lines_of others))

-- ---- the diagnostic

abbrev pub is_not_run : List ℕ → Bool
is_not_run answer = bytes_eq answer (codes "NOT RUN")

abbrev pub is_no_name : List ℕ → Bool
is_no_name answer = bytes_eq answer (codes "NO NAME")

-- the task that is not active, the name that is not set, or else the statement
abbrev pub refusal_span : List ℕ → List ℕ → List ℕ → Span
refusal_span line answer others =
    if is_not_run answer then word_span (line_piece line) else if is_no_name answer then named_span line (lacking_word others) else statement_span line

abbrev pub refusal_severity : List ℕ → Severity
refusal_severity answer = if is_not_run answer || is_no_name answer then level.Warning else level.Information

-- the code of an abend, or else the answer
abbrev pub answer_code : List ℕ → List ℕ
answer_code answer = unwrap_or (abend_code answer) answer

abbrev pub refusal_message : List ℕ → List ℕ → List ℕ
refusal_message answer others = shown answer ++ (codes ": " ++ reason_text others)

abbrev pub refusal_note : DocumentValue → ℕ → NoteValue
refusal_note d n = record {
  span = line_span d.text n (refusal_span (line_bytes d.text n) (answer_at d n) (others_at d n));
  severity = refusal_severity (answer_at d n);
  code = shown (answer_code (answer_at d n));
  message = refusal_message (answer_at d n) (others_at d n);
}

-- one for each line that was refused or not executed, in their order
abbrev pub refusal_notes : DocumentValue → List NoteValue
refusal_notes d = map (refusal_note d) (refused_from 0 d.outputs)
