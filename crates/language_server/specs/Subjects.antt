-- What a place of a document is in: the task of a statement, its operation, its operands, or a remark.
use Rattle.std.specs.Prelude.{ℕ, ◌+◌, ◌-◌, ◌&&◌, not, nat_le, if◌then◌else◌, List, [], length, find, Option, Some, None, unwrap_or}
use Rattle.language_server.specs.Documents.{DocumentValue, answer_at, others_at}
use Rattle.language_server.specs.Explanations.{abend_code, explanation_of, first_rule}
use Rattle.language_server.specs.Names.{PieceValue, field_of, form_word, operands_at}
use Rattle.language_server.specs.Spans.{line_at, line_bytes, line_start, touches}
use Rattle.language_server.specs.Words.{line_piece, parts_of, remark_code, remark_rule, word_at}
use Rattle.language_server.specs.declared.parts.Parts.{Parts}
use Rattle.language_server.specs.declared.span.Span.{Span}
use Rattle.language_server.specs.declared.subject.Spot.{Spot}
use Rattle.language_server.specs.declared.subject.LinePart.{LinePart}
use Rattle.language_server.specs.declared.subject.LinePart.TheVariants as subject

abbrev pub subject_in : Parts → Span → ℕ → LinePart
subject_in p word column =
    if touches p.task column then subject.Task p.task
    else if touches p.operation column then subject.Operation p.operation
    else if touches p.field column && not (nat_le p.field.end p.field.start) then subject.Field word
    else subject.Remark word

abbrev pub subject_by : Option Parts → Span → ℕ → LinePart
subject_by None word column = subject.Remark word
subject_by (Some p) word column = subject_in p word column

-- what a column of a line is in
abbrev pub subject_of : List ℕ → ℕ → LinePart
subject_of line column = subject_by (parts_of line) (word_at line column) column

-- the bytes that a hover is about
abbrev pub subject_span : LinePart → Span
subject_span (subject.Task s) = s
subject_span (subject.Operation s) = s
subject_span (subject.Field s) = s
subject_span (subject.Remark s) = s

abbrev pub spot_in : List ℕ → ℕ → ℕ → Spot
spot_in text place n = record { place = place; line = n; column = place - line_start text n; subject = subject_of (line_bytes text n) (place - line_start text n) }

-- a place: its line, its column, and what it is in
abbrev pub spot_at : List ℕ → ℕ → Spot
spot_at text place = spot_in text place (line_at text place)

-- ---- codes and rules

-- the word of a line that may be a code: the one of a remark, or the code of the line's answer
abbrev pub code_word : DocumentValue → ℕ → LinePart → List ℕ
code_word d n (subject.Remark s) = remark_code (line_bytes d.text n) s
code_word d n (subject.Task s) = unwrap_or (abend_code (answer_at d n)) []
code_word d n (subject.Operation s) = unwrap_or (abend_code (answer_at d n)) []
code_word d n (subject.Field s) = unwrap_or (abend_code (answer_at d n)) []

-- the number of a rule: that in a remark, or the first that the explanation of the line's answer names
abbrev pub rule_number : DocumentValue → ℕ → LinePart → Option ℕ
rule_number d n (subject.Remark s) = remark_rule (line_bytes d.text n) s
rule_number d n (subject.Task s) = first_rule (explanation_of (others_at d n))
rule_number d n (subject.Operation s) = first_rule (explanation_of (others_at d n))
rule_number d n (subject.Field s) = first_rule (explanation_of (others_at d n))

-- ---- operands

abbrev pub line_field : List ℕ → PieceValue
line_field line = field_of (line_piece line)

abbrev pub piece_span : PieceValue → Span
piece_span p = record { start = p.at; end = p.at + length p.bytes }

abbrev pub form_span : PieceValue → Span
form_span field = record { start = field.at; end = field.at + length (form_word field) }

-- the operand at a column, or right before it
abbrev pub operand_at : PieceValue → ℕ → Option PieceValue
operand_at field column = find (λ p. touches (piece_span p) column) (operands_at field)
