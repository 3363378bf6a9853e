-- Completion: what can replace the word before a place, by the table of statements. All of it is proposed, whatever is
-- typed of the word: the editor shows what fits.
use Rattle.std.specs.Prelude.{ℕ, ◌+◌, ◌-◌, ◌==◌, ◌&&◌, ◌||◌, not, nat_le, nat_lt, count_by, Bool, true, false, if◌then◌else◌, List, [], ◌∷◌, ◌++◌, flat_map, map, length, min, reverse, take, slice_get, Option, Some, None, codes, decimal, bytes_eq}
use Rattle.std.specs.List.{list_any}
use Rattle.mvs_model.specs.Grammar as grammar
use Rattle.mvs_model.specs.Reading.{is_empty, row_of, takes_form}
use Rattle.expected_answers.specs.Reports.{shown}
use Rattle.language_server.specs.Documents.{DocumentValue}
use Rattle.language_server.specs.Hovers.{spot_field, spot_line, spot_operation}
use Rattle.language_server.specs.Known.{is_known, moment_before}
use Rattle.language_server.specs.Names.{PieceValue, form_word, key_in, kind_of, names_of, operands_at}
use Rattle.language_server.specs.References.{kind_number}
use Rattle.language_server.specs.Spans.{bytes_of, line_start, shifted, touches, within}
use Rattle.language_server.specs.Subjects.{form_span, operand_at, piece_span, spot_at}
use Rattle.language_server.specs.Syntax.{all_forms, keyword_text, operands_text, row_operands}
use Rattle.language_server.specs.Words.{parts_of, run_length}
use Rattle.language_server.specs.declared.completion.Context.{Context}
use Rattle.language_server.specs.declared.completion.Context.TheVariants as context
use Rattle.language_server.specs.declared.proposals.ProposalKind.{ProposalKind}
use Rattle.language_server.specs.declared.proposals.ProposalKind.TheVariants as proposed
use Rattle.language_server.specs.declared.names.NameKind.{NameKind}
use Rattle.language_server.specs.declared.names.NameKind.TheVariants as kind
use Rattle.language_server.specs.declared.names.Occurrence.{Occurrence}
use Rattle.language_server.specs.declared.parts.Parts.{Parts}
use Rattle.language_server.specs.declared.span.Span.{Span}
use Rattle.language_server.specs.declared.state.Moment.{Moment}
use Rattle.language_server.specs.declared.subject.Spot.{Spot}

-- a word that is proposed, and what an editor shows beside it
pub record ProposalValue : Type 0 where
  pub kind : ProposalKind
  pub text : List ℕ
  pub detail : List ℕ

-- words, and the bytes that one of them replaces
pub record CompletionValue : Type 0 where
  pub span : Span
  pub proposals : List ProposalValue

-- ---- what is replaced

-- whether a word begins after a byte: a blank, a comma, an equals sign or an opening parenthesis
abbrev pub is_before_word : ℕ → Bool
is_before_word b = (b == 32) || ((b == 44) || ((b == 61) || (b == 40)))

abbrev pub word_end_at : ℕ → List ℕ → Span
word_end_at n line = record { start = n - run_length is_before_word (reverse (take n line)); end = n }

-- the word of a line up to a column
abbrev pub word_before : List ℕ → ℕ → Span
word_before line column = word_end_at (min column (length line)) line

-- ---- where a place is

-- in the task, in or before the operation, in the operands, or after them
abbrev pub context_in : Parts → ℕ → Context
context_in p column =
    if nat_le column p.task.end then context.Task
    else if nat_le column p.operation.end then context.Operation
    else if touches p.field column then context.Operands
    else context.Remark

-- A line without a statement may get one at its first column.
abbrev pub context_by : Option Parts → ℕ → Context
context_by None column = if column == 0 then context.Task else context.Remark
context_by (Some p) column = context_in p column

abbrev pub context_of : List ℕ → ℕ → Context
context_of line column = context_by (parts_of line) column

-- ---- operations

abbrev pub has_row : List ℕ → List grammar.Row → Bool
has_row operation rows = list_any (λ row. bytes_eq row.operation operation) rows

abbrev pub operations_in : List grammar.Row → List (List ℕ)
operations_in [] = []
operations_in (row ∷ rows) = if has_row row.operation rows then operations_in rows else row.operation ∷ operations_in rows

-- each operation of the table once, in the order of their last rows
abbrev pub operations : List (List ℕ)
operations = operations_in grammar.table

-- the operands of an operation, or the number of its forms
abbrev pub operation_detail : List ℕ → Option grammar.Row → List ℕ
operation_detail operation None = decimal (length (all_forms operation)) ++ codes " forms"
operation_detail operation (Some row) = operands_text row

abbrev pub operation_proposal : List ℕ → ProposalValue
operation_proposal operation = record { kind = proposed.Operation; text = operation; detail = operation_detail operation (row_of operation ([] ∷ [])) }

-- a form, and the operands after it
abbrev pub form_proposal : List ℕ → List ℕ → ProposalValue
form_proposal operation form = record { kind = proposed.Form; text = form; detail = row_operands (row_of operation (form ∷ [])) }

-- ---- names

-- a name, and the line that sets it
abbrev pub name_proposal : DocumentValue → Occurrence → ProposalValue
name_proposal d name = record { kind = proposed.Name; text = shown (bytes_of d.text name.span); detail = codes "line " ++ decimal (name.line + 1) }

abbrev pub known_proposal : DocumentValue → List Occurrence → Moment → NameKind → Occurrence → List ProposalValue
known_proposal d names m kind name = if (kind_number kind == kind_number name.kind) && is_known d names m name then name_proposal d name ∷ [] else []

abbrev pub known_proposals : DocumentValue → List Occurrence → Moment → NameKind → List ProposalValue
known_proposals d names m kind = flat_map (known_proposal d names m kind) names

-- the names of a kind that are known before a line, in the order in which they are set
abbrev pub name_proposals : DocumentValue → ℕ → NameKind → List ProposalValue
name_proposals d n kind = known_proposals d (names_of d.text) (moment_before (names_of d.text) n) kind

abbrev pub names_if : DocumentValue → ℕ → Bool → Option NameKind → List ProposalValue
names_if d n false kind = []
names_if d n true None = []
names_if d n true (Some kind) = name_proposals d n kind

-- ---- values

-- whether an operand of a kind is a name, or has names in it
abbrev pub has_names : grammar.Kind → Bool
has_names (grammar.Number least most) = false
has_names grammar.HexByte = false
has_names (grammar.Word words) = false
has_names grammar.Name = true
has_names grammar.Address = true
has_names (grammar.Bytes most) = false
has_names (grammar.Pair least most) = false
has_names (grammar.NumberOrPair least most) = false
has_names (grammar.Numbers count least most) = false
has_names (grammar.DistinctNumbers least most) = false
has_names (grammar.DistinctNames count) = true
has_names (grammar.Addresses count) = true

-- the words that an operand of a kind can be
abbrev pub words_of : grammar.Kind → List (List ℕ)
words_of (grammar.Number least most) = []
words_of grammar.HexByte = []
words_of (grammar.Word words) = words
words_of grammar.Name = []
words_of grammar.Address = []
words_of (grammar.Bytes most) = []
words_of (grammar.Pair least most) = []
words_of (grammar.NumberOrPair least most) = []
words_of (grammar.Numbers count least most) = []
words_of (grammar.DistinctNumbers least most) = []
words_of (grammar.DistinctNames count) = []
words_of (grammar.Addresses count) = []

abbrev pub word_proposal : List ℕ → ProposalValue
word_proposal word = record { kind = proposed.Value; text = word; detail = [] }

-- what an operand of a kind may be, by its operation and its key, which is empty if it has none
abbrev pub value_proposals : DocumentValue → ℕ → List ℕ → List ℕ → grammar.Kind → List ProposalValue
value_proposals d n operation key kind = map word_proposal (words_of kind) ++ names_if d n (has_names kind) (kind_of operation key)

-- ---- operands

abbrev pub is_same_key : ℕ → List ℕ → PieceValue → Bool
is_same_key column key p = bytes_eq (key_in p.bytes) key && not (touches (piece_span p) column)

-- whether a key is given in another operand than the one at a column
abbrev pub is_given : PieceValue → ℕ → List ℕ → Bool
is_given field column key = list_any (is_same_key column key) (operands_at field)

abbrev pub keyword_proposal : grammar.Keyword → ProposalValue
keyword_proposal k = record { kind = proposed.Keyword; text = k.key ++ codes "="; detail = keyword_text k }

abbrev pub key_proposals : PieceValue → ℕ → grammar.Keyword → List ProposalValue
key_proposals field column k = if is_given field column k.key then [] else keyword_proposal k ∷ []

-- the keywords that are not given yet
abbrev pub keyword_proposals : PieceValue → ℕ → List grammar.Keyword → List ProposalValue
keyword_proposals field column keywords = flat_map (key_proposals field column) keywords

-- the number of the operands that end before a column
abbrev pub operands_before : PieceValue → ℕ → ℕ
operands_before field column = count_by (λ p. nat_lt (p.at + length p.bytes) column) (operands_at field)

abbrev pub form_count : List ℕ → ℕ
form_count operation = if takes_form operation then 1 else 0

-- the positional operand that a row has at a column
abbrev pub positional_at : List ℕ → PieceValue → ℕ → grammar.Row → Option grammar.Positional
positional_at operation field column row = slice_get row.positional (operands_before field column - form_count operation)

abbrev pub positional_proposals : DocumentValue → ℕ → List ℕ → Option grammar.Positional → List ProposalValue
positional_proposals d n operation None = []
positional_proposals d n operation (Some p) = value_proposals d n operation [] p.kind

-- what an operand may be that has no key yet
abbrev pub operand_proposals : DocumentValue → Spot → List ℕ → grammar.Row → List ProposalValue
operand_proposals d spot operation row =
    positional_proposals d spot.line operation (positional_at operation (spot_field d spot) spot.column row)
    ++ keyword_proposals (spot_field d spot) spot.column row.keywords

abbrev pub keyed_proposal : DocumentValue → ℕ → List ℕ → List ℕ → grammar.Keyword → List ProposalValue
keyed_proposal d n operation key k = if bytes_eq k.key key then value_proposals d n operation key k.kind else []

-- what the value after a key may be
abbrev pub keyed_proposals : DocumentValue → ℕ → List ℕ → List ℕ → List grammar.Keyword → List ProposalValue
keyed_proposals d n operation key keywords = flat_map (keyed_proposal d n operation key) keywords

-- whether a column is after the key of an operand and its equals sign
abbrev pub is_after_key : PieceValue → ℕ → Bool
is_after_key p column = not (is_empty (key_in p.bytes)) && nat_lt (p.at + length (key_in p.bytes)) column

abbrev pub operand_by : DocumentValue → Spot → List ℕ → grammar.Row → Option PieceValue → List ProposalValue
operand_by d spot operation row None = []
operand_by d spot operation row (Some p) =
    if is_after_key p spot.column then keyed_proposals d spot.line operation (key_in p.bytes) row.keywords else operand_proposals d spot operation row

abbrev pub row_proposals : DocumentValue → Spot → List ℕ → Option grammar.Row → List ProposalValue
row_proposals d spot operation None = []
row_proposals d spot operation (Some row) = operand_by d spot operation row (operand_at (spot_field d spot) spot.column)

-- whether a column is in the form of an operation that has forms
abbrev pub is_in_form : List ℕ → PieceValue → ℕ → Bool
is_in_form operation field column = takes_form operation && touches (form_span field) column

-- what may be written in the operands of an operation: its forms, or what the row of the form takes
abbrev pub field_by : DocumentValue → Spot → List ℕ → List ProposalValue
field_by d spot operation =
    if is_in_form operation (spot_field d spot) spot.column then map (form_proposal operation) (all_forms operation)
    else row_proposals d spot operation (row_of operation (form_word (spot_field d spot) ∷ []))

-- ---- completion

abbrev pub proposals_in : DocumentValue → Spot → Context → List ProposalValue
proposals_in d spot context.Task = name_proposals d spot.line kind.Task
proposals_in d spot context.Operation = map operation_proposal operations
proposals_in d spot context.Operands = field_by d spot (spot_operation d spot)
proposals_in d spot context.Remark = []

abbrev pub spot_word : DocumentValue → Spot → Span
spot_word d spot = within d.text (shifted (line_start d.text spot.line) (word_before (spot_line d spot) spot.column))

abbrev pub completion_at : DocumentValue → Spot → CompletionValue
completion_at d spot = record { span = spot_word d spot; proposals = proposals_in d spot (context_of (spot_line d spot) spot.column) }

-- what may be written at a place of a document
abbrev pub completion_of : DocumentValue → ℕ → CompletionValue
completion_of d place = completion_at d (spot_at d.text place)
