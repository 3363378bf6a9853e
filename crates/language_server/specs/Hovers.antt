-- Hover: what is shown at a place. It is a text in Markdown, of paragraphs.
use Rattle.std.specs.Prelude.{◌≡◌, ◌⊎◌, ◌<◌, ℕ, ◌+◌, ◌==◌, ◌&&◌, nat_eq, Bool, true, false, if◌then◌else◌, List, [], ◌∷◌, ◌++◌, Contains, flat_map, take, length, Option, Some, None, codes, decimal, bytes_eq}
use Rattle.std.specs.List.{slice_split, starts_with}
use Rattle.std.specs.Str.{is_utf8}
use Rattle.mvs_model.specs.Grammar as grammar
use Rattle.mvs_model.specs.Lines.{lines_of}
use Rattle.mvs_model.specs.Reading.{is_empty, row_of, rows_of, takes_form}
use Rattle.reference.specs.Texts as reference
use Rattle.expected_answers.specs.Blank.{place_of, up_to}
use Rattle.expected_answers.specs.Reports.{shown}
use Rattle.language_server.specs.Documents.{DocumentValue, answer_at, others_at}
use Rattle.language_server.specs.Explanations.{explanation_of, starred}
use Rattle.language_server.specs.Known.{known_name, without_blank}
use Rattle.language_server.specs.LineOutputs.{task_of}
use Rattle.language_server.specs.Names.{PieceValue, form_word, key_in, names_of, operation_word}
use Rattle.language_server.specs.References.{name_at}
use Rattle.language_server.specs.Reports.{IsReport}
use Rattle.language_server.specs.Spans.{bytes_of, line_bytes, line_start, shifted, touches, within}
use Rattle.language_server.specs.Subjects.{code_word, form_span, line_field, operand_at, rule_number, spot_at, subject_span}
use Rattle.language_server.specs.Syntax.{FormsValue, all_forms, forms_text, group_of, joined_groups, keyword_text, operands_text, statement_text, takes_same}
use Rattle.language_server.specs.Words.{line_piece}
use Rattle.language_server.specs.declared.names.NameKind.{NameKind}
use Rattle.language_server.specs.declared.names.NameKind.TheVariants as kind
use Rattle.language_server.specs.declared.names.Occurrence.{Occurrence}
use Rattle.language_server.specs.declared.span.Span.{Span}
use Rattle.language_server.specs.declared.subject.Spot.{Spot}
use Rattle.language_server.specs.declared.subject.LinePart.{LinePart}
use Rattle.language_server.specs.declared.subject.LinePart.TheVariants as subject

-- what is shown at a place: the bytes that it is about, and a text
pub record HoverValue : Type 0 where
  pub span : Span
  pub text : List ℕ

-- ---- paragraphs

-- a text that is shown as it is
abbrev pub block : List ℕ → List ℕ
block text = codes "```text\n" ++ text ++ codes "\n```"

abbrev pub after_gaps : List (List ℕ) → List ℕ
after_gaps paragraphs = flat_map (λ paragraph. codes "\n\n" ++ paragraph) paragraphs

-- paragraphs with an empty line between them, unless there are none
abbrev pub joined : List (List ℕ) → Option (List ℕ)
joined [] = None
joined (paragraph ∷ paragraphs) = Some (paragraph ++ after_gaps paragraphs)

-- ---- the syntax of an operation

-- the syntax of a group of forms, if the next form takes other operands
abbrev pub group_block : Bool → List ℕ → FormsValue → List (List ℕ)
group_block true operation group = []
group_block false operation group = block (forms_text operation group) ∷ []

-- the syntax of a group of forms and of those after it. Forms in a row that take the same operands come together
abbrev pub group_blocks : List ℕ → FormsValue → List (List ℕ) → List (List ℕ)
group_blocks operation group [] = block (forms_text operation group) ∷ []
group_blocks operation group (form ∷ forms) =
    group_block (takes_same group (group_of operation form)) operation group
    ++ group_blocks operation (joined_groups (takes_same group (group_of operation form)) group (group_of operation form)) forms

abbrev pub forms_blocks : List ℕ → List (List ℕ) → List (List ℕ)
forms_blocks operation [] = []
forms_blocks operation (form ∷ forms) = group_blocks operation (group_of operation form) forms

abbrev pub syntax_by : List ℕ → Option grammar.Row → List (List ℕ)
syntax_by operation (Some row) = block (statement_text operation [] (operands_text row)) ∷ []
syntax_by operation None = forms_blocks operation (all_forms operation)

-- the syntax of an operation; none, if a word is no operation
abbrev pub syntax_blocks : List ℕ → List (List ℕ)
syntax_blocks operation = syntax_by operation (row_of operation ([] ∷ []))

-- ---- codes and rules

-- The text is that about a code; there is none, if the word is no code.
abbrev pub IsCodeText : List ℕ → Option (List ℕ) → Type 0
IsCodeText word None = Contains reference.names word → ⊥
IsCodeText word (Some text) = Contains reference.names word × reference.IsAbout word text

-- The text is that of a rule; there is none, if no rule has the number.
abbrev pub IsRuleText : Option ℕ → Option (List ℕ) → Type 0
IsRuleText None text = text ≡ None
IsRuleText (Some number) None = (number ≡ 0) ⊎ (74 < number)
IsRuleText (Some number) (Some text) = reference.IsAbout (reference.rule_name number) text

-- a text up to its first empty line
abbrev pub before_gap : List ℕ → List ℕ
before_gap text = up_to (place_of (codes "\n\n") text) text

-- bytes as a text; those that are none are left out
abbrev pub as_text : List ℕ → List ℕ
as_text bytes = if is_utf8 bytes then bytes else []

-- the first paragraph of a text of the reference, if there is one
abbrev pub reference_paragraphs : Option (List ℕ) → List (List ℕ)
reference_paragraphs None = []
reference_paragraphs (Some text) = block (as_text (before_gap text)) ∷ []

-- ---- the answer of a line

-- lines of an explanation, each after a line feed
abbrev pub after_feeds : List (List ℕ) → List ℕ
after_feeds lines = flat_map (λ line. 10 ∷ shown line) lines

abbrev pub starred_feed : Option (List ℕ) → List ℕ
starred_feed None = []
starred_feed (Some text) = 10 ∷ shown text

-- an answer, or its front, with the explanation
abbrev pub answer_text : ℕ → List ℕ → List ℕ → List ℕ
answer_text most answer others = shown (take most answer) ++ after_feeds (explanation_of others)

-- the answer with the explanation, and what the reference has about its code and the rule
abbrev pub answer_paragraphs : DocumentValue → ℕ → Option (List ℕ) → Option (List ℕ) → List (List ℕ)
answer_paragraphs d n about rule =
    if length (answer_at d n) == 0 then []
    else block (answer_text 1000 (answer_at d n) (others_at d n)) ∷ (reference_paragraphs about ++ reference_paragraphs rule)

-- ---- names

abbrev pub kind_word : NameKind → List ℕ
kind_word kind.Area = codes "area"
kind_word kind.Task = codes "task"
kind_word kind.Pool = codes "pool"

-- a name and the line that sets it, by the number of the lines before that
abbrev pub set_text : NameKind → List ℕ → ℕ → List ℕ
set_text kind name line = kind_word kind ++ codes " **" ++ shown name ++ codes "**, line " ++ decimal (line + 1)

abbrev pub starred_blocks : List ℕ → Option (List ℕ) → List (List ℕ)
starred_blocks name None = []
starred_blocks name (Some text) = if starts_with nat_eq text name then block (shown text) ∷ [] else []

-- the lines of explanations that begin with a name
abbrev pub name_blocks : List ℕ → List (List ℕ) → List (List ℕ)
name_blocks name lines = flat_map (λ line. starred_blocks name (starred line)) lines

abbrev pub set_paragraphs : DocumentValue → NameKind → List ℕ → Option Occurrence → List (List ℕ)
set_paragraphs d kind name None = []
set_paragraphs d kind name (Some set) = set_text kind name set.line ∷ name_blocks name (lines_of (others_at d set.line))

-- where a name that is known after a line is set, and what was explained of it there
abbrev pub name_paragraphs : DocumentValue → ℕ → NameKind → List ℕ → List (List ℕ)
name_paragraphs d n kind name = set_paragraphs d kind name (known_name d (names_of d.text) (n + 1) kind name)

abbrev pub named_paragraphs : DocumentValue → ℕ → Option Occurrence → List (List ℕ)
named_paragraphs d n None = []
named_paragraphs d n (Some name) = name_paragraphs d n name.kind (bytes_of d.text name.span)

-- ---- operands

-- a keyword, if it has a key
abbrev pub key_block : List ℕ → grammar.Keyword → List (List ℕ)
key_block key k = if bytes_eq k.key key then block (keyword_text k) ∷ [] else []

abbrev pub key_blocks : List ℕ → List grammar.Keyword → List (List ℕ)
key_blocks key keywords = flat_map (key_block key) keywords

abbrev pub key_paragraphs : Option grammar.Row → List ℕ → List (List ℕ)
key_paragraphs None key = []
key_paragraphs (Some row) key = key_blocks key row.keywords

-- the texts of a report, each after a line feed
abbrev pub report_lines : List (List ℕ) → List ℕ
report_lines texts = flat_map (λ text. 10 ∷ shown (without_blank text)) texts

-- the report of the subpools of a task after the line
abbrev pub report_text : List ℕ → List ℕ → List ℕ
report_text task answer = codes "after this line, for " ++ shown task ++ codes ":" ++ report_lines (slice_split (λ b. b == 47) answer)

abbrev pub report_paragraphs : List ℕ → List ℕ → List (List ℕ)
report_paragraphs task answer = if length answer == 0 then [] else block (report_text task answer) ∷ []

abbrev pub is_subpool : List ℕ → Bool
is_subpool key = bytes_eq key (codes "SP")

abbrev pub subpool_paragraphs : List ℕ → List ℕ → List ℕ → List (List ℕ)
subpool_paragraphs key task answer = if is_subpool key then report_paragraphs task answer else []

-- the row of the form at a column
abbrev pub form_row : List ℕ → PieceValue → ℕ → Option grammar.Row
form_row operation field column =
    if takes_form operation && touches (form_span field) column then row_of operation (form_word field ∷ []) else None

-- the task, the operation and the operands of the line of a place
abbrev pub spot_line : DocumentValue → Spot → List ℕ
spot_line d spot = line_bytes d.text spot.line

abbrev pub spot_operation : DocumentValue → Spot → List ℕ
spot_operation d spot = operation_word (line_piece (spot_line d spot))

abbrev pub spot_field : DocumentValue → Spot → PieceValue
spot_field d spot = line_field (spot_line d spot)

abbrev pub spot_task : DocumentValue → Spot → List ℕ
spot_task d spot = task_of (spot_line d spot)

abbrev pub operand_paragraphs : DocumentValue → Spot → List ℕ → Option PieceValue → List (List ℕ)
operand_paragraphs d spot report None = []
operand_paragraphs d spot report (Some p) =
    key_paragraphs (row_of (spot_operation d spot) (form_word (spot_field d spot) ∷ [])) (key_in p.bytes)
    ++ subpool_paragraphs (key_in p.bytes) (spot_task d spot) report
    ++ named_paragraphs d spot.line (name_at spot.place (names_of d.text))

abbrev pub field_by : DocumentValue → Spot → List ℕ → Option grammar.Row → List (List ℕ)
field_by d spot report (Some row) = block (statement_text (spot_operation d spot) (shown (form_word (spot_field d spot))) (operands_text row)) ∷ []
field_by d spot report None = operand_paragraphs d spot report (operand_at (spot_field d spot) spot.column)

-- the syntax of the form at a place, or what is known of the operand there
abbrev pub field_paragraphs : DocumentValue → Spot → List ℕ → List (List ℕ)
field_paragraphs d spot report =
    if is_empty (rows_of (spot_operation d spot)) then []
    else field_by d spot report (form_row (spot_operation d spot) (spot_field d spot) spot.column)

abbrev pub is_subpool_operand : Option PieceValue → Bool
is_subpool_operand None = false
is_subpool_operand (Some p) = is_subpool (key_in p.bytes)

-- whether a place is in an operand that is the number of a subpool
abbrev pub is_at_subpool : DocumentValue → Spot → LinePart → Bool
is_at_subpool d spot (subject.Task s) = false
is_at_subpool d spot (subject.Operation s) = false
is_at_subpool d spot (subject.Field s) = is_subpool_operand (operand_at (spot_field d spot) spot.column)
is_at_subpool d spot (subject.Remark s) = false

-- ---- hover

-- what is known of what a place is in
abbrev pub subject_paragraphs : DocumentValue → Spot → List ℕ → LinePart → List (List ℕ)
subject_paragraphs d spot report (subject.Task s) = name_paragraphs d spot.line kind.Task (bytes_of (spot_line d spot) s)
subject_paragraphs d spot report (subject.Operation s) = syntax_blocks (bytes_of (spot_line d spot) s)
subject_paragraphs d spot report (subject.Field s) = field_paragraphs d spot report
subject_paragraphs d spot report (subject.Remark s) = []

-- the answer of the line of a place, or what the reference has about a remark
abbrev pub rest_paragraphs : DocumentValue → ℕ → Option (List ℕ) → Option (List ℕ) → LinePart → List (List ℕ)
rest_paragraphs d n about rule (subject.Task s) = answer_paragraphs d n about rule
rest_paragraphs d n about rule (subject.Operation s) = answer_paragraphs d n about rule
rest_paragraphs d n about rule (subject.Field s) = answer_paragraphs d n about rule
rest_paragraphs d n about rule (subject.Remark s) = reference_paragraphs about ++ reference_paragraphs rule

abbrev pub hover_with : Span → Option (List ℕ) → Option HoverValue
hover_with span None = None
hover_with span (Some text) = Some (record { span = span; text = text })

abbrev pub spot_span : List ℕ → Spot → Span
spot_span text spot = within text (shifted (line_start text spot.line) (subject_span spot.subject))

-- what is shown at a place, by the texts of the reference and the report of subpools
abbrev pub hover_of : DocumentValue → Spot → Option (List ℕ) → Option (List ℕ) → List ℕ → Option HoverValue
hover_of d spot about rule report = hover_with (spot_span d.text spot) (joined (subject_paragraphs d spot report spot.subject ++ rest_paragraphs d spot.line about rule spot.subject))

-- The report is that of the subpools of the task of a line after it, if the place is in the number of a subpool.
abbrev pub IsReportIf : Bool → DocumentValue → Spot → List ℕ → Type 0
IsReportIf true d spot report = IsReport d spot.line (spot_task d spot) report
IsReportIf false d spot report = Unit {0}

-- What is shown at a place: what `hover_of` has for the texts about its code and its rule, and the report of its subpool.
pub record IsHoverAt (d : DocumentValue) (spot : Spot) (shown_there : Option HoverValue) : Type 0 where
  pub about : Option (List ℕ)
  pub rule : Option (List ℕ)
  pub report : List ℕ
  pub is_about : IsCodeText (shown (code_word d spot.line spot.subject)) about
  pub is_rule : IsRuleText (rule_number d spot.line spot.subject) rule
  pub is_report : IsReportIf (is_at_subpool d spot spot.subject) d spot report
  pub exact : shown_there ≡ hover_of d spot about rule report

abbrev pub IsHover : DocumentValue → ℕ → Option HoverValue → Type 0
IsHover d at shown_there = IsHoverAt d (spot_at d.text at) shown_there
