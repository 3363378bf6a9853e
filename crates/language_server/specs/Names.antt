-- The names of a script: where they are, what they are the names of, and which lines set them. Words, operands and names are those of
-- the reader of scripts (Reading of mvs_model); here they have their places.
use Rattle.std.specs.Prelude.{ℕ, ◌+◌, ◌==◌, ◌&&◌, ◌||◌, not, Bool, false, if◌then◌else◌, List, [], ◌∷◌, ◌++◌, length, drop, flat_map, Option, Some, None, codes, bytes_eq}
use Rattle.std.specs.List.{before_first, prefix_len, slice_split}
use Rattle.mvs_model.specs.Lines.{lines_of}
use Rattle.mvs_model.specs.Reading.{form_in, has_key, is_empty, is_name, is_name_byte, is_one_of, key_of, parts_within, text_of}
use Rattle.job_script.specs.Parted.{field_in}
use Rattle.language_server.specs.declared.names.Occurrence.{Occurrence}
use Rattle.language_server.specs.declared.names.NameKind.{NameKind}
use Rattle.language_server.specs.declared.names.NameKind.TheVariants as kind

-- some bytes, by the place of the first
pub record PieceValue : Type 0 where
  pub at : ℕ
  pub bytes : List ℕ

-- pieces in a row with one byte between each two, by the place of the first
abbrev pub placed : ℕ → List (List ℕ) → List PieceValue
placed at [] = []
placed at (bytes ∷ pieces) = record { at = at; bytes = bytes } ∷ placed (at + length bytes + 1) pieces

-- ---- the words of a line

-- whether a line is a statement: it begins with no blank and no asterisk
abbrev pub begins_statement : List ℕ → Bool
begins_statement [] = false
begins_statement (b ∷ bytes) = not (b == 32) && not (b == 42)

-- the word with which a piece begins
abbrev pub first_word : PieceValue → List ℕ
first_word p = before_first (λ b. b == 32) p.bytes

-- a piece without the blanks with which it begins
abbrev pub without_blanks : PieceValue → PieceValue
without_blanks p = record { at = p.at + prefix_len (λ b. b == 32) p.bytes; bytes = drop (prefix_len (λ b. b == 32) p.bytes) p.bytes }

-- a piece from its second word on
abbrev pub after_word : PieceValue → PieceValue
after_word p = without_blanks (record { at = p.at + length (first_word p); bytes = drop (length (first_word p)) p.bytes })

-- the second word of a line, its third word and what follows it, and the operands that the third word is
abbrev pub operation_word : PieceValue → List ℕ
operation_word line = first_word (after_word line)

abbrev pub field_of : PieceValue → PieceValue
field_of line = after_word (after_word line)

abbrev pub operands_at : PieceValue → List PieceValue
operands_at field = placed field.at (parts_within 0 (field_in field.bytes))

abbrev pub form_word : PieceValue → List ℕ
form_word field = form_in [] (parts_within 0 (field_in field.bytes))

-- ---- what a name is the name of

-- what the names after a key are
abbrev pub kind_of_key : List ℕ → Option NameKind
kind_of_key key =
    if is_one_of (codes "A" ∷ codes "ADDR" ∷ codes "CELL" ∷ []) key then Some kind.Area
    else if bytes_eq key (codes "CPID") then Some kind.Pool
    else if bytes_eq key (codes "TASK") then Some kind.Task
    else None

-- whether an operation has addresses after keys, or without keys
abbrev pub has_keys : List ℕ → Bool
has_keys operation = is_one_of (codes "GETMAIN" ∷ codes "FREEMAIN" ∷ codes "STORAGE" ∷ codes "CPOOL" ∷ codes "ATTACH" ∷ []) operation

abbrev pub has_addresses : List ℕ → Bool
has_addresses operation = is_one_of (codes "PUT" ∷ codes "SHOW" ∷ codes "MOVE" ∷ codes "WHERE" ∷ []) operation

-- what the names in an operand are, by its operation and its key, which is empty if it has none
abbrev pub kind_of : List ℕ → List ℕ → Option NameKind
kind_of operation key =
    if has_keys operation then kind_of_key key else if has_addresses operation && is_empty key then Some kind.Area else None

-- whether an operation with a form sets the names of a kind in its operands
abbrev pub sets : List ℕ → List ℕ → NameKind → Bool
sets operation form kind.Task = bytes_eq operation (codes "ATTACH")
sets operation form kind.Pool = bytes_eq operation (codes "CPOOL") && bytes_eq form (codes "BUILD")
sets operation form kind.Area =
    bytes_eq operation (codes "GETMAIN") || ((bytes_eq operation (codes "STORAGE") && bytes_eq form (codes "OBTAIN")) || (bytes_eq operation (codes "CPOOL") && bytes_eq form (codes "GET")))

-- ---- the names of a line

-- the operation and the form of a statement, its line, and its step
pub record StatementValue : Type 0 where
  pub operation : List ℕ
  pub form : List ℕ
  pub line : ℕ
  pub step : ℕ

abbrev pub is_region : List ℕ → Bool
is_region operation = bytes_eq operation (codes "REGION")

-- what each name in an operand is, but for its place; and the task of the statement
abbrev pub operand_role : StatementValue → NameKind → Occurrence
operand_role s kind = record { kind = kind; span = record { start = 0; end = 0 }; line = s.line; step = s.step; is_set = sets s.operation s.form kind; is_step = false }

abbrev pub task_role : StatementValue → Occurrence
task_role s = record { kind = kind.Task; span = record { start = 0; end = 0 }; line = s.line; step = s.step; is_set = is_region s.operation; is_step = is_region s.operation }

-- the name that a piece is, if it is one
abbrev pub name_in : Occurrence → PieceValue → List Occurrence
name_in role p = if is_name p.bytes then record role { span = record { start = p.at; end = p.at + length p.bytes } } ∷ [] else []

-- The names in a value are what is between bytes that no name has. A quote counts as one of a name, so that X'..' is none.
abbrev pub ends_name : ℕ → Bool
ends_name b = not (is_name_byte b || (b == 39))

abbrev pub value_names : Occurrence → PieceValue → List Occurrence
value_names role value = flat_map (name_in role) (placed value.at (slice_split ends_name value.bytes))

-- the key and the value of an operand
abbrev pub key_in : List ℕ → List ℕ
key_in operand = if has_key operand then key_of operand else []

abbrev pub value_in : PieceValue → PieceValue
value_in p = if has_key p.bytes then record { at = p.at + length (key_of p.bytes) + 1; bytes = text_of p.bytes } else p

abbrev pub names_by : Option NameKind → StatementValue → PieceValue → List Occurrence
names_by None s value = []
names_by (Some kind) s value = value_names (operand_role s kind) value

abbrev pub operand_names : StatementValue → PieceValue → List Occurrence
operand_names s p = names_by (kind_of s.operation (key_in p.bytes)) s (value_in p)

abbrev pub statement_in : ℕ → ℕ → PieceValue → StatementValue
statement_in n step line = record { operation = operation_word line; form = form_word (field_of line); line = n; step = step }

abbrev pub statement_names : StatementValue → PieceValue → List Occurrence
statement_names s line = name_in (task_role s) (record { at = line.at; bytes = first_word line }) ++ flat_map (operand_names s) (operands_at (field_of line))

abbrev pub line_names : ℕ → ℕ → PieceValue → List Occurrence
line_names n step line = if begins_statement line.bytes then statement_names (statement_in n step line) line else []

-- ---- the names of a text

-- the number of the steps that begin up to a line
abbrev pub step_after : ℕ → PieceValue → ℕ
step_after step line = if begins_statement line.bytes && is_region (operation_word line) then step + 1 else step

-- the names of lines, the first of which has a number, after a number of steps
abbrev pub names_from : ℕ → ℕ → List PieceValue → List Occurrence
names_from n step [] = []
names_from n step (line ∷ lines) = line_names n (step_after step line) line ++ names_from (n + 1) (step_after step line) lines

-- the names of a text, in the order of their places
abbrev pub names_of : List ℕ → List Occurrence
names_of text = names_from 0 0 (placed 0 (lines_of text))
