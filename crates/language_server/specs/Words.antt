-- Words and numbers in a line, and the parts of its statement.
use Rattle.std.specs.Prelude.{ℕ, ◌+◌, ◌-◌, ◌&&◌, not, nat_eq, nat_le, Bool, if◌then◌else◌, List, [], length, take, drop, reverse, position, min, Option, Some, None, is_some, unwrap_or, codes, bytes_eq}
use Rattle.std.specs.Char.{is_ascii_alphanumeric}
use Rattle.std.specs.List.{ends_with}
use Rattle.mvs_model.specs.Reading.{is_digit, is_number, number}
use Rattle.language_server.specs.Names.{PieceValue, after_word, begins_statement, field_of, first_word, operation_word}
use Rattle.language_server.specs.Spans.{bytes_of}
use Rattle.language_server.specs.declared.parts.Parts.{Parts}
use Rattle.language_server.specs.declared.span.Span.{Span}

-- the number of the bytes before the first that ends a run of bytes
abbrev pub run_length : (ℕ → Bool) → List ℕ → ℕ
run_length ends text = unwrap_or (position ends text) (length text)

-- ---- words

-- whether a byte is no letter and no digit
abbrev pub ends_word : ℕ → Bool
ends_word b = not (is_ascii_alphanumeric b)

-- the letters and digits around a place of a line
abbrev pub word_around : ℕ → List ℕ → Span
word_around n line = record { start = n - run_length ends_word (reverse (take n line)); end = n + run_length ends_word (drop n line) }

abbrev pub word_at : List ℕ → ℕ → Span
word_at line column = word_around (min column (length line)) line

-- ---- the parts of a statement

abbrev pub line_piece : List ℕ → PieceValue
line_piece line = record { at = 0; bytes = line }

-- the word with which a piece begins
abbrev pub word_span : PieceValue → Span
word_span p = record { start = p.at; end = p.at + length (first_word p) }

-- the operands of a statement. RETURN has none: what follows it is a remark
abbrev pub operands_span : List ℕ → Span → Span → Span
operands_span operation before field = if bytes_eq operation (codes "RETURN") then record { start = before.end; end = before.end } else field

abbrev pub parts_in : PieceValue → Parts
parts_in line = record {
  task = word_span line;
  operation = word_span (after_word line);
  field = operands_span (operation_word line) (word_span (after_word line)) (word_span (field_of line));
}

-- the parts of a line, unless it is blank or a comment
abbrev pub parts_of : List ℕ → Option Parts
parts_of line = if begins_statement line then Some (parts_in (line_piece line)) else None

-- ---- numbers

abbrev pub ends_digits : ℕ → Bool
ends_digits b = not (is_digit b)

abbrev pub first_digits : List ℕ → List ℕ
first_digits text = take 3 (take (run_length ends_digits text) text)

abbrev pub number_in : List ℕ → Option ℕ
number_in digits = if is_number digits then Some (number digits) else None

-- the number that the first digits of a text are, at most three of them
abbrev pub leading_number : List ℕ → Option ℕ
leading_number text = number_in (first_digits text)

-- ---- rules and codes in a remark

-- whether a word may be a code, by its length
abbrev pub is_short : List ℕ → Bool
is_short word = nat_le (length word) 8

abbrev pub follows_rule : List ℕ → Span → Bool
follows_rule line word = ends_with nat_eq (take word.start line) (codes "rule ")

-- the number of the rule that a word of a line is, if it follows `rule`
abbrev pub remark_rule : List ℕ → Span → Option ℕ
remark_rule line word = if is_short (bytes_of line word) && follows_rule line word then leading_number (bytes_of line word) else None

-- a word that may be a code; none, if it is the number of a rule
abbrev pub remark_code : List ℕ → Span → List ℕ
remark_code line word = if is_short (bytes_of line word) && not (is_some (remark_rule line word)) then bytes_of line word else []
