-- A diagnostic, and what it is about.
use Rattle.std.specs.Prelude.{ℕ, ◌==◌, ◌&&◌, not, nat_le, Bool, if◌then◌else◌, List, find, length, Option, Some, None, bytes_eq}
use Rattle.language_server.specs.Names.{line_names}
use Rattle.language_server.specs.References.{kind_number}
use Rattle.language_server.specs.Spans.{bytes_of, line_start, shifted, within}
use Rattle.language_server.specs.Words.{line_piece, parts_of}
use Rattle.language_server.specs.declared.names.Occurrence.{Occurrence}
use Rattle.language_server.specs.declared.notes.Severity.{Severity}
use Rattle.language_server.specs.declared.parts.Parts.{Parts}
use Rattle.language_server.specs.declared.span.Span.{Span}

-- a diagnostic: the bytes that it is about, how serious it is, its code, and what it says
pub record NoteValue : Type 0 where
  pub span : Span
  pub severity : Severity
  pub code : List ℕ
  pub message : List ℕ

-- ---- what a diagnostic is about

-- a span of a line, in the text
abbrev pub line_span : List ℕ → ℕ → Span → Span
line_span text n s = within text (shifted (line_start text n) s)

abbrev pub whole_span : List ℕ → Span
whole_span line = record { start = 0; end = length line }

abbrev pub field_end : Parts → ℕ
field_end p = if nat_le p.field.end p.field.start then p.operation.end else p.field.end

-- the operation and the operands of a line; all of it, if it has no statement
abbrev pub statement_by : List ℕ → Option Parts → Span
statement_by line None = whole_span line
statement_by line (Some p) = record { start = p.operation.start; end = field_end p }

abbrev pub statement_span : List ℕ → Span
statement_span line = statement_by line (parts_of line)

-- whether a name is one of an operand, with some bytes
abbrev pub is_operand_name : List ℕ → List ℕ → Occurrence → Bool
is_operand_name line word name = not (kind_number name.kind == 1) && bytes_eq (bytes_of line name.span) word

-- where a name first is in the operands of a line; if it is not there, where the statement is
abbrev pub named_by : List ℕ → Option Occurrence → Span
named_by line None = statement_span line
named_by line (Some name) = name.span

abbrev pub named_span : List ℕ → List ℕ → Span
named_span line word = named_by line (find (is_operand_name line word) (line_names 0 0 (line_piece line)))
