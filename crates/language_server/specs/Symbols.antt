-- Symbols: the steps of a document, and their tasks.
use Rattle.std.specs.Prelude.{ℕ, ◌-◌, ◌==◌, ◌&&◌, nat_lt, Bool, true, false, List, filter, find, map, length, Option, Some, None}
use Rattle.std.specs.List.{All}
use Rattle.language_server.specs.declared.names.Occurrence.{Occurrence}
use Rattle.language_server.specs.declared.span.Span.{Span}
use Rattle.language_server.specs.Names.{names_of}
use Rattle.language_server.specs.References.{kind_number}
use Rattle.language_server.specs.Spans.{IsIn, bytes_of, line_end, line_start, within}

-- a step or a task: its name, where that is, all of its lines, and whether it is a step
pub record SymbolValue : Type 0 where
  pub name : List ℕ
  pub span : Span
  pub whole : Span
  pub is_step : Bool

-- whether a name begins a step or a task
abbrev pub begins_task : Occurrence → Bool
begins_task name = name.is_set && (kind_number name.kind == 1)

-- where a step ends: before the line of the first name of a later step, or at the end of the text
abbrev pub step_end : List ℕ → Option Occurrence → ℕ
step_end text None = length text
step_end text (Some later) = line_start text later.line - 1

abbrev pub later_step : List Occurrence → Occurrence → Option Occurrence
later_step names name = find (λ other. nat_lt name.step other.step) names

-- the lines of a step, and the line of a task
abbrev pub whole_of : Bool → List ℕ → List Occurrence → Occurrence → Span
whole_of true text names name = record { start = line_start text name.line; end = step_end text (later_step names name) }
whole_of false text names name = record { start = line_start text name.line; end = line_end text name.line }

abbrev pub symbol_of : List ℕ → List Occurrence → Occurrence → SymbolValue
symbol_of text names name = record {
  name = bytes_of text name.span;
  span = within text name.span;
  whole = within text (whole_of name.is_step text names name);
  is_step = name.is_step;
}

abbrev pub symbols_from : List ℕ → List Occurrence → List Occurrence → List SymbolValue
symbols_from text all names = map (symbol_of text all) (filter begins_task names)

-- The symbols of a text: one for each name that begins a step or a task, in their order.
abbrev pub symbols_of : List ℕ → List SymbolValue
symbols_of text = symbols_from text (names_of text) (names_of text)

-- ---- a law

-- The name and the lines of each symbol are in the text.
abbrev pub SymbolsAreInTexts : Type 0
SymbolsAreInTexts = (text : List ℕ) → All (λ symbol. IsIn text symbol.span × IsIn text symbol.whole) (symbols_of text)
