-- Answers about a document.
use Rattle.std.specs.Prelude.{◌≡◌, ◌++◌, Bool, List, ℕ, Option}
use Rattle.language_server.specs.Actions.{ActionValue, writings_of}
use Rattle.language_server.specs.Documents.{DocumentValue}
use Rattle.language_server.specs.Fixes.{fixes_of}
use Rattle.language_server.specs.NoteValues.{NoteValue}
use Rattle.language_server.specs.Notes.{AreNotes}
use Rattle.language_server.specs.References.{definition_of, references_of}
use Rattle.language_server.specs.Spans.{line_at}
use Rattle.language_server.specs.Symbols.{SymbolValue, symbols_of}
use Rattle.language_server.specs.declared.span.Span.{Span}

-- The symbols are those of the text.
abbrev pub AreSymbols : DocumentValue → List SymbolValue → Type 0
AreSymbols d symbols = symbols ≡ symbols_of d.text

-- The actions are those that mend what the diagnostics of the lines of some bytes report, and those that write the answers of these lines.
abbrev pub AreActions : DocumentValue → Span → List ActionValue → Type 0
AreActions d span actions = (notes : List NoteValue) × AreNotes d notes × (actions ≡ fixes_of d (line_at d.text span.start) (line_at d.text span.end) notes ++ writings_of d.text span d.outputs)

-- The span is where the name at a place is set.
abbrev pub IsDefinition : List ℕ → ℕ → Option Span → Type 0
IsDefinition text at found = found ≡ definition_of text at

-- The spans are all places where the name at a place is used.
abbrev pub AreUses : List ℕ → ℕ → Bool → List Span → Type 0
AreUses text at declares spans = spans ≡ references_of text at declares
