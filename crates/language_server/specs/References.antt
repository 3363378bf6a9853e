-- Where a name is used, and where it is set.
use Rattle.std.specs.Prelude.{ℕ, ◌==◌, ◌&&◌, ◌||◌, not, nat_le, Bool, List, [], filter, find, map, reverse, length, Option, Some, None, option_map, bytes_eq}
use Rattle.language_server.specs.declared.names.NameKind.{NameKind}
use Rattle.language_server.specs.declared.names.NameKind.TheVariants as kind
use Rattle.language_server.specs.declared.names.Occurrence.{Occurrence}
use Rattle.language_server.specs.declared.span.Span.{Span}
use Rattle.language_server.specs.Names.{names_of}
use Rattle.language_server.specs.Spans.{AreReferences, bytes_of, touches}

abbrev pub kind_number : NameKind → ℕ
kind_number kind.Area = 0
kind_number kind.Task = 1
kind_number kind.Pool = 2

-- whether a span has bytes of a text
abbrev pub is_in : List ℕ → Span → Bool
is_in text s = nat_le s.start s.end && nat_le s.end (length text)

-- whether a name is another one: of the same kind, in the same step, with the same bytes
abbrev pub is_same : List ℕ → Occurrence → Occurrence → Bool
is_same text name other =
    is_in text other.span && ((kind_number name.kind == kind_number other.kind) && ((name.step == other.step) && bytes_eq (bytes_of text name.span) (bytes_of text other.span)))

-- the name that is at a place, or right before it
abbrev pub name_at : ℕ → List Occurrence → Option Occurrence
name_at place names = find (λ name. touches name.span place) names

-- ---- references

-- whether a name is used at another one. Without `declares` a place that sets it is none
abbrev pub is_use : List ℕ → Bool → Occurrence → Occurrence → Bool
is_use text declares name other = is_same text name other && (declares || not other.is_set)

abbrev pub uses_of : List ℕ → Bool → List Occurrence → Option Occurrence → List Span
uses_of text declares names None = []
uses_of text declares names (Some name) = map (λ other. other.span) (filter (is_use text declares name) names)

-- all places where the name at a place is used in its step, in their order
abbrev pub references_of : List ℕ → ℕ → Bool → List Span
references_of text place declares = uses_of text declares (names_of text) (name_at place (names_of text))

-- ---- definitions

-- whether a place sets a name, and whether it does so in the line of the name or before it
abbrev pub is_setting : List ℕ → Occurrence → Occurrence → Bool
is_setting text name other = other.is_set && is_same text name other

abbrev pub is_earlier_setting : List ℕ → Occurrence → Occurrence → Bool
is_earlier_setting text name other = nat_le other.line name.line && is_setting text name other

abbrev pub or_else : Option Occurrence → Option Occurrence → Option Occurrence
or_else None other = other
or_else (Some found) other = Some found

-- where a name is set: the last place up to its line, or else the first one
abbrev pub setting_of : List ℕ → List Occurrence → Option Occurrence → Option Occurrence
setting_of text names None = None
setting_of text names (Some name) = or_else (find (is_earlier_setting text name) (reverse names)) (find (is_setting text name) names)

abbrev pub definition_of : List ℕ → ℕ → Option Span
definition_of text place = option_map (λ found. found.span) (setting_of text (names_of text) (name_at place (names_of text)))

-- ---- a law

-- References are bytes of the text, and those of the name.
abbrev pub ReferencesAreSame : Type 0
ReferencesAreSame = (text : List ℕ) (place : ℕ) (declares : Bool) → AreReferences text place (references_of text place declares)
