-- Places and spans of a text, and its lines.
use Rattle.std.specs.Prelude.{count_by, ◌≡◌, ◌⊎◌, ◌≤◌, ℕ, ◌+◌, ◌-◌, ◌==◌, ◌&&◌, nat_le, Bool, true, false, if◌then◌else◌, List, [], ◌∷◌, length, max, min, Option, Some, None, slice_get, slice_range, unwrap_or}
use Rattle.std.specs.List.{All}
use Rattle.language_server.specs.declared.span.Span.{Span}

-- A span has bytes of the text, or is between two of them, or at its end.
abbrev pub IsIn : List ℕ → Span → Type 0
IsIn text s = (s.start ≤ s.end) × (s.end ≤ length text)

-- the bytes of a span in a text; none, if it has no such bytes
abbrev pub bytes_of : List ℕ → Span → List ℕ
bytes_of text s = if nat_le s.start s.end && nat_le s.end (length text) then slice_range text s.start s.end else []

-- the part of a span that is in a text
abbrev pub within : List ℕ → Span → Span
within text s = record { start = min s.start (length text); end = max (min s.end (length text)) (min s.start (length text)) }

-- a span of a line in the text of the line, by the place of the line
abbrev pub shifted : ℕ → Span → Span
shifted start s = record { start = s.start + start; end = s.end + start }

-- whether a place is in a span, or right after it
abbrev pub touches : Span → ℕ → Bool
touches s place = nat_le s.start place && nat_le place s.end

-- A span has the bytes of another one, which is a name.
abbrev pub IsSameAt : List ℕ → Span → Span → Type 0
IsSameAt text name s = IsIn text s × (bytes_of text s ≡ bytes_of text name)

-- The spans have the bytes of one that is at a place; or there are none.
abbrev pub AreReferences : List ℕ → ℕ → List Span → Type 0
AreReferences text place spans = ((name : Span) × (touches name place ≡ true) × All (IsSameAt text name) spans) ⊎ (spans ≡ [])

-- ---- lines

abbrev pub onto_start : Bool → ℕ → List ℕ → List ℕ
onto_start true place places = place ∷ places
onto_start false place places = places

-- the places after the line feeds of a text, the first byte of which has a place
abbrev pub starts_from : ℕ → List ℕ → List ℕ
starts_from at [] = []
starts_from at (b ∷ text) = onto_start (b == 10) (at + 1) (starts_from (at + 1) text)

-- where the lines of a text begin: at its beginning, and after each line feed
unfoldable pub line_starts : List ℕ → List ℕ
line_starts text = 0 ∷ starts_from 0 text

-- where a line begins; the end of the text, if there is no such line
abbrev pub line_start : List ℕ → ℕ → ℕ
line_start text n = unwrap_or (slice_get (line_starts text) n) (length text)

abbrev pub before_or : Option ℕ → ℕ → ℕ
before_or None end = end
before_or (Some next) end = next - 1

-- where it ends, before its line feed
abbrev pub line_end : List ℕ → ℕ → ℕ
line_end text n = before_or (slice_get (line_starts text) (n + 1)) (length text)

-- the bytes of a line
abbrev pub line_bytes : List ℕ → ℕ → List ℕ
line_bytes text n = bytes_of text (record { start = line_start text n; end = line_end text n })

-- the number of the lines before the one that has a place: of the lines that begin there or before, all but one
abbrev pub line_at : List ℕ → ℕ → ℕ
line_at text place = count_by (λ start. nat_le start place) (line_starts text) - 1

-- ---- a law

-- The lines of a text begin and end in it.
abbrev pub LinesAreInTexts : Type 0
LinesAreInTexts = (text : List ℕ) (n : ℕ) → (line_start text n ≤ length text) × (line_end text n ≤ length text)
