-- Positions of the Language Server Protocol: a line, and a number of UTF-16 code units in it. The text is UTF-8.
use Rattle.std.specs.Prelude.{◌≡◌, ◌⊎◌, ◌<◌, ◌≤◌, ℕ, zero, suc, ◌+◌, ◌==◌, ◌&&◌, ◌||◌, not, nat_lt, Bool, true, false, if◌then◌else◌, List, [], ◌∷◌, length, drop}
use Rattle.editor_messages.specs.declared.query.Position.{Position}

-- the UTF-16 code units of the character that a byte begins; none, if the byte continues one
abbrev pub units_of : ℕ → ℕ
units_of b = if nat_lt b 128 then 1 else if nat_lt b 192 then 0 else if nat_lt b 240 then 1 else 2

-- whether a text begins with a line feed
abbrev pub begins_with_feed : List ℕ → Bool
begins_with_feed [] = false
begins_with_feed (b ∷ text) = b == 10

-- whether a line ends with a byte that is before a text: a line feed does that, and a carriage return without one
abbrev pub ends_line : ℕ → List ℕ → Bool
ends_line b text = (b == 10) || ((b == 13) && not (begins_with_feed text))

-- the position after a byte, which ends a line or not
abbrev pub after_byte : Bool → Position → ℕ → Position
after_byte ends p b = if ends then record { line = p.line + 1; character = 0 } else record { line = p.line; character = p.character + units_of b }

-- the position after a number of bytes of a text that begins at a position
abbrev pub position_from : Position → ℕ → List ℕ → Position
position_from p zero text = p
position_from p (suc n) [] = p
position_from p (suc n) (b ∷ text) = position_from (after_byte (ends_line b text) p b) n text

-- the position of a byte of a document
abbrev pub position_of : List ℕ → ℕ → Position
position_of text at = position_from (record { line = 0; character = 0 }) at text

-- whether a text begins with a character, or is empty
abbrev pub begins_character : List ℕ → Bool
begins_character [] = true
begins_character (b ∷ text) = nat_lt b 128 || not (nat_lt b 192)

-- A place is the first byte of a character, or an end of the text.
abbrev pub IsBoundary : List ℕ → ℕ → Type 0
IsBoundary text at = (at ≤ length text) × ((at ≡ 0) ⊎ (begins_character (drop at text) ≡ true))

-- A position is the other one, or before it.
abbrev pub IsNotAfter : Position → Position → Type 0
IsNotAfter p q = (p.line < q.line) ⊎ ((p.line ≡ q.line) × (p.character ≤ q.character))

-- The place of a position: the last one, between characters, whose own position is not after it. So a position in a line after its
-- end is the end of the line, and one in a line after the last is the end of the text.
pub record IsPlaceOf (text : List ℕ) (p : Position) (at : ℕ) : Type 0 where
  pub boundary : IsBoundary text at
  pub before : IsNotAfter (position_of text at) p
  pub last : (other : ℕ) → IsBoundary text other → IsNotAfter (position_of text other) p → other ≤ at

-- ---- a law

-- The position of a place where a character begins, or the text ends, means this place.
abbrev pub PositionsHavePlaces : Type 0
PositionsHavePlaces = (text : List ℕ) (at : ℕ) → at ≤ length text → begins_character (drop at text) ≡ true → IsPlaceOf text (position_of text at) at
