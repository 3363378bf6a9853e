-- A line that is typed, without what keys of the terminal put into it.
use Rattle.std.specs.Prelude.{ℕ, ◌==◌, ◌&&◌, ◌||◌, Bool, true, false, if◌then◌else◌, nat_le, nat_lt, List, [], ◌∷◌, Option, Some, None}
use Rattle.shell.specs.declared.cleaning.CleaningState.{CleaningState}
use Rattle.shell.specs.declared.cleaning.CleaningState.TheVariants.{Escaped, Sequence, Text}

-- the place after a byte: X'1B' begins the sequence of a key; with `[` or `O` after it, it ends at a byte from `@` to `~`
abbrev pub place_after : CleaningState → ℕ → CleaningState
place_after Text b = if b == 27 then Escaped else Text
place_after Escaped b = if (b == 91) || (b == 79) then Sequence else Text
place_after Sequence b = if nat_le 64 b && nat_le b 126 then Text else Sequence

-- what a byte leaves: a tab is a blank, and any other control byte is nothing
abbrev pub left_of : CleaningState → ℕ → Option ℕ
left_of Text b = if b == 9 then Some 32 else if nat_lt b 32 || (b == 127) then None else Some b
left_of Escaped b = None
left_of Sequence b = None

-- a byte before others, if there is one
abbrev pub before : Option ℕ → List ℕ → List ℕ
before None rest = rest
before (Some b) rest = b ∷ rest

-- what is left of a line from a place on
abbrev pub cleaned : CleaningState → List ℕ → List ℕ
cleaned place [] = []
cleaned place (b ∷ line) = before (left_of place b) (cleaned (place_after place b) line)
