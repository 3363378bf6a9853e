-- A script without its answers.
use Rattle.std.specs.Prelude.{◌≡◌, ℕ, ◌+◌, List, [], ◌∷◌, ◌++◌, Option, Some, None, Bool, if◌then◌else◌, codes, is_some, length, take, drop}
use Rattle.memchr.specs.Find.{first_of, matches}
use Rattle.mvs_model.specs.Lines.{lines_of}

-- where a separator first occurs in a text, if it does
abbrev pub place_of : List ℕ → List ℕ → Option ℕ
place_of separator text = first_of (matches text separator 0)

-- The text is parted at its first separator, if it has one: this is before it, and that after it.
abbrev pub IsPartedAt : List ℕ → List ℕ → List ℕ → Option (List ℕ) → Type 0
IsPartedAt separator text before None = (place_of separator text ≡ None) × (before ≡ text)
IsPartedAt separator text before (Some after) = (n : ℕ) × (place_of separator text ≡ Some n) × (before ≡ take n text) × (after ≡ drop (n + length separator) text)

-- the text up to a place, if there is one
abbrev pub up_to : Option ℕ → List ℕ → List ℕ
up_to None text = text
up_to (Some n) text = take n text

-- what begins the answers of a line
abbrev pub arrow : List ℕ
arrow = codes " =>"

-- what comes after a statement: whether it has answers or not
abbrev pub blank_end : Bool → List ℕ
blank_end answered = if answered then codes " => ?" ++ 10 ∷ [] else 10 ∷ []

-- a line with ? instead of its answers, and its newline
abbrev pub blank_line : List ℕ → List ℕ
blank_line line = up_to (place_of arrow line) line ++ blank_end (is_some (place_of arrow line))

-- some lines, each blank
abbrev pub blank_lines : List (List ℕ) → List ℕ
blank_lines [] = []
blank_lines (l ∷ lines) = blank_line l ++ blank_lines lines

-- a script with ? instead of the answers
abbrev pub blank : List ℕ → List ℕ
blank script = blank_lines (lines_of script)
