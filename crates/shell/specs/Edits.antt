-- What dot commands do to the lines of the job.
use Rattle.std.specs.Prelude.{ℕ, ◌==◌, ◌&&◌, Bool, true, false, if◌then◌else◌, bytes_eq, codes, not, nat_le, List, [], ◌∷◌, drop, length, slice_get, unwrap_or}
use Rattle.mvs_model.specs.Reading.{is_empty, is_number, number, words}
use Rattle.shell.specs.declared.edit.ScriptEdit.{ScriptEdit}
use Rattle.shell.specs.declared.edit.ScriptEdit.TheVariants.{Open, Quit, Reset, Stays, Undo}

-- whether a line is a command, and no statement
abbrev pub is_command : List ℕ → Bool
is_command [] = false
is_command (b ∷ line) = b == 46

-- the first of some words; empty if there is none
abbrev pub first_word : List (List ℕ) → List ℕ
first_word words = unwrap_or (slice_get words 0) []

-- what `.undo` with an argument does
abbrev pub undo_of : List ℕ → ScriptEdit
undo_of argument = if is_empty argument then Undo 1 else if nat_le (length argument) 9 && is_number argument then Undo (number argument) else Stays

-- what a command with an argument does
abbrev pub edit_with : List ℕ → List ℕ → ScriptEdit
edit_with word argument =
    if bytes_eq word (codes ".undo") then undo_of argument
    else if bytes_eq word (codes ".reset") && is_empty argument then Reset
    else if bytes_eq word (codes ".open") && not (is_empty argument) then Open
    else if bytes_eq word (codes ".quit") && is_empty argument then Quit
    else Stays

-- what a line that begins with a dot does
abbrev pub edit_of : List ℕ → ScriptEdit
edit_of line = if is_empty (first_word (drop 1 (drop 1 (words line)))) then edit_with (first_word (words line)) (first_word (drop 1 (words line))) else Stays
