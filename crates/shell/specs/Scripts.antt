-- The lines of a job.
use Rattle.std.specs.Prelude.{◌≡◌, ℕ, ◌+◌, ◌≤◌, ◌<◌, Bool, List, length}
use Rattle.std.specs.List.{AllByRecursion, list_all}
use Rattle.mvs_model.specs.Lines.{IsUnended, ended_text}
use Rattle.mvs_model.specs.Numbers.{most_script_bytes}
use Rattle.mvs_model.specs.Reading.{is_blank_or_comment}

-- whether there is no statement among some lines
abbrev pub are_blank : List (List ℕ) → Bool
are_blank lines = list_all is_blank_or_comment lines

-- The lines and one more are not too long for a script.
abbrev pub HasRoom : List (List ℕ) → List ℕ → Type 0
HasRoom lines line = length (ended_text lines) + length line < most_script_bytes

-- Each line is without its end; with their ends they have this number of bytes, and are not too long for a script.
abbrev pub IsScript : List (List ℕ) → ℕ → Type 0
IsScript lines bytes = AllByRecursion IsUnended lines × (bytes ≡ length (ended_text lines)) × (bytes ≤ most_script_bytes)
