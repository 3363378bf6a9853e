-- Diagnostics of areas that were never released, and of pools that were never deleted: of the lines of the reports about one of them.
use Rattle.std.specs.Prelude.{ℕ, ◌-◌, ◌==◌, nat_eq, nat_le, if◌then◌else◌, List, [], ◌∷◌, ◌++◌, codes, drop, flat_map, length, reverse, take, Option, Some, None}
use Rattle.std.specs.List.{before_first, ends_with, starts_with}
use Rattle.mvs_model.specs.Lines.{lines_of}
use Rattle.expected_answers.specs.Reports.{shown}
use Rattle.language_server.specs.Documents.{DocumentValue}
use Rattle.language_server.specs.Explanations.{starred}
use Rattle.language_server.specs.NoteValues.{NoteValue, line_span, named_span}
use Rattle.language_server.specs.Spans.{line_bytes}
use Rattle.language_server.specs.Words.{ends_digits, number_in, run_length}
use Rattle.language_server.specs.declared.notes.Severity.TheVariants as level

-- a line of a report: what it is about, the number of the lines before the one that obtained or built that, and the text
pub record LeakValue : Type 0 where
  pub area : List ℕ
  pub line : ℕ
  pub text : List ℕ

-- the number of the digits with which a text ends
abbrev pub digits_after : List ℕ → ℕ
digits_after text = run_length ends_digits (reverse text)

abbrev pub short_number : List ℕ → Option ℕ
short_number digits = if nat_le (length digits) 10 then number_in digits else None

abbrev pub number_after_line : List ℕ → ℕ → Option ℕ
number_after_line text n = if ends_with nat_eq (take n text) (codes " in line ") then short_number (drop n text) else None

-- the number of the line that a text names at its end, before a point
abbrev pub line_number : List ℕ → Option ℕ
line_number text =
    if ends_with nat_eq text (codes ".") then number_after_line (take (length text - 1) text) (length text - 1 - digits_after (take (length text - 1) text)) else None

abbrev pub leak_with : List ℕ → Option ℕ → Option LeakValue
leak_with text None = None
leak_with text (Some number) = Some (record { area = before_first (λ b. b == 58) text; line = number - 1; text = text })

abbrev pub leak_by : Option (List ℕ) → Option LeakValue
leak_by None = None
leak_by (Some text) = leak_with text (line_number text)

-- what a printed line reports, if it is about one area or pool
abbrev pub leak_in : List ℕ → Option LeakValue
leak_in line = leak_by (starred line)

abbrev pub leak_kind : List ℕ → List ℕ
leak_kind area = if starts_with nat_eq area (codes "Pool ") then codes "Never deleted" else codes "Never released"

abbrev pub leak_note : DocumentValue → LeakValue → NoteValue
leak_note d l = record {
  span = line_span d.text l.line (named_span (line_bytes d.text l.line) l.area);
  severity = level.Warning;
  code = codes "leak";
  message = leak_kind l.area ++ (codes ": " ++ shown l.text);
}

abbrev pub leak_note_by : DocumentValue → Option LeakValue → List NoteValue
leak_note_by d None = []
leak_note_by d (Some l) = leak_note d l ∷ []

-- one for each of these lines of the reports, in their order
abbrev pub leak_notes : DocumentValue → List NoteValue
leak_notes d = flat_map (λ line. leak_note_by d (leak_in line)) (lines_of d.leaks)
