-- Actions: changes of the text that an editor offers.
use Rattle.std.specs.Prelude.{ℕ, ◌+◌, ◌==◌, ◌&&◌, not, nat_le, Bool, false, if◌then◌else◌, List, [], ◌∷◌, ◌++◌, length, codes, Option, Some, None, bytes_eq}
use Rattle.std.specs.List.{All}
use Rattle.expected_answers.specs.Blank.{arrow, place_of, up_to}
use Rattle.expected_answers.specs.ExpectedAnswers.{answers_in}
use Rattle.expected_answers.specs.Reports.{shown}
use Rattle.language_server.specs.declared.span.Span.{Span}
use Rattle.language_server.specs.LineOutputs.{LineOutputValue}
use Rattle.language_server.specs.Spans.{IsIn, line_at, line_bytes, line_end, line_start, within}

-- an action: its title, which bytes it replaces with what, and whether it mends what a diagnostic reports
pub record ActionValue : Type 0 where
  pub title : List ℕ
  pub span : Span
  pub text : List ℕ
  pub is_fix : Bool

-- ---- the answer of a line, as it is written after the statement

abbrev pub is_answer : Option (List ℕ) → List ℕ → Bool
is_answer None answer = false
is_answer (Some written) answer = bytes_eq written answer

-- whether a line has an answer, which is not after its arrow
abbrev pub is_unwritten : List ℕ → List ℕ → Bool
is_unwritten line answer = not (length answer == 0) && not (is_answer (answers_in line) answer)

-- an arrow and the answer
abbrev pub written_text : List ℕ → List ℕ
written_text answer = codes " => " ++ shown answer

-- the number of the bytes of a line before its arrow
abbrev pub statement_length : List ℕ → ℕ
statement_length line = length (up_to (place_of arrow line) line)

-- the action that writes the answer of a line: it replaces what follows the statement
abbrev pub writing : List ℕ → ℕ → List ℕ → ActionValue
writing text n answer = record {
  title = codes "Write" ++ written_text answer;
  span = within text (record { start = line_start text n + statement_length (line_bytes text n); end = line_end text n });
  text = written_text answer;
  is_fix = false;
}

abbrev pub writings_in : Bool → List ℕ → ℕ → List ℕ → List ActionValue
writings_in is_asked text n answer = if is_asked && is_unwritten (line_bytes text n) answer then writing text n answer ∷ [] else []

-- those of the lines from the first to the last, for outputs of which the first is that of a line with a number
abbrev pub writings_from : List ℕ → ℕ → ℕ → ℕ → List LineOutputValue → List ActionValue
writings_from text n first last [] = []
writings_from text n first last (o ∷ outputs) = writings_in (nat_le first n && nat_le n last) text n o.answer ++ writings_from text (n + 1) first last outputs

-- those of the lines of some bytes
abbrev pub writings_of : List ℕ → Span → List LineOutputValue → List ActionValue
writings_of text s outputs = writings_from text 0 (line_at text s.start) (line_at text s.end) outputs

-- ---- laws

-- The answers are written in the text.
abbrev pub WritingsAreInTexts : Type 0
WritingsAreInTexts = (text : List ℕ) (s : Span) (outputs : List LineOutputValue) → All (λ action. IsIn text action.span) (writings_of text s outputs)
