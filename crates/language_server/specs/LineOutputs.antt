-- What a run printed for each line of a script.
use Rattle.std.specs.Prelude.{ℕ, ◌+◌, ◌==◌, ◌&&◌, nat_le, Bool, true, false, if◌then◌else◌, List, [], ◌∷◌, ◌++◌, length, codes, Option, Some, None, is_some, option_map}
use Rattle.std.specs.List.{before_first}
use Rattle.expected_answers.specs.ExpectedAnswers.{joined, numbered, without_task}

-- what a run printed for a line: the texts of its lines, joined, and the other lines
pub record LineOutputValue : Type 0 where
  pub answer : List ℕ
  pub others : List ℕ

-- whether a printed line begins with a digit, as those of statements do
abbrev pub begins_with_digit : List ℕ → Bool
begins_with_digit [] = false
begins_with_digit (b ∷ bytes) = nat_le 48 b && nat_le b 57

-- whether the first printed line belongs to the line of the script with a number: it has the number, or begins with none
abbrev pub is_own_line : ℕ → List ℕ → Bool
is_own_line number bytes = if begins_with_digit bytes then is_some (numbered number bytes) else true

abbrev pub is_own : ℕ → List (List ℕ) → Bool
is_own number [] = false
is_own number (l ∷ lines) = is_own_line number l

-- the first printed lines that belong to the line, and those after them
abbrev pub own : ℕ → List (List ℕ) → List (List ℕ)
own number [] = []
own number (l ∷ lines) = if is_own_line number l then l ∷ own number lines else []

abbrev pub after_own : ℕ → List (List ℕ) → List (List ℕ)
after_own number [] = []
after_own number (l ∷ lines) = if is_own_line number l then after_own number lines else l ∷ lines

-- the text of a printed line that has the number, without the number and the task
abbrev pub own_text : ℕ → List ℕ → List ℕ → Option (List ℕ)
own_text number task bytes = option_map (without_task task) (numbered number bytes)

-- the texts of printed lines, and those lines that have none
abbrev pub onto_text : Option (List ℕ) → List (List ℕ) → List (List ℕ)
onto_text None texts = texts
onto_text (Some t) texts = t ∷ texts

abbrev pub texts_of : ℕ → List ℕ → List (List ℕ) → List (List ℕ)
texts_of number task [] = []
texts_of number task (l ∷ lines) = onto_text (own_text number task l) (texts_of number task lines)

abbrev pub onto_other : Option (List ℕ) → List ℕ → List ℕ → List ℕ
onto_other None bytes others = bytes ++ 10 ∷ others
onto_other (Some t) bytes others = others

abbrev pub others_of : ℕ → List ℕ → List (List ℕ) → List ℕ
others_of number task [] = []
others_of number task (l ∷ lines) = onto_other (own_text number task l) l (others_of number task lines)

-- what a run printed for the line with this number and this task: its texts with ` / ` between them, and the other lines
abbrev pub output_of : ℕ → List ℕ → List (List ℕ) → LineOutputValue
output_of number task printed = record { answer = joined [] (texts_of number task (own number printed)); others = others_of number task (own number printed) }

-- the task of a line
abbrev pub task_of : List ℕ → List ℕ
task_of bytes = before_first (λ b. b == 32) bytes

-- what it printed for some lines, the first of which has a number
abbrev pub line_outputs : ℕ → List (List ℕ) → List (List ℕ) → List LineOutputValue
line_outputs number [] printed = []
line_outputs number (l ∷ lines) printed = output_of number (task_of l) printed ∷ line_outputs (number + 1) lines (after_own number printed)

-- ---- what calls do

-- an answer with one text more, if there is one
abbrev pub with_text : Option (List ℕ) → List ℕ → List ℕ
with_text None answer = answer
with_text (Some t) answer = if length answer == 0 then t else answer ++ (codes " / " ++ t)

-- the other lines with one more, unless it has a text
abbrev pub with_other : Option (List ℕ) → List ℕ → List ℕ → List ℕ
with_other None others bytes = others ++ bytes ++ 10 ∷ []
with_other (Some t) others bytes = others
