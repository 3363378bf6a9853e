-- The answers that a script expects, each with what a run printed there.
use Rattle.std.specs.Prelude.{ℕ, ◌+◌, ◌==◌, ◌&&◌, ◌||◌, nat_eq, nat_lt, Bool, true, false, if◌then◌else◌, List, [], ◌∷◌, ◌++◌, reverse, take, drop, length, map, position, codes, decimal, Option, Some, None, is_some, option_map, unwrap_or}
use Rattle.std.specs.List.{before_first, count_by}
use Rattle.std.specs.Cmp.Lexicographic.{pointwise}
use Rattle.mvs_model.specs.Lines.{ended_text, lines_of}
use Rattle.expected_answers.specs.declared.expected.AnswerVerdict.{AnswerVerdict}
use Rattle.expected_answers.specs.declared.expected.AnswerVerdict.TheVariants.{Right, Wrong, Open, Empty}
use Rattle.expected_answers.specs.Blank.{arrow, place_of, up_to}

-- ---- a line of a script

-- a text without the blanks before it
abbrev pub after_blanks : List ℕ → List ℕ
after_blanks [] = []
after_blanks (b ∷ bs) = if b == 32 then after_blanks bs else b ∷ bs

-- and without those after it
abbrev pub trimmed : List ℕ → List ℕ
trimmed text = reverse (after_blanks (reverse (after_blanks text)))

-- what is after the first of these separators, if there is one
abbrev pub after_place : List ℕ → List ℕ → Option (List ℕ)
after_place separator text = option_map (λ n. drop (n + length separator) text) (place_of separator text)

-- the answers of a line, if it has an arrow
abbrev pub answers_in : List ℕ → Option (List ℕ)
answers_in line = option_map trimmed (after_place arrow line)

-- the statement of a line. A line with a byte that no script may have is whole, and so has that fault in a run
abbrev pub statement_of : List ℕ → List ℕ
statement_of line = if is_some (position (λ b. nat_lt b 32 || nat_lt 126 b) line) then line else up_to (place_of arrow line) line

-- the script that is run: the statements. A last line that has no end is not given one
abbrev pub statements : List ℕ → List ℕ
statements script = take (length script) (ended_text (map statement_of (lines_of script)))

-- ---- the lines that a run prints for a statement

-- what is after a prefix of a text, if the text begins with it
abbrev pub after_prefix : List ℕ → List ℕ → Option (List ℕ)
after_prefix prefix text = if pointwise nat_eq (take (length prefix) text) prefix then Some (drop (length prefix) text) else None

-- the text of a printed line after its number
abbrev pub numbered : ℕ → List ℕ → Option (List ℕ)
numbered number line = after_prefix (decimal number ++ codes " ") line

-- whether a printed line is the end of a step
abbrev pub ends_step : List ℕ → Bool
ends_step line = is_some (after_prefix (codes "STEP ENDED ") line)

-- whether the first of some printed lines has this number
abbrev pub begins_with : ℕ → List (List ℕ) → Bool
begins_with number [] = false
begins_with number (l ∷ lines) = is_some (numbered number l)

-- whether the first of some printed lines is of the statement with this number: it has the number, or it ends the step before the
-- REGION statement with the number
abbrev pub is_own : ℕ → List (List ℕ) → Bool
is_own number [] = false
is_own number (l ∷ lines) = is_some (numbered number l) || (ends_step l && begins_with number lines)

-- the first printed lines that belong to the statement with this number, and the lines after them
abbrev pub own : ℕ → List (List ℕ) → List (List ℕ)
own number [] = []
own number (l ∷ lines) = if is_own number (l ∷ lines) then l ∷ own number lines else []

abbrev pub after_own : ℕ → List (List ℕ) → List (List ℕ)
after_own number [] = []
after_own number (l ∷ lines) = if is_own number (l ∷ lines) then after_own number lines else l ∷ lines

-- what is after a blank, with which a text may begin
abbrev pub after_blank : Option (List ℕ) → Option (List ℕ)
after_blank None = None
after_blank (Some text) = after_prefix (codes " ") text

-- a text without the task of the statement and a blank, if it begins with these
abbrev pub without_task : List ℕ → List ℕ → List ℕ
without_task task text = unwrap_or (after_blank (after_prefix task text)) text

-- the text of a printed line: without its number, and without the task of the statement
abbrev pub text_of : ℕ → List ℕ → List ℕ → List ℕ
text_of number task line = unwrap_or (option_map (without_task task) (numbered number line)) line

-- some texts after another, with ` / ` between them
abbrev pub joined : List ℕ → List (List ℕ) → List ℕ
joined text [] = text
joined text (t ∷ texts) = joined (if length text == 0 then t else text ++ (codes " / " ++ t)) texts

-- the text, or the word for none
abbrev pub or_nothing : List ℕ → List ℕ
or_nothing text = if length text == 0 then codes "nothing" else text

-- what a run printed for the statement with this number and this task
abbrev pub own_texts : ℕ → List ℕ → List (List ℕ) → List (List ℕ)
own_texts number task printed = map (text_of number task) (own number printed)

abbrev pub got_of : ℕ → List ℕ → List (List ℕ) → List ℕ
got_of number task printed = or_nothing (joined [] (own_texts number task printed))

-- the last line, or this one if there is none
abbrev pub last_or : List ℕ → List (List ℕ) → List ℕ
last_or last [] = last
last_or last (l ∷ lines) = last_or l lines

-- ---- the answers of a script

-- an answer that a script expects in a line, and what a run printed there
pub record ExpectedAnswer : Type 0 where
  pub number : ℕ
  pub expected : List ℕ
  pub got : List ℕ

-- whether a comment has the last line of a run
abbrev pub is_end : List ℕ → Bool
is_end text = ends_step text || is_some (after_prefix (codes "JOB FAULT ") text)

-- the last line that a script expects of its run, if this line is such a comment
abbrev pub end_of : Option (List ℕ) → Option (List ℕ)
end_of None = None
end_of (Some text) = if is_end text then Some text else None

abbrev pub end_in : List ℕ → Option (List ℕ)
end_in line = end_of (after_prefix (codes "* ") line)

-- what the last line of a script asks for, if it is such a comment, by what was printed after its answers
abbrev pub expected_at_end : ℕ → Option (List ℕ) → List (List ℕ) → Option ExpectedAnswer
expected_at_end number end printed = option_map (λ text. record { number = number; expected = text; got = last_or (codes "nothing") printed }) end

-- what a line without an arrow asks for, by the lines after it
abbrev pub expected_without : ℕ → List ℕ → List (List ℕ) → List (List ℕ) → Option ExpectedAnswer
expected_without number line [] printed = expected_at_end number (end_in line) (after_own number printed)
expected_without number line (l ∷ lines) printed = None

-- the task of a statement
abbrev pub task_of : List ℕ → List ℕ
task_of line = before_first (λ b. b == 32) (up_to (place_of arrow line) line)

-- what a line asks for, which may have an arrow: the answers after it
abbrev pub expected_by : ℕ → List ℕ → Option (List ℕ) → List (List ℕ) → List (List ℕ) → Option ExpectedAnswer
expected_by number line None lines printed = expected_without number line lines printed
expected_by number line (Some answers) lines printed = Some (record { number = number; expected = answers; got = got_of number (task_of line) printed })

abbrev pub expected_in : ℕ → List ℕ → List (List ℕ) → List (List ℕ) → Option ExpectedAnswer
expected_in number line lines printed = expected_by number line (answers_in line) lines printed

abbrev pub onto : Option ExpectedAnswer → List ExpectedAnswer → List ExpectedAnswer
onto None expected_answers = expected_answers
onto (Some a) expected_answers = a ∷ expected_answers

-- what some lines of a script ask for, the first of which has a number, by what a run printed from there on
abbrev pub expected_answers : ℕ → List (List ℕ) → List (List ℕ) → List ExpectedAnswer
expected_answers number [] printed = []
expected_answers number (l ∷ lines) printed = onto (expected_in number l lines printed) (expected_answers (number + 1) lines (after_own number printed))

-- what a script asks for, by what a run of its statements printed
abbrev pub expected_of : List ℕ → List ℕ → List ExpectedAnswer
expected_of script printed = expected_answers 1 (lines_of script) (lines_of printed)

-- ---- verdicts

-- An answer is empty if nothing is after the arrow, open if that is a `?`, right if it is what was printed, and otherwise wrong.
abbrev pub verdict_of : ExpectedAnswer → AnswerVerdict
verdict_of a =
    if length a.expected == 0 then Empty else if pointwise nat_eq a.expected (codes "?") then Open else if pointwise nat_eq a.expected a.got then Right else Wrong

abbrev pub is_right : AnswerVerdict → Bool
is_right Right = true
is_right Wrong = false
is_right Open = false
is_right Empty = false

abbrev pub is_wrong : AnswerVerdict → Bool
is_wrong Wrong = true
is_wrong Right = false
is_wrong Open = false
is_wrong Empty = false

-- whether an answer is missing
abbrev pub is_missing : AnswerVerdict → Bool
is_missing Open = true
is_missing Empty = true
is_missing Right = false
is_missing Wrong = false

-- the number of answers with such a verdict
abbrev pub number_of : (AnswerVerdict → Bool) → List ExpectedAnswer → ℕ
number_of is answers = count_by (λ a. is (verdict_of a)) answers
