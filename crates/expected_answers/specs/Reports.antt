-- The report of a comparison. (its form is this project's choice)
use Rattle.std.specs.Prelude.{ℕ, ◌+◌, ◌==◌, ◌&&◌, ◌||◌, nat_le, nat_lt, Bool, false, if◌then◌else◌, List, [], ◌∷◌, ◌++◌, length, map, codes, decimal, Option, Some, None}
use Rattle.std.specs.List.{flat_map}
use Rattle.expected_answers.specs.declared.expected.AnswerVerdict.{AnswerVerdict}
use Rattle.expected_answers.specs.declared.expected.AnswerVerdict.TheVariants.{Right, Wrong, Open, Empty}
use Rattle.expected_answers.specs.declared.report.Counts.{Counts}
use Rattle.expected_answers.specs.declared.report.Format.{Format}
use Rattle.expected_answers.specs.declared.report.Format.TheVariants.{Text, Tap, Junit}
use Rattle.expected_answers.specs.ExpectedAnswers.{ExpectedAnswer, is_missing, is_right, is_wrong, number_of, verdict_of}

-- ---- bytes

-- a byte of a script as a report shows it: a point for one that no script may have
abbrev pub shown_byte : ℕ → ℕ
shown_byte b = if nat_le 32 b && nat_le b 126 then b else 46

abbrev pub shown : List ℕ → List ℕ
shown text = map shown_byte text

-- whether a text begins with a control character of two bytes, U+0080 to U+009F
abbrev pub is_wide : List ℕ → Bool
is_wide (b ∷ (c ∷ bs)) = (b == 194) && (nat_le 128 c && nat_lt c 160)
is_wide _ = false

abbrev pub shown_name_byte : ℕ → ℕ
shown_name_byte b = if nat_lt b 32 || (b == 127) then 46 else b

-- the name of a file as a report shows it: a point for each control character
abbrev pub shown_name : List ℕ → List ℕ
shown_name [] = []
shown_name (b ∷ []) = shown_name_byte b ∷ []
shown_name (b ∷ (c ∷ bs)) = if is_wide (b ∷ (c ∷ bs)) then 46 ∷ shown_name bs else shown_name_byte b ∷ shown_name (c ∷ bs)

-- how a byte is written in XML
abbrev pub escaped_byte : ℕ → List ℕ
escaped_byte b =
    if b == 38 then codes "&amp;" else if b == 60 then codes "&lt;" else if b == 62 then codes "&gt;" else if b == 34 then codes "&quot;" else b ∷ []

abbrev pub escaped : List ℕ → List ℕ
escaped text = flat_map escaped_byte text

-- the name of the script in a report of a format
abbrev pub name_in : Format → List ℕ → List ℕ
name_in Junit name = escaped (shown_name name)
name_in Text name = shown_name name
name_in Tap name = shown_name name

-- ---- what is reported of an answer

-- what a report has for a wrong answer. One that hides has nothing of what the run printed
abbrev pub wrong_message : Bool → ExpectedAnswer → List ℕ
wrong_message hides a = if hides then codes "wrong" else codes "expected " ++ (shown a.expected ++ (codes ", got " ++ shown a.got))

-- what it has for an answer with this verdict: nothing if it is right
abbrev pub message_of : Bool → AnswerVerdict → ExpectedAnswer → Option (List ℕ)
message_of hides Right a = None
message_of hides Wrong a = Some (wrong_message hides a)
message_of hides Open a = Some (codes "not answered")
message_of hides Empty a = Some (codes "nothing after =>")

-- what it has for a script without answers
abbrev pub no_answers : List ℕ
no_answers = codes "no answers to compare"

-- the place of an answer in a script, and its name as a case
abbrev pub place_of : Option ℕ → List ℕ
place_of None = []
place_of (Some number) = codes ":" ++ decimal number

abbrev pub label_of : Option ℕ → List ℕ
label_of None = codes "answers"
label_of (Some number) = codes "line " ++ decimal number

-- a case in each format, by its number among the cases, its line in the script, and the message if it is not right
abbrev pub text_case : List ℕ → Option ℕ → Option (List ℕ) → List ℕ
text_case name line None = []
text_case name line (Some message) = name ++ (place_of line ++ (codes ": " ++ (message ++ codes "\n")))

abbrev pub tap_line : List ℕ → ℕ → Option ℕ → List ℕ
tap_line passed index line = passed ++ (decimal index ++ (codes " - " ++ label_of line))

abbrev pub tap_message : List ℕ → List ℕ
tap_message message = codes "\n  ---\n  message: |\n    " ++ (message ++ codes "\n  ...\n")

abbrev pub tap_case : ℕ → Option ℕ → Option (List ℕ) → List ℕ
tap_case index line None = tap_line (codes "ok ") index line ++ codes "\n"
tap_case index line (Some message) = tap_line (codes "not ok ") index line ++ tap_message message

abbrev pub junit_begin : List ℕ → Option ℕ → List ℕ
junit_begin name line = codes "<testcase classname=\"" ++ (name ++ (codes "\" name=\"" ++ label_of line))

abbrev pub junit_message : List ℕ → List ℕ
junit_message message = codes "\"><failure message=\"" ++ (escaped message ++ codes "\"/></testcase>\n")

abbrev pub junit_case : List ℕ → Option ℕ → Option (List ℕ) → List ℕ
junit_case name line None = junit_begin name line ++ codes "\"/>\n"
junit_case name line (Some message) = junit_begin name line ++ junit_message message

abbrev pub case_of : Format → List ℕ → ℕ → Option ℕ → Option (List ℕ) → List ℕ
case_of Text name index line message = text_case name line message
case_of Tap name index line message = tap_case index line message
case_of Junit name index line message = junit_case name line message

-- the cases of some answers, the first of which has a number among the cases
abbrev pub cases_from : Format → Bool → List ℕ → ℕ → List ExpectedAnswer → List ℕ
cases_from format hides name index [] = []
cases_from format hides name index (a ∷ answers) = case_of format name index (Some a.number) (message_of hides (verdict_of a) a) ++ cases_from format hides name (index + 1) answers

-- those of a script: a script without answers is one case, which fails
abbrev pub cases : Format → Bool → List ℕ → List ExpectedAnswer → List ℕ
cases format hides name [] = case_of format name 1 None (Some no_answers)
cases format hides name (a ∷ answers) = cases_from format hides name 1 (a ∷ answers)

-- ---- numbers

-- the line of the last answer, or 0 if there is none
abbrev pub last_line : ℕ → List ExpectedAnswer → ℕ
last_line last [] = last
last_line last (a ∷ answers) = last_line a.number answers

-- how many answers are right, wrong and missing
abbrev pub counts_of : List ExpectedAnswer → Counts
counts_of answers = record { right = number_of is_right answers; wrong = number_of is_wrong answers; missing = number_of is_missing answers; last = last_line 0 answers }

-- some counts and one more answer
abbrev pub with_one : Counts → AnswerVerdict → ℕ → Counts
with_one n Right line = record n { right = n.right + 1; last = line }
with_one n Wrong line = record n { wrong = n.wrong + 1; last = line }
with_one n Open line = record n { missing = n.missing + 1; last = line }
with_one n Empty line = record n { missing = n.missing + 1; last = line }

-- some counts and those of more answers
abbrev pub counted : Counts → List ExpectedAnswer → Counts
counted n answers = record { right = n.right + number_of is_right answers; wrong = n.wrong + number_of is_wrong answers; missing = n.missing + number_of is_missing answers; last = last_line n.last answers }

abbrev pub total : Counts → ℕ
total n = n.right + n.wrong + n.missing

-- whether there are answers, and all are right
abbrev pub are_right : Counts → Bool
are_right n = nat_lt 0 n.right && ((n.wrong == 0) && (n.missing == 0))

abbrev pub right_of : Counts → List ℕ
right_of n = decimal n.right ++ (codes " of " ++ (decimal (total n) ++ codes " right, "))

-- `5 of 7 right, 1 wrong, 1 not answered`
abbrev pub sum_of : Counts → List ℕ
sum_of n = right_of n ++ (decimal n.wrong ++ (codes " wrong, " ++ (decimal n.missing ++ codes " not answered\n")))

-- the numbers of cases, and of those that fail
abbrev pub tests : Counts → ℕ
tests n = if total n == 0 then 1 else total n

abbrev pub failures : Counts → ℕ
failures n = if total n == 0 then 1 else n.wrong + n.missing

-- ---- the report

abbrev pub suite_numbers : Counts → List ℕ
suite_numbers n = codes "\" tests=\"" ++ (decimal (tests n) ++ (codes "\" failures=\"" ++ (decimal (failures n) ++ codes "\">\n")))

abbrev pub head : Format → List ℕ → Counts → List ℕ
head Text name n = []
head Tap name n = codes "TAP version 13\n1.." ++ (decimal (tests n) ++ codes "\n")
head Junit name n = codes "<?xml version=\"1.0\" encoding=\"UTF-8\"?>\n<testsuites>\n<testsuite name=\"" ++ (name ++ suite_numbers n)

abbrev pub foot : Format → Counts → List ℕ
foot Text n = sum_of n
foot Tap n = codes "# " ++ sum_of n
foot Junit n = codes "</testsuite>\n</testsuites>\n"

-- the report of what a script asks for
abbrev pub report_of : Format → Bool → List ℕ → List ExpectedAnswer → List ℕ
report_of format hides name answers = head format (name_in format name) (counts_of answers) ++ (cases format hides (name_in format name) answers ++ foot format (counts_of answers))
