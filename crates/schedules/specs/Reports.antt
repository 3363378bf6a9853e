-- The report of the schedules of a script: a line for each statement, with the answers that occur, and a line for each step.
use Rattle.std.specs.Prelude.{ℕ, ◌+◌, Bool, true, false, List, [], ◌∷◌, ◌++◌, length, drop, Option, Some, None, slice_get, ◌==◌, ◌||◌, not, ◌-◌, if◌then◌else◌, codes, decimal}
use Rattle.std.specs.List.{flat_map, list_any}
use Rattle.mvs_model.specs.Lines.{lines_of}
use Rattle.schedules.specs.declared.search.StepSchedules.{StepSchedules}
use Rattle.schedules.specs.declared.report.Verdict.{Verdict}
use Rattle.schedules.specs.declared.report.Verdict.TheVariants.{Same, Varies, Stopped}
use Rattle.schedules.specs.declared.step_line.StepLine.{StepLine}
use Rattle.schedules.specs.declared.tally.Row.{Row}
use Rattle.schedules.specs.Texts.{head_length}

-- further lines of an answer, each without the number of the line
abbrev pub further : ℕ → List (List ℕ) → List ℕ
further number [] = []
further number (text ∷ texts) = codes " / " ++ drop (number + 1) text ++ further number texts

-- the lines of an answer on one line
abbrev pub joined : ℕ → ℕ → List (List ℕ) → List ℕ
joined head number [] = codes "not reached"
joined head number (text ∷ texts) = drop head text ++ further number texts

-- the answer to a statement, which has this text
abbrev pub shown : StepLine → List ℕ → List ℕ
shown l text = joined (head_length l) (length (decimal l.number)) (lines_of text)

-- numbers, a blank before each
abbrev pub order_text : List ℕ → List ℕ
order_text order = flat_map (λ n. codes " " ++ decimal n) order

-- the word after a number of schedules
abbrev pub schedules_word : ℕ → List ℕ
schedules_word n = if n == 1 then codes " schedule" else codes " schedules"

-- an answer: the first of its statement, or a further one with the first schedule that gives it, which begins with the REGION statement
abbrev pub row_text : StepLine → StepSchedules → Bool → Row → List ℕ
row_text l step true r = shown l r.answer.text ++ codes " in " ++ decimal r.count ++ codes " of " ++ decimal step.tally.schedules ++ schedules_word step.tally.schedules
row_text l step false r = codes "; " ++ shown l r.answer.text ++ codes " in " ++ decimal r.count ++ codes ", first: " ++ decimal step.line_number ++ order_text r.first.items

-- the answers of a statement, among some rows
abbrev pub rows_text : StepLine → StepSchedules → Bool → List Row → List ℕ
rows_text l step first [] = []
rows_text l step first (r ∷ rows) = if r.answer.line == l.number then row_text l step first r ++ rows_text l step false rows else rows_text l step first rows

-- a statement as it is in the script, and blanks after it
abbrev pub statement_text : StepLine → List ℕ
statement_text l = decimal l.number ++ codes " " ++ l.bytes.items ++ drop (length l.bytes.items) (codes "                              ") ++ codes " "

-- a statement and its answers
abbrev pub line_report : StepLine → Option StepSchedules → List ℕ
line_report l None = []
line_report l (Some step) = statement_text l ++ rows_text l step true step.tally.rows.items ++ codes "\n"

-- how many schedules there may be, where the search stopped
abbrev pub orders_text : Option ℕ → List ℕ
orders_text (Some orders) = codes " of at most " ++ decimal orders ++ codes " orders"
orders_text None = codes "; there are more than 18446744073709551615 orders"

-- a number of outcomes
abbrev pub outcomes_text : ℕ → List ℕ
outcomes_text n = decimal n ++ (if n == 1 then codes " outcome" else codes " outcomes")

-- a number of schedules
abbrev pub schedules_text : ℕ → List ℕ
schedules_text n = decimal n ++ schedules_word n

-- the number of schedules of a step and of their outcomes, and whether there are more
abbrev pub step_text : Bool → StepSchedules → List ℕ
step_text true step = schedules_text step.tally.schedules ++ codes ", " ++ outcomes_text step.tally.outcomes ++ codes "\n"
step_text false step = codes "stopped after " ++ schedules_text step.tally.schedules ++ orders_text step.orders ++ codes "; " ++ outcomes_text step.tally.outcomes ++ codes " so far\n"

abbrev pub foot_text : Option StepSchedules → List ℕ
foot_text None = []
foot_text (Some step) = step_text step.is_whole step

-- the step that began last, if this number of steps have begun
abbrev pub step_of : List StepSchedules → ℕ → Option StepSchedules
step_of steps begun = if begun == 0 then None else slice_get steps (begun - 1)

-- the report of some lines, before which this number of steps have begun
abbrev pub report_from : List StepSchedules → ℕ → List StepLine → List ℕ
report_from steps begun [] = foot_text (step_of steps begun)
report_from steps begun (l ∷ lines) =
    if l.is_region then foot_text (step_of steps begun) ++ report_from steps (begun + 1) lines else line_report l (step_of steps begun) ++ report_from steps begun lines

-- whether a row is of a further answer to a statement that has one among some rows
abbrev pub is_further : List Row → Row → Bool
is_further rows r = list_any (λ x. x.answer.line == r.answer.line) rows

-- whether a statement has two answers
abbrev pub has_two : List Row → Bool
has_two [] = false
has_two (r ∷ rows) = is_further rows r || has_two rows

-- whether a step has a statement with two answers
abbrev pub step_varies : StepSchedules → Bool
step_varies step = has_two step.tally.rows.items

-- whether not all schedules of a step were run
abbrev pub is_part : StepSchedules → Bool
is_part step = not step.is_whole

-- what the tables of the steps show: whether all schedules were run, and if so whether each statement has one answer
abbrev pub verdict_of : List StepSchedules → Verdict
verdict_of steps = if list_any is_part steps then Stopped else if list_any step_varies steps then Varies else Same
