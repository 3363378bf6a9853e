-- The report of the schedules of a script as lines of JSON: one for each statement, and one for each step.
use Rattle.std.specs.Prelude.{ℕ, ◌+◌, Bool, true, false, List, [], ◌∷◌, ◌++◌, Option, Some, None, ◌==◌, if◌then◌else◌, codes, decimal}
use Rattle.std.specs.List.{flat_map}
use Rattle.mvs_model.specs.Name.{trimmed}
use Rattle.schedules.specs.declared.search.StepSchedules.{StepSchedules}
use Rattle.schedules.specs.declared.step_line.StepLine.{StepLine}
use Rattle.schedules.specs.declared.tally.Row.{Row}
use Rattle.schedules.specs.Reports.{shown, step_of}

-- numbers, a comma before each
abbrev pub order_json : List ℕ → List ℕ
order_json order = flat_map (λ n. codes "," ++ decimal n) order

-- an answer, and the number of schedules that give it
abbrev pub answer_json : StepLine → Row → List ℕ
answer_json l r = codes "{\"text\":\"" ++ shown l r.answer.text ++ codes "\",\"schedules\":" ++ decimal r.count

-- the first schedule that gives an answer
abbrev pub first_json : StepSchedules → Row → List ℕ
first_json step r = codes ",\"first\":[" ++ decimal step.line_number ++ order_json r.first.items ++ codes "]}"

-- an answer, with a comma before it unless it is the first of its statement
abbrev pub row_json : StepLine → StepSchedules → Bool → Row → List ℕ
row_json l step true r = answer_json l r ++ first_json step r
row_json l step false r = codes "," ++ answer_json l r ++ first_json step r

-- the answers of a statement, among some rows
abbrev pub rows_json : StepLine → StepSchedules → Bool → List Row → List ℕ
rows_json l step first [] = []
rows_json l step first (r ∷ rows) = if r.answer.line == l.number then row_json l step first r ++ rows_json l step false rows else rows_json l step first rows

-- the beginning of the line of a statement
abbrev pub head_json : StepLine → List ℕ
head_json l = codes "{\"event\":\"answers\",\"line\":" ++ decimal l.number ++ codes ",\"task\":\"" ++ trimmed l.task

-- a statement and its answers
abbrev pub line_json : StepLine → Option StepSchedules → List ℕ
line_json l None = []
line_json l (Some step) = head_json l ++ codes "\",\"answers\":[" ++ rows_json l step true step.tally.rows.items ++ codes "]}\n"

-- how many schedules there may be, if that is known
abbrev pub orders_json : Option ℕ → List ℕ
orders_json None = codes "}\n"
orders_json (Some orders) = codes ",\"orders\":" ++ decimal orders ++ codes "}\n"

-- the number of schedules of a step
abbrev pub count_json : StepSchedules → List ℕ
count_json step = codes "{\"event\":\"schedules\",\"line\":" ++ decimal step.line_number ++ codes ",\"schedules\":" ++ decimal step.tally.schedules

-- the number of the outcomes of a step
abbrev pub outcomes_json : StepSchedules → List ℕ
outcomes_json step = codes ",\"outcomes\":" ++ decimal step.tally.outcomes

-- both numbers
abbrev pub counts_json : StepSchedules → List ℕ
counts_json step = count_json step ++ outcomes_json step

-- the same, and whether these are all schedules
abbrev pub foot_json : Option StepSchedules → List ℕ
foot_json None = []
foot_json (Some step) = counts_json step ++ codes ",\"whole\":" ++ (if step.is_whole then codes "true" else codes "false") ++ orders_json step.orders

-- the report of some lines, before which this number of steps have begun
abbrev pub json_from : List StepSchedules → ℕ → List StepLine → List ℕ
json_from steps begun [] = foot_json (step_of steps begun)
json_from steps begun (l ∷ lines) =
    if l.is_region then foot_json (step_of steps begun) ++ json_from steps (begun + 1) lines else line_json l (step_of steps begun) ++ json_from steps begun lines
