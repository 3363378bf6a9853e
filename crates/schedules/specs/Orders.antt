-- The order of the statements of a step as a schedule, and the lines of the script in that order.
use Rattle.std.specs.Prelude.{◌≡◌, ◌+◌, ◌<◌, ℕ, true, false, List, [], ◌∷◌, ◌++◌, ◌==◌, drop, length, map, slice_get, slice_index, take, if◌then◌else◌}
use Rattle.std.specs.Option.{unwrap_or}
use Rattle.std.specs.List.{AllByRecursion, range_with_len}
use Rattle.mvs_model.specs.Lines.{lines_of}
use Rattle.mvs_job.specs.declared.walk.LineEvent.{LineEvent}
use Rattle.mvs_job.specs.LineEvents.{ServesAs, WalkValue, new_walk}
use Rattle.schedules.specs.declared.step_line.StepLine.{StepLine}
use Rattle.schedules.specs.Answered.{AnsweredValue, Schedule, order_of}
use Rattle.schedules.specs.Next.{can_run, number_of}
use Rattle.schedules.specs.Schedules.{IsSchedule, Runs}
use Rattle.schedules.specs.Scripts.{AreStepLines}
use Rattle.schedules.specs.Searched.{positions}

-- The order is that of a schedule from a state of the job.
abbrev pub HasOrder : List StepLine → WalkValue → List ℕ → List ℕ → Type 0
HasOrder lines w left order = (schedule : Schedule) × IsSchedule lines w left schedule × (order ≡ order_of schedule)

-- The statement with this number, which can run next, has run, and is no longer among those that are left.
pub record RunsNumber (lines : List StepLine) (w : WalkValue) (left : List ℕ) (number : ℕ) (later : WalkValue) (rest : List ℕ) : Type 0 where
  pub at : ℕ
  pub answer : AnsweredValue
  pub within : at < length left
  pub can : can_run lines w.step (take at left) (slice_index left at) ≡ true
  pub runs : Runs lines w (slice_index left at) answer later
  pub rest_is : rest ≡ take at left ++ drop (at + 1) left
  pub number_is : number_of (slice_get lines (slice_index left at)) ≡ number

-- The order is that of a schedule of the step: the number of the line of its REGION statement, and then those of its statements.
pub record IsOrder (region : StepLine) (own : List StepLine) (order : List ℕ) : Type 0 where
  pub line_event : LineEvent
  pub start : WalkValue
  pub others : List ℕ
  pub begins : ServesAs new_walk region.bytes.items line_event start
  pub numbers : order ≡ region.number ∷ others
  pub is : HasOrder own start (positions own) others

-- The number of the line that comes where a line was, if the statements of a step come in this order: that of a statement of the step
-- changes, and each other one stays.
abbrev pub placed : List StepLine → List ℕ → ℕ → ℕ
placed [] order n = n
placed (l ∷ lines) order n = if l.number == n then unwrap_or (slice_get order 0) n else placed lines (drop 1 order) n

-- the numbers of some lines of a script from a number on, in the order in which they come
abbrev pub all_placed : List StepLine → List ℕ → ℕ → List ℕ
all_placed lines order count = map (placed lines order) (range_with_len 1 count)

-- The numbers are those of all lines of the script, in which the statements of one step come in an order that is a schedule of it. The
-- other lines are where they were.
pub record IsOrdered (script order numbers : List ℕ) : Type 0 where
  pub before : List StepLine
  pub region : StepLine
  pub own : List StepLine
  pub others : List StepLine
  pub statements : AreStepLines true 1 (lines_of script) (before ++ region ∷ own ++ others)
  pub begins : region.is_region ≡ true
  pub inside : AllByRecursion (λ l. l.is_region ≡ false) own
  pub order_is : IsOrder region own order
  pub numbers_are : numbers ≡ all_placed (region ∷ own) order (length (lines_of script))
