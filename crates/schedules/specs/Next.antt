-- Which statement of a step can run next.
use Rattle.std.specs.Prelude.{◌≡◌, ◌<◌, ℕ, ◌&&◌, ◌||◌, not, Bool, true, false, List, [], ◌∷◌, ◌++◌, length, map, take, Option, Some, None, slice_get, slice_index, nat_eq}
use Rattle.std.specs.List.{list_any}
use Rattle.std.specs.Cmp.Lexicographic.{pointwise}
use Rattle.mvs_model.specs.declared.name.Name.{Name}
use Rattle.mvs_model.specs.Job.{JobValue}
use Rattle.mvs_model.specs.Owners.{is_active}
use Rattle.schedules.specs.declared.step_line.StepLine.{StepLine}
use Rattle.schedules.specs.Answered.{Schedule}

-- whether a line is a statement of the task
abbrev pub is_line_of : Name → Option StepLine → Bool
is_line_of task None = false
is_line_of task (Some l) = pointwise nat_eq l.task task

-- whether the line at a position is one
abbrev pub is_of : List StepLine → Name → ℕ → Bool
is_of lines task k = is_line_of task (slice_get lines k)

-- whether a task is active in the step
abbrev pub is_task_active : Option JobValue → Name → Bool
is_task_active None task = false
is_task_active (Some job) task = is_active job.state.owners task

-- Whether a statement can run next: its task is active, and none of the earlier statements that have not run is of its task. These
-- are at the positions in `before`.
abbrev pub line_can_run : List StepLine → Option JobValue → List ℕ → Option StepLine → Bool
line_can_run lines step before None = false
line_can_run lines step before (Some l) = is_task_active step l.task && not (list_any (is_of lines l.task) before)

-- whether the statement at a position can
abbrev pub can_run : List StepLine → Option JobValue → List ℕ → ℕ → Bool
can_run lines step before k = line_can_run lines step before (slice_get lines k)

-- whether one of the statements at the positions in `left` can, which come after those in `before`
abbrev pub some_can_run : List StepLine → Option JobValue → List ℕ → List ℕ → Bool
some_can_run lines step before [] = false
some_can_run lines step before (k ∷ left) = can_run lines step before k || some_can_run lines step (before ++ k ∷ []) left

-- The statement at this index of the positions in `left` can run, and none before it.
pub record IsFirstNext (lines : List StepLine) (step : Option JobValue) (left : List ℕ) (at : ℕ) : Type 0 where
  pub within : at < length left
  pub can : can_run lines step (take at left) (slice_index left at) ≡ true
  pub others : (i : ℕ) → i < at → can_run lines step (take i left) (slice_index left i) ≡ false

-- the number of a line
abbrev pub number_of : Option StepLine → ℕ
number_of None = 0
number_of (Some l) = l.number

-- the statements at these positions, which are not reached
abbrev pub unreached : List StepLine → List ℕ → Schedule
unreached lines left = map (λ k. record { line = number_of (slice_get lines k); text = [] }) left
