-- Why an order of the statements of a step is refused.
use Rattle.std.specs.Prelude.{◌≡◌, ◌+◌, ◌≢◌, ◌<◌, ◌≤◌, ℕ, Bool, true, false, List, [], ◌∷◌, ◌++◌, ◌==◌, ◌&&◌, length, drop, map, take, IfSome, None, Option, Some, slice_get, slice_index}
use Rattle.std.specs.List.{AllByRecursion, list_any}
use Rattle.mvs_model.specs.declared.name.Name.{Name}
use Rattle.mvs_model.specs.Job.{JobValue}
use Rattle.mvs_model.specs.Lines.{lines_of}
use Rattle.mvs_job.specs.declared.walk.LineEvent.{LineEvent}
use Rattle.mvs_job.specs.LineEvents.{ServesAs, WalkValue, new_walk}
use Rattle.schedules.specs.declared.order.OrderError.{OrderError}
use Rattle.schedules.specs.declared.order.OrderError.TheVariants as error
use Rattle.schedules.specs.declared.script.ScheduleError.{ScheduleError}
use Rattle.schedules.specs.declared.script.ScheduleError.TheVariants as stop
use Rattle.schedules.specs.declared.step_line.StepLine.{StepLine}
use Rattle.schedules.specs.Answered.{Schedule, order_of}
use Rattle.schedules.specs.Next.{can_run, is_of, is_task_active, number_of, some_can_run}
use Rattle.schedules.specs.Orders.{RunsNumber}
use Rattle.schedules.specs.Schedules.{IsSchedule}
use Rattle.schedules.specs.Scripts.{AreStepLines, HasFault}
use Rattle.schedules.specs.Searched.{positions}

-- whether a number is among some
abbrev pub has : List ℕ → ℕ → Bool
has numbers n = list_any (λ m. m == n) numbers

-- whether a line has this number
abbrev pub is_numbered : ℕ → StepLine → Bool
is_numbered n l = l.number == n

-- the numbers of the lines at these positions
abbrev pub numbers_of : List StepLine → List ℕ → List ℕ
numbers_of lines left = map (λ k. number_of (slice_get lines k)) left

-- whether a statement at one of these positions has this number
abbrev pub is_left : List StepLine → List ℕ → ℕ → Bool
is_left lines left n = list_any (λ k. number_of (slice_get lines k) == n) left

-- whether the statement at a position has this number and can run
abbrev pub runs_as : List StepLine → Option JobValue → List ℕ → ℕ → ℕ → Bool
runs_as lines step before k n = (number_of (slice_get lines k) == n) && can_run lines step before k

-- None of the statements at the positions in `left` has this number and can run.
abbrev pub NoneRuns : List StepLine → Option JobValue → List ℕ → ℕ → Type 0
NoneRuns lines step left n = (i : ℕ) → i < length left → runs_as lines step (take i left) (slice_index left i) n ≡ false

-- whether the task of a line is active
abbrev pub is_line_active : Option JobValue → Option StepLine → Bool
is_line_active step None = false
is_line_active step (Some l) = is_task_active step l.task

-- whether the line at a position is a statement of a task and has this number
abbrev pub is_of_as : List StepLine → Name → ℕ → ℕ → Bool
is_of_as lines task n k = is_of lines task k && (number_of (slice_get lines k) == n)

-- Statements with these numbers have run, one after another, from a state of the job. They are no longer among those that are left.
pub data HaveRun (lines : List StepLine) (start : WalkValue) (all : List ℕ) : List ℕ → WalkValue → List ℕ → Type 0 where
  NoneYet : HaveRun lines start all [] start all
  OneMore : (numbers : List ℕ) (w : WalkValue) (left : List ℕ) (n : ℕ) (later : WalkValue) (rest : List ℕ)
      → HaveRun lines start all numbers w left → RunsNumber lines w left n later rest → HaveRun lines start all (numbers ++ n ∷ []) later rest

-- No schedule from a state of the job has this order.
abbrev pub HasNoSchedule : List StepLine → WalkValue → List ℕ → List ℕ → Type 0
HasNoSchedule lines w left order = (schedule : Schedule) → IsSchedule lines w left schedule → order_of schedule ≢ order

-- The reason, in a state of the job in which the first statements of an order have run:
-- - Missing: this is the number of a statement that is left.
-- - Twice: this number is in the order before one of its places in it.
-- - Foreign: this number is in the order, and no statement of the step has it.
-- - OutOfTurn: the statement with the first number is left, and so is one with the second number, of the same task and before it.
-- - NotActive: the statement with this number is left, and its task is not active.
-- - NotReached: the statement with this number is left, and none of those that are left can run.
abbrev pub IsReason : List StepLine → WalkValue → List ℕ → List ℕ → OrderError → Type 0
IsReason lines w left order error.Memory = ⊥
IsReason lines w left order (error.Fault n fault) = ⊥
IsReason lines w left order error.Malformed = ⊥
IsReason lines w left order error.Empty = ⊥
IsReason lines w left order (error.NoRegion n) = ⊥
IsReason lines w left order (error.Missing n) = is_left lines left n ≡ true
IsReason lines w left order (error.Twice n) = (i : ℕ) × (slice_get order i ≡ Some n) × (has (take i order) n ≡ true)
IsReason lines w left order (error.Foreign n) = (has order n ≡ true) × (list_any (is_numbered n) lines ≡ false)
IsReason lines w left order (error.OutOfTurn n earlier) = (l : StepLine) × (i : ℕ) × (i < length left) × (slice_get lines (slice_index left i) ≡ Some l) × (l.number ≡ n)
    × (list_any (is_of_as lines l.task earlier) (take i left) ≡ true)
IsReason lines w left order (error.NotActive n) = (i : ℕ) × (i < length left) × (number_of (slice_get lines (slice_index left i)) ≡ n) × (is_line_active w.step (slice_get lines (slice_index left i)) ≡ false)
IsReason lines w left order (error.NotReached n) = (is_left lines left n ≡ true) × (some_can_run lines w.step [] left ≡ false)

-- The reason for the number at an index of an order, before which none is there twice. A number that is not left and not before is foreign.
abbrev pub IsReasonAt : List StepLine → WalkValue → List ℕ → List ℕ → ℕ → OrderError → Type 0
IsReasonAt lines w left order at (error.Twice n) = (slice_get order at ≡ Some n) × (has (take at order) n ≡ true)
IsReasonAt lines w left order at (error.Foreign n) = (slice_get order at ≡ Some n) × (has (take at order) n ≡ false) × (is_left lines left n ≡ false)
IsReasonAt lines w left order at (error.OutOfTurn n earlier) = IsReason lines w left order (error.OutOfTurn n earlier)
IsReasonAt lines w left order at (error.NotActive n) = IsReason lines w left order (error.NotActive n)
IsReasonAt lines w left order at why = ⊥

-- the same where no statement can run
abbrev pub IsUnreachedAt : List StepLine → List ℕ → List ℕ → ℕ → OrderError → Type 0
IsUnreachedAt lines left order at (error.Missing n) = is_left lines left n ≡ true
IsUnreachedAt lines left order at (error.Twice n) = (slice_get order at ≡ Some n) × (has (take at order) n ≡ true)
IsUnreachedAt lines left order at (error.Foreign n) = (slice_get order at ≡ Some n) × (has (take at order) n ≡ false) × (is_left lines left n ≡ false)
IsUnreachedAt lines left order at (error.NotReached n) = is_left lines left n ≡ true
IsUnreachedAt lines left order at why = ⊥

-- From an index on, an order does not have the numbers of the statements that are left.
pub record IsUnreached (lines : List StepLine) (left order : List ℕ) (from : ℕ) (why : OrderError) : Type 0 where
  pub at : ℕ
  pub after : from ≤ at
  pub differs : drop from order ≢ numbers_of lines left
  pub reason : IsUnreachedAt lines left order at why

-- The statement with this number has run, or it cannot run.
abbrev pub RunsIf : Bool → List StepLine → WalkValue → List ℕ → ℕ → WalkValue → List ℕ → Type 0
RunsIf true lines w left n later rest = RunsNumber lines w left n later rest × (later.number ≡ w.number + 1)
RunsIf false lines w left n later rest = NoneRuns lines w.step left n × (later ≡ w) × (rest ≡ left)

-- The order is refused after its first statements have run: no schedule has the others in this order, and this is why.
pub record IsRefusedFrom (lines : List StepLine) (start : WalkValue) (all order : List ℕ) (why : OrderError) : Type 0 where
  pub numbers : List ℕ
  pub rest : List ℕ
  pub w : WalkValue
  pub left : List ℕ
  pub run : HaveRun lines start all numbers w left
  pub order_is : order ≡ numbers ++ rest
  pub none : HasNoSchedule lines w left rest
  pub reason : IsReason lines w left order why

-- the same for the order of a step, which begins with the number of its REGION statement
pub record IsRefusedIn (region : StepLine) (own : List StepLine) (order : List ℕ) (why : OrderError) : Type 0 where
  pub line_event : LineEvent
  pub start : WalkValue
  pub others : List ℕ
  pub begins : ServesAs new_walk region.bytes.items line_event start
  pub numbers : order ≡ region.number ∷ others
  pub refused : IsRefusedFrom own start (positions own) others why

-- An order is refused, or memory was exhausted.
abbrev pub IsRefusal : List StepLine → WalkValue → List ℕ → OrderError → Type 0
IsRefusal lines start order error.Memory = Unit {0}
IsRefusal lines start order why = IsRefusedFrom lines start (positions lines) order why

abbrev pub IsStepRefusal : StepLine → List StepLine → List ℕ → OrderError → Type 0
IsStepRefusal region own order error.Memory = Unit {0}
IsStepRefusal region own order why = IsRefusedIn region own order why

-- the same error
abbrev pub of_schedule : ScheduleError → OrderError
of_schedule stop.Memory = error.Memory
of_schedule (stop.Fault n fault) = error.Fault n fault

-- whether a line is the REGION statement with this number
abbrev pub begins_at : ℕ → StepLine → Bool
begins_at n l = l.is_region && (l.number == n)

-- A step of the script begins with the first number of an order, and the order is refused in it.
pub record IsRefusedInStep (script order : List ℕ) (why : OrderError) : Type 0 where
  pub before : List StepLine
  pub region : StepLine
  pub own : List StepLine
  pub others : List StepLine
  pub statements : AreStepLines true 1 (lines_of script) (before ++ region ∷ own ++ others)
  pub begins : region.is_region ≡ true
  pub inside : AllByRecursion (λ l. l.is_region ≡ false) own
  pub ends : IfSome (slice_get others 0) (λ l. l.is_region ≡ true)
  pub refused : IsRefusedIn region own order why

-- An order of the statements of a script is refused for this reason, or memory was exhausted:
-- - Fault: a line of the script has this fault, and it is the first.
-- - Empty: there is no number.
-- - NoRegion: this is the first number, and no REGION statement has it.
abbrev pub IsRefused : List ℕ → List ℕ → OrderError → Type 0
IsRefused script order error.Memory = Unit {0}
IsRefused script order (error.Fault n fault) = HasFault true 1 (lines_of script) n fault
IsRefused script order error.Empty = order ≡ []
IsRefused script order (error.NoRegion n) = (statements : List StepLine) × AreStepLines true 1 (lines_of script) statements × (slice_get order 0 ≡ Some n) × (list_any (begins_at n) statements ≡ false)
IsRefused script order why = IsRefusedInStep script order why
