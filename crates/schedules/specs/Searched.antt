-- The table of the schedules of a step.
use Rattle.std.specs.Prelude.{◌≡◌, ℕ, Bool, false, List, IfSome, length}
use Rattle.std.specs.List.{AllByRecursion, range_with_len}
use Rattle.mvs_job.specs.declared.walk.LineEvent.{LineEvent}
use Rattle.mvs_job.specs.LineEvents.{ServesAs, WalkValue, new_walk}
use Rattle.schedules.specs.declared.search.StepSchedules.{StepSchedules}
use Rattle.schedules.specs.declared.step_line.StepLine.{StepLine}
use Rattle.schedules.specs.declared.tally.Tally.{Tally}
use Rattle.schedules.specs.Answered.{Schedule}
use Rattle.schedules.specs.Counting.{AreOrders}
use Rattle.schedules.specs.Schedules.{AreSchedules, IsSchedule}
use Rattle.schedules.specs.Tallies.{IsTally}

-- The table is that of schedules from a state of the job, and of all of them if the search is whole.
pub record AreCounted (lines : List StepLine) (whole : Bool) (w : WalkValue) (left : List ℕ) (t : Tally) : Type 0 where
  pub schedules : List Schedule
  pub are : AreSchedules lines whole w left schedules
  pub each : AllByRecursion (IsSchedule lines w left) schedules
  pub tally : IsTally schedules t

-- the positions of all lines
abbrev pub positions : List StepLine → List ℕ
positions lines = range_with_len 0 (length lines)

-- The REGION statement begins the step, and the table is that of its schedules: of all of them, or of this number of them.
pub record IsSearched (region : StepLine) (lines : List StepLine) (most : ℕ) (found : StepSchedules) : Type 0 where
  pub line_event : LineEvent
  pub start : WalkValue
  pub begins : ServesAs new_walk region.bytes.items line_event start
  pub counted : AreCounted lines found.is_whole start (positions lines) found.tally
  pub stopped : found.is_whole ≡ false → found.tally.schedules ≡ most
  pub number : found.line_number ≡ region.number
  pub orders : IfSome found.orders (AreOrders lines)
