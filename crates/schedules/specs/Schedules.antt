-- The schedules of a step: every order of its statements that keeps each task's own order, in which a statement runs only while its
-- task is active. The answers depend on the order, and the places that the machine chooses depend only on what ran before.
use Rattle.std.specs.Prelude.{◌≡◌, ℕ, Bool, true, false, List, [], ◌∷◌, ◌++◌, map, Some, slice_get}
use Rattle.mvs_model.specs.Texts.{printing}
use Rattle.mvs_job.specs.declared.walk.LineEvent.{LineEvent}
use Rattle.mvs_job.specs.LineEvents.{ServesAs, WalkValue, events_of_line}
use Rattle.schedules.specs.declared.step_line.StepLine.{StepLine}
use Rattle.schedules.specs.Answered.{AnsweredValue, Schedule}
use Rattle.schedules.specs.Next.{can_run, some_can_run, unreached}
use Rattle.schedules.specs.Texts.{compared}

-- the answer to a line that has this result
abbrev pub answered : StepLine → WalkValue → LineEvent → AnsweredValue
answered l w line_event = record { line = l.number; text = compared l (printing (events_of_line l.number w line_event)) }

-- In a state of the job this statement has this answer, and leads to another state.
pub record RunsLine (line : StepLine) (old : WalkValue) (a : AnsweredValue) (new : WalkValue) : Type 0 where
  pub line_event : LineEvent
  pub serves : ServesAs old line.bytes.items line_event new
  pub answer : a ≡ answered line new line_event

-- the same for the statement at a position
abbrev pub Runs : List StepLine → WalkValue → ℕ → AnsweredValue → WalkValue → Type 0
Runs lines old k a new = (line : StepLine) × (slice_get lines k ≡ Some line) × RunsLine line old a new

-- A schedule from a state of the job in which the statements at the positions in `left` have not run: one that can run does so, and a
-- schedule of the others follows; if none can run, those that are left are not reached.
pub data IsSchedule (lines : List StepLine) : WalkValue → List ℕ → Schedule → Type 0 where
  Ends : (w : WalkValue) (left : List ℕ) → some_can_run lines w.step [] left ≡ false → IsSchedule lines w left (unreached lines left)
  Continues : (w : WalkValue) (before : List ℕ) (k : ℕ) (left : List ℕ) (a : AnsweredValue) (later : WalkValue) (schedule : Schedule)
      → can_run lines w.step before k ≡ true → Runs lines w k a later → IsSchedule lines later (before ++ left) schedule
      → IsSchedule lines w (before ++ k ∷ left) (a ∷ schedule)

mutual
  -- The schedules from a state of the job in which the statements at the positions in `left` have not run. If a search of them is
  -- not whole, some may be left out.
  pub data AreSchedules (lines : List StepLine) (whole : Bool) : WalkValue → List ℕ → List Schedule → Type 0 where
    Ended : (w : WalkValue) (left : List ℕ) → some_can_run lines w.step [] left ≡ false → AreSchedules lines whole w left (unreached lines left ∷ [])
    Branched : (w : WalkValue) (left : List ℕ) (schedules : List Schedule)
        → some_can_run lines w.step [] left ≡ true → AreNext lines whole w [] left schedules → AreSchedules lines whole w left schedules
    Stopped : (w : WalkValue) (left : List ℕ) → whole ≡ false → AreSchedules lines whole w left []

  -- Those in which one of the statements in `left` runs next, one statement after another. The statements in `before` come before them
  -- and have not run either.
  pub data AreNext (lines : List StepLine) (whole : Bool) : WalkValue → List ℕ → List ℕ → List Schedule → Type 0 where
    Last : (w : WalkValue) (before : List ℕ) → AreNext lines whole w before [] []
    Waits : (w : WalkValue) (before : List ℕ) (k : ℕ) (left : List ℕ) (schedules : List Schedule)
        → can_run lines w.step before k ≡ false → AreNext lines whole w (before ++ k ∷ []) left schedules
        → AreNext lines whole w before (k ∷ left) schedules
    RunsNext : (w : WalkValue) (before : List ℕ) (k : ℕ) (left : List ℕ) (a : AnsweredValue) (later : WalkValue) (own others : List Schedule)
        → can_run lines w.step before k ≡ true → Runs lines w k a later → AreSchedules lines whole later (before ++ left) own
        → AreNext lines whole w (before ++ k ∷ []) left others
        → AreNext lines whole w before (k ∷ left) (map (λ s. a ∷ s) own ++ others)
