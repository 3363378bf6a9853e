-- The state of a search for the schedules of a step.
use Rattle.std.specs.Prelude.{◌≡◌, ℕ, zero, suc, ◌+◌, ◌*◌, Bool, true, false, List, [], ◌∷◌, ◌++◌, map, take, drop, length}
use Rattle.mvs_job.specs.LineEvents.{WalkValue}
use Rattle.schedules.specs.declared.branch.Branch.{Branch}
use Rattle.schedules.specs.declared.outcomes.Outcomes.{Outcomes}
use Rattle.schedules.specs.declared.step_line.StepLine.{StepLine}
use Rattle.schedules.specs.declared.tally.Tally.{Tally}
use Rattle.schedules.specs.Answered.{AnsweredValue, Schedule}
use Rattle.schedules.specs.Filling.{IsFilled}
use Rattle.schedules.specs.Next.{can_run}
use Rattle.schedules.specs.Schedules.{AreNext, AreSchedules, Runs}

-- schedules that begin with some answers
abbrev pub after : Schedule → List Schedule → List Schedule
after begun schedules = map (λ s. begun ++ s) schedules

-- These are the schedules of the branches that wait, the last branch first.
abbrev pub ArePending : List StepLine → Bool → List Branch → List Schedule → Type 0
ArePending lines whole [] schedules = schedules ≡ []
ArePending lines whole (b ∷ branches) schedules =
    (own : List Schedule) × (first : List Schedule) × AreSchedules lines whole b.walk.value b.left.items own × ArePending lines whole branches first
    × (schedules ≡ first ++ after b.begun.items own)

-- The schedules of some branches are those in which one of the statements in `left` runs next after a branch, and then those of the
-- branches below them.
pub record AreSplit (lines : List StepLine) (whole : Bool) (b : Branch) (before left : List ℕ) (below : List Branch) (schedules : List Schedule) : Type 0 where
  pub own : List Schedule
  pub others : List Schedule
  pub next : AreNext lines whole b.walk.value before left own
  pub pending : ArePending lines whole below others
  pub cut : schedules ≡ after b.begun.items own ++ others

abbrev pub Expands : List StepLine → Branch → List ℕ → List ℕ → List Branch → List Branch → Type 0
Expands lines b before left below now =
    (whole : Bool) (schedules : List Schedule) → ArePending lines whole now schedules → AreSplit lines whole b before left below schedules

-- A branch in which the statement at this index of `left` has run.
pub record IsAfter (lines : List StepLine) (b : Branch) (at k : ℕ) (new : Branch) : Type 0 where
  pub answer : AnsweredValue
  pub runs : Runs lines b.walk.value k answer new.walk.value
  pub left : new.left.items ≡ take at b.left.items ++ drop (at + 1) b.left.items
  pub begun : new.begun.items ≡ b.begun.items ++ answer ∷ []

-- The branch in which the statement at this index runs is added, if it can run.
abbrev pub PushesIf : Bool → List StepLine → Branch → ℕ → ℕ → List Branch → List Branch → Type 0
PushesIf true lines b at k old new = (added : Branch) × (can_run lines b.walk.value.step (take at b.left.items) k ≡ true) × IsAfter lines b at k added × (new ≡ old ++ added ∷ [])
PushesIf false lines b at k old new = (can_run lines b.walk.value.step (take at b.left.items) k ≡ false) × (new ≡ old)

abbrev pub Pushes : List StepLine → Branch → ℕ → ℕ → List Branch → List Branch → Type 0
Pushes lines b at k old new = (can : Bool) × PushesIf can lines b at k old new

-- A branch in the same state.
pub record IsCopy (b copy : Branch) : Type 0 where
  pub walk : copy.walk.value ≡ b.walk.value
  pub left : copy.left.items ≡ b.left.items
  pub begun : copy.begun.items ≡ b.begun.items

-- From a state of the job, some schedules are in the table, and those of the branches that wait are the others.
pub record IsSearchedSoFar (lines : List StepLine) (w : WalkValue) (left : List ℕ) (branches : List Branch) (t : Tally) (outcomes : Outcomes) : Type 0 where
  pub done : List Schedule
  pub filled : IsFilled done t outcomes
  pub others : (whole : Bool) (schedules : List Schedule) → ArePending lines whole branches schedules → AreSchedules lines whole w left (done ++ schedules)

-- The most branches that can come of one with this number of statements that have not run, itself included.
abbrev pub weight : ℕ → ℕ
weight zero = 1
weight (suc n) = 1 + suc n * weight n

-- the same for some branches
abbrev pub weights : List Branch → ℕ
weights [] = 0
weights (b ∷ branches) = weight (length b.left.items) + weights branches
