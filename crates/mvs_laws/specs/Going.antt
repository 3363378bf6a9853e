-- How far a run of a script has come.
use Rattle.std.specs.Prelude.{◌≡◌, ℕ, ◌+◌, List, ◌++◌, length, Option, Some, None}
use Rattle.mvs_model.specs.Answers.{Event}
use Rattle.mvs_model.specs.State.{State}
use Rattle.mvs_model.specs.WellFormed.{PoolsSized}
use Rattle.mvs_model.specs.Job.{JobValue}
use Rattle.mvs_model.specs.Walk.{Leads}
use Rattle.mvs_model.specs.Runs.{machine}

-- of the state of a step, where a job is in one
abbrev pub Holds : (State → Type 0) → Option JobValue → Type 0
Holds P None = Unit {0}
Holds P (Some job) = P job.state

-- The cells of each pool have some size, and its parts some cells.
abbrev pub Sized : Option JobValue → Type 0
Sized step = Holds PoolsSized step

-- After these events, a run of all the lines may be before the line with this number, in this step or before the first, with these
-- lines left.
pub record Reaches (all : List (List ℕ)) (events : List Event) (number : ℕ) (step : Option JobValue) (left : List (List ℕ)) : Type 0 where
  pub served : List (List ℕ)
  pub lines : all ≡ served ++ left
  pub counted : number ≡ 1 + length served
  pub leads : Leads machine 1 None served events step
