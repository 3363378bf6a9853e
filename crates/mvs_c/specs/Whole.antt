-- A whole script in one call.
use Rattle.std.specs.Prelude.{ℕ, List}
use Rattle.mvs_model.specs.declared.outcome.Outcome.{Outcome}
use Rattle.mvs_model.specs.Runs.{IsPrinting}
use Rattle.mvs_c.specs.Exports.{HandsOver, outcome_status}

-- The printing of a run of the script is handed over, with the status of how it ends.
pub record Runs (script before after : List ℕ) (wanted status : ℕ) : Type 0 where
  pub text : List ℕ
  pub outcome : Outcome
  pub printing : IsPrinting script text outcome
  pub handed : HandsOver text before after wanted (outcome_status outcome) status
