-- What the state of a job keeps.
use Rattle.std.specs.Prelude.{◌≡◌, ℕ, ◌<◌, Some}
use Rattle.std.specs.FinMap.{get}
use Rattle.mvs_model.specs.Storage.{end_of}
use Rattle.mvs_model.specs.State.{State, Holding}
use Rattle.mvs_model.specs.View.{IsBounded}
use Rattle.mvs_model.specs.WellFormed.{Apart, PoolsSized}

-- The regions are those of a card, everything held is before their end, and the pools are as in every state of a run.
pub record IsSteady (st : State) : Type 0 where
  pub bounded : IsBounded st.regions
  pub within : (d : ℕ) (h : Holding) → get st.held d ≡ Some h → d < end_of st.regions
  pub apart : Apart st
  pub sized : PoolsSized st
