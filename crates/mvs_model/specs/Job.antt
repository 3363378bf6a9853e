-- A step between two lines.
use Rattle.std.specs.Prelude.{Bool, false}
use Rattle.std.specs.FinMap.{FinMap, empty}
use Rattle.mvs_model.specs.Place.{PlaceValue}
use Rattle.mvs_model.specs.Card.{CardValue}
use Rattle.mvs_model.specs.Name.{name_cmp}
use Rattle.mvs_model.specs.State.{State}
use Rattle.mvs_model.specs.Start.{start}

-- A step between two lines: the state of the machine, the places of the names that are set, whether a task of it has abended, and
-- whether one of a former step has.
pub record JobValue : Type 0 where
  pub state : State
  pub names : FinMap name_cmp PlaceValue
  pub abended : Bool
  pub former : Bool

-- the step that begins with a card; whether a task of an earlier step has abended
abbrev pub job_at : CardValue → Bool → JobValue
job_at card former = record { state = start card; names = empty; abended = false; former = former }
