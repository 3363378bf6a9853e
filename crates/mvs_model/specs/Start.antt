-- The state at the start of a step.
use Rattle.std.specs.Prelude.{None}
use Rattle.std.specs.FinMap.{empty, insert}
use Rattle.mvs_model.specs.declared.name.Name.{Name}
use Rattle.mvs_model.specs.declared.want.Residence.{Residence}
use Rattle.mvs_model.specs.Card.{CardValue}
use Rattle.mvs_model.specs.Storage.{Regions}
use Rattle.mvs_model.specs.Owners.{Owners}
use Rattle.mvs_model.specs.State.{State}

-- only the job step task, without a subpool
abbrev pub first_owners : Name → Residence → Owners
first_owners t residence = record { tasks = insert empty t (record { mother = None; residence = residence }); table = empty; owner = empty }

-- the regions of a card
abbrev pub regions_of : CardValue → Regions
regions_of card = record { below = card.below; above = card.above; fill = card.fill }

-- nothing is held, there are no pools, and only the job step task is active
abbrev pub start : CardValue → State
start card = record { regions = regions_of card; held = empty; bytes = empty; owners = first_owners card.name card.residence; pools = empty }
