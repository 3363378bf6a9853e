-- The hints for the places of a request, and their use.
use Rattle.std.specs.Prelude.{◌≡◌, ℕ, List, [], ◌∷◌, length, map, Option, Some, None}
use Rattle.std.specs.FinMap.{get}
use Rattle.mvs_model.specs.declared.name.Name.{Name}
use Rattle.mvs_model.specs.declared.code.Form.{Form}
use Rattle.mvs_model.specs.declared.request.Request.TheVariants.{Build, Get, Obtain, ObtainList}
use Rattle.mvs_model.specs.declared.request.Reply.TheVariants.{Cell, Listed, Obtained, Rc0}
use Rattle.mvs_model.specs.Determined.{Entered, ListFollowsHints, FollowsHint}
use Rattle.mvs_model.specs.Owners.{effective_task}
use Rattle.mvs_model.specs.Place.{PlaceValue}
use Rattle.mvs_model.specs.State.{State}
use Rattle.mvs_model.specs.Pools.{Pool, first_cell}
use Rattle.mvs_model.specs.Requests.{Builds, Plan, residence_of, side_for}
use Rattle.mvs_model.specs.Want.{AskValue, side_of, want_of}
use Rattle.cell_pool.specs.Hints.{CellFollowsHint}
use Rattle.request_forms.specs.Lists.{first_of, list_wants}

-- A granted area uses the hinted address.
abbrev pub TakesArea : State → Name → Form → ℕ → AskValue → Option ℕ → PlaceValue → Type 0
TakesArea old t form number ask hints p = (a : ℕ) → hints ≡ Some a → FollowsHint old (effective_task old.owners t number) number (want_of ask (side_for old t form ask.loc)) a p

-- Each area of a list uses its hint, if there is a hint for each.
abbrev pub TakesAreas : State → Name → ℕ → List ℕ → ℕ → List ℕ → List PlaceValue → State → Type 0
TakesAreas old t number lengths start hints ps new = length hints ≡ length lengths → ListFollowsHints old (effective_task old.owners t number) number (list_wants lengths start) hints ps new

-- the hint for the first cell of a further part: the one after that of the cell, or that of the cell
abbrev pub further_of : List ℕ → Option ℕ
further_of [] = None
further_of (a ∷ []) = Some a
further_of (a ∷ first ∷ more) = Some first

-- A taken cell is at the hinted address, if there can be one.
abbrev pub TakesCell : State → Name → List ℕ → PlaceValue → Type 0
TakesCell old name hints p = (a : ℕ) → first_of hints ≡ Some a → CellFollowsHint old name a (further_of hints) p

-- the addresses of the first cells of a pool's parts, where it is there
abbrev pub first_cells : Option Pool → List ℕ
first_cells None = []
first_cells (Some pool) = map (first_cell pool.cell_size) pool.parts

-- A new pool has its first cell at the hinted address, if that is possible.
abbrev pub TakesPool : State → Name → ℕ → Name → Plan → Option ℕ → State → Type 0
TakesPool old t number name plan hints new =
    (a : ℕ) → hints ≡ Some a → (later : State) → Builds old (effective_task old.owners t number) name number plan later → first_cells (get later.pools name) ≡ a ∷ [] → first_cells (get new.pools name) ≡ a ∷ []

-- A step that grants these uses the hints.
abbrev pub Takes : Entered
Takes hints old t (Obtain form number ask) (Obtained p) new = TakesArea old t form number ask (first_of hints) p
Takes hints old t (ObtainList form number lengths start) (Listed ps) new = TakesAreas old t number lengths start hints ps new
Takes hints old t (Build name number size primary secondary loc) Rc0 new = TakesPool old t number name (record { cell_size = size; primary = primary; secondary = secondary; side = side_of loc (residence_of old.owners t) }) (first_of hints) new
Takes hints old t (Get name conditional) (Cell p) new = TakesCell old name hints p
Takes hints old t r reply new = Unit {0}
