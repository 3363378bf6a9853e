-- A cell that takes the hinted address.
use Rattle.std.proofs.Common.{◌≡◌, ◌∙◌, ℕ, List, Option, Some, Result, Ok, Err, subst}
use Rattle.std.specs.Prelude.{IfOk}
use Rattle.mvs_model.specs.declared.name.Name.{Name}
use Rattle.mvs_model.specs.declared.refusal.Refusal.{Refusal}
use Rattle.mvs_model.specs.Place.{PlaceValue}
use Rattle.mvs_model.specs.State.{State}
use Rattle.request_forms.specs.Lists.{first_of}
use Rattle.request_forms.specs.Taking.{TakesCell, further_of}
use Rattle.cell_pool.specs.Hints.{CellFollowsHint}

pub cell_takes : (old : State) (name : Name) (hints : List ℕ) (cell first : Option ℕ) (answer : Result PlaceValue Refusal) → cell ≡ first_of hints → first ≡ further_of hints
    → ((a : ℕ) → cell ≡ Some a → IfOk answer (CellFollowsHint old name a first)) → IfOk answer (TakesCell old name hints)
cell_takes old name hints cell first (Ok p) is further takes = λ a e. subst (λ f. CellFollowsHint old name a f p) further (takes a (is ∙ e))
cell_takes old name hints cell first (Err refusal) is further takes = tt
