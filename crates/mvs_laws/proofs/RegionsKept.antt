-- The regions of a step stay, and what is granted lies in them.
use Rattle.std.proofs.Common.{◌≡◌, ℕ, ◌∙◌, List, [], ◌∷◌, refl, subst, arith}
use Rattle.std.specs.List.{AllByRecursion}
use Rattle.std.proofs.lemmas.Grind.{common_steps}
use Rattle.mvs_laws.proofs.Types.{Name, Request, Reply}
use Rattle.mvs_model.specs.Place.{PlaceValue}
use Rattle.mvs_model.specs.Want.{WantValue}
use Rattle.mvs_model.specs.Storage.{Regions, InRegion}
use Rattle.mvs_model.specs.State.{State}
use Rattle.mvs_model.specs.Changes.{GrantTo, ListGrant}
use Rattle.mvs_model.specs.Steps.{Step}
use Rattle.mvs_laws.proofs.Kept.{Closed, HasPlan, step_keeps}

regions_closed : (r : Regions) → Closed (λ st. st.regions ≡ r)
regions_closed r = grind (arith, common_steps)

pub regions_stay : (old : State) (t : Name) (request : Request) (reply : Reply) (new : State) → HasPlan request → Step old t request reply new → new.regions ≡ old.regions
regions_stay old t request reply new plan step = step_keeps (λ st. st.regions ≡ old.regions) (regions_closed old.regions) old t request reply new plan step refl

-- a granted area lies in a region
pub grant_inside : (old : State) (t : Name) (number : ℕ) (want : WantValue) (p : PlaceValue) (new : State) → GrantTo old t number want p new → InRegion old.regions p
grant_inside old t number want p new g = g.chosen.placed.0.inside

-- so does each area of a list
pub list_inside : (r : Regions) (t : Name) (number : ℕ) (wants : List WantValue) (ps : List PlaceValue) (old new : State) → old.regions ≡ r → ListGrant old t number wants ps new → AllByRecursion (InRegion r) ps
list_inside r t number [] [] old new e h = tt
list_inside r t number [] (p ∷ ps) old new e h = absurd h
list_inside r t number (want ∷ wants) [] old new e h = absurd h
list_inside r t number (want ∷ wants) (p ∷ ps) old new e h = (subst (λ r. InRegion r p) e (grant_inside old t number want p h.0 h.1), list_inside r t number wants ps h.0 new (h.1.regions ∙ e) h.2)
