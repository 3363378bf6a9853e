-- What a release of places from a subpool comes to.
use Rattle.std.specs.Prelude.{◌≡◌, ℕ, List, Option, Result, MatchResult, is_some}
use Rattle.mvs_model.specs.declared.refusal.Refusal.{Refusal}
use Rattle.mvs_model.specs.Place.{PlaceValue}
use Rattle.mvs_model.specs.Causes.{HoldsEach, Passed, Refused, held_causes}
use Rattle.mvs_model.specs.Changes.{Disjoint, Frees}
use Rattle.mvs_model.specs.State.{State}

-- All of the places are released from the subpool, where there is one; or it is refused, and nothing changes.
abbrev pub TriesPlaces : State → Option ℕ → List PlaceValue → Result (Unit {0}) Refusal → State → Type 0
TriesPlaces old v ps result new = MatchResult result
    (λ _. Passed (held_causes (is_some v) (HoldsEach old v ps) (Disjoint ps)) × Frees old ps new)
    (λ refusal. Refused (held_causes (is_some v) (HoldsEach old v ps) (Disjoint ps)) refusal × (new ≡ old))
