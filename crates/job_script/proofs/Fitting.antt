-- Names and the places that they are set to.
use Rattle.std.proofs.Common.{◌≡◌, List, [], ◌∷◌, subst}
use Rattle.std.specs.Prelude.{All}
use Rattle.std.proofs.lemmas.List.Elements.{All-tail}
use Rattle.mvs_model.specs.declared.name.Name.{Name}
use Rattle.mvs_model.specs.Place.{PlaceValue}
use Rattle.job_script.specs.Areas.{IsArea, Fit}

-- where places fit names, so do the places after the first one the names after the first one
pub fit_rest : (names : List Name) (places : List PlaceValue) (n : Name) (ns : List Name) (p : PlaceValue) (ps : List PlaceValue) → names ≡ n ∷ ns → places ≡ p ∷ ps → Fit names places → Fit ns ps
fit_rest names places n ns p ps named placed fit = fit_all ns (All-tail IsArea p ps (subst (All IsArea) placed (subst (λ l. Fit l places) named fit))) where
  fit_all : (ns : List Name) → All IsArea ps → Fit ns ps
  fit_all [] all = tt
  fit_all (m ∷ ms) all = all
