-- The first name that is not set.
use Rattle.std.proofs.Common.{◌≡◌, true, false, List, ◌∷◌, Option, Some, None, is_some, sym, ap, ◌∙◌}
use Rattle.std.specs.Prelude.{not}
use Rattle.std.specs.List.{flat_map}
use Rattle.std.specs.Option.{option_or}
use Rattle.std.specs.FinMap.{FinMap, get}
use Rattle.std.proofs.lemmas.List.Folds.{find-append}
use Rattle.mvs_model.specs.declared.name.Name.{Name}
use Rattle.mvs_model.specs.declared.line.Location.{Location}
use Rattle.mvs_model.specs.Name.{name_cmp}
use Rattle.mvs_model.specs.Place.{PlaceValue}
use Rattle.mvs_model.specs.Resolving.{first_unset, name_in}

module _ (names : FinMap name_cmp PlaceValue) (xs rest : List Location) (l : Location) (e : xs ≡ l ∷ rest) where
  both : first_unset names (flat_map name_in xs) ≡ option_or (first_unset names (name_in l)) (first_unset names (flat_map name_in rest))
  both = ap (λ ys. first_unset names (flat_map name_in ys)) e ∙ find-append (λ name. not (is_some (get names name))) (name_in l) (flat_map name_in rest)

  -- in the first address
  pub unset_first : (v : Option Name) → v ≡ first_unset names (name_in l) → is_some v ≡ true → v ≡ first_unset names (flat_map name_in xs)
  unset_first v is some = first v some ∙ ap (λ u. option_or u (first_unset names (flat_map name_in rest))) is ∙ sym both where
    first : (v : Option Name) → is_some v ≡ true → v ≡ option_or v (first_unset names (flat_map name_in rest))
    first None some = absurd (let f : false ≡ true = some in cc)
    first (Some name) some = (λ _. Some name)

  -- in a later one
  pub unset_later : (v w : Option Name) → v ≡ first_unset names (name_in l) → is_some v ≡ false → w ≡ first_unset names (flat_map name_in rest) → w ≡ first_unset names (flat_map name_in xs)
  unset_later v w is none later = later ∙ rest_is v none ∙ ap (λ u. option_or u (first_unset names (flat_map name_in rest))) is ∙ sym both where
    rest_is : (v : Option Name) → is_some v ≡ false → first_unset names (flat_map name_in rest) ≡ option_or v (first_unset names (flat_map name_in rest))
    rest_is None none = (λ _. first_unset names (flat_map name_in rest))
    rest_is (Some name) none = absurd (let f : true ≡ false = none in cc)
