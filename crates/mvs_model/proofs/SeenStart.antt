-- What storage is as a state at the start of a step, where there are no pools.
use Rattle.std.proofs.Common.{◌≡◌, ℕ, Bool, true, false, cond, List, [], get_or, Option, None, refl, sym, ap, ◌∙◌, option_map, nat_cmp}
use Rattle.std.specs.List.{list_any}
use Rattle.std.proofs.lemmas.List.Folds.{list_any_none}
use Rattle.std.proofs.lemmas.List.Elements.{All-from_get_or}
use Rattle.std.specs.FinMap.{empty, get-empty, nat_cmp-IsAntisymmetric}
use Rattle.mvs_model.proofs.Types.{Name}
use Rattle.mvs_model.specs.Storage.{Storage, Regions}
use Rattle.mvs_model.specs.Owners.{Owners}
use Rattle.mvs_model.specs.State.{granted}
use Rattle.mvs_model.specs.Card.{CardValue}
use Rattle.mvs_model.specs.Start.{regions_of, first_owners, start}
use Rattle.mvs_model.specs.View.{in_pools, past_regions, holding, without_bytes, seen}
use Rattle.mvs_model.proofs.Tables.{get-table_all, same_maps}
use Rattle.mvs_model.proofs.Made.{get-retained}

-- without pools no doubleword lies in a part, and no address in a cell
pub all_names : (p : Name → Bool) (names : List Name) → ((name : Name) → p name ≡ false) → list_any p names ≡ false
all_names p names h = list_any_none p names (All-from_get_or (λ name. p name ≡ false) names [] (λ i l. h (get_or names i [])))

-- storage at the start of a step, and the state that it is
bare : Regions → Storage
bare r = record { regions = r; held = empty; bytes = empty }

none_bare : (r : Regions) (d : ℕ) → holding (bare r) empty d ≡ None
unfolding bare
none_bare r d = ap (option_map (λ s. record { subpool = s; pooled = in_pools empty d })) (get-empty nat_cmp d)

held_bare : (r : Regions) (o : Owners) → (seen (bare r) o).held ≡ empty
unfolding bare
held_bare r o = same_maps _ _ (λ d. get-table_all (past_regions r) (holding (bare r) empty) (λ k l. none_bare r k) d ∙ none_bare r d ∙ sym (get-empty nat_cmp d))

bytes_bare : (r : Regions) (o : Owners) → (seen (bare r) o).bytes ≡ empty
unfolding bare
bytes_bare r o = same_maps _ _ (λ a. get-retained nat_cmp-IsAntisymmetric empty (granted (without_bytes (bare r) o empty)) a ∙ at (granted (without_bytes (bare r) o empty) a) (get-empty nat_cmp a) ∙ sym (get-empty nat_cmp a)) where
  at : {v : Option ℕ} (b : Bool) → v ≡ None → cond b v None ≡ None
  at true e = e
  at false e = refl

pub start_seen : (card : CardValue) → seen (record { regions = regions_of card; held = empty; bytes = empty }) (first_owners card.name card.residence) ≡ start card
unfolding bare
start_seen card =
    let o = first_owners card.name card.residence in
    λ i. record { regions = regions_of card; held = held_bare (regions_of card) o i; bytes = bytes_bare (regions_of card) o i; owners = o; pools = empty }
