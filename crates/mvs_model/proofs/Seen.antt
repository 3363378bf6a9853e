-- What a store, the owners and the pools that stand in the store are as a state.
use Rattle.std.proofs.Common.{◌≡◌, ℕ, ◌/◌, Bool, true, false, cond, Some, None, refl, sym, ap, ◌∙◌, subst, ◌||◌, option_map, arith}
use Rattle.std.specs.FinMap.{FinMap, get}
use Rattle.std.proofs.lemmas.Bool.Decides.{nat_tests}
use Rattle.mvs_model.proofs.Types.{Name}
use Rattle.mvs_model.specs.Place.{PlaceValue}
use Rattle.mvs_model.specs.Want.{WantValue}
use Rattle.mvs_model.specs.Name.{name_cmp}
use Rattle.mvs_model.specs.Storage.{Storage, holder as held_by, IsStorage, Chosen, NoPlace, covers, has_address, Grant}
use Rattle.mvs_model.specs.Owners.{Owners, SubpoolOf, Enters}
use Rattle.mvs_model.specs.Pools.{Pool}
use Rattle.mvs_model.specs.State.{Holding, plain, holder, is_plain, in_cell, granted}
use Rattle.mvs_model.specs.View.{in_pools, state_of}
use Rattle.mvs_model.specs.Changes.{GrantTo}
use Rattle.mvs_model.proofs.CellPlaces.{whole_has}
use Rattle.mvs_model.proofs.PartsFewer.{chosen_whole}
use Rattle.mvs_model.proofs.Stand.{Stand, held_state, bytes_state, holder_state, free_clear}
use Rattle.mvs_model.proofs.StorageLaws.{covers_is}

-- what holds a doubleword, as a part of a pool or not
abbrev pub held_as : Bool → ℕ → Holding
held_as b s = record { subpool = s; pooled = b }

-- a place for the store is a place for the machine
pub same_holder : (st : Storage) (o : Owners) (pools : FinMap name_cmp Pool) → IsStorage st → holder (state_of st o pools) ≡ held_by st
same_holder st o pools is = λ i d. holder_state st o pools is d i

pub no_place_seen : (st : Storage) (o : Owners) (pools : FinMap name_cmp Pool) (s : ℕ) (want : WantValue) → IsStorage st → NoPlace st.regions (held_by st) s want → NoPlace st.regions (holder (state_of st o pools)) s want
no_place_seen st o pools s want is none = subst (λ h. NoPlace st.regions h s want) (sym (same_holder st o pools is)) none

chosen_seen : (st : Storage) (o : Owners) (pools : FinMap name_cmp Pool) (s : ℕ) (want : WantValue) (p : PlaceValue) → IsStorage st → Chosen st.regions (held_by st) s want p → Chosen st.regions (holder (state_of st o pools)) s want p
chosen_seen st o pools s want p is c = subst (λ h. Chosen st.regions h s want p) (sym (same_holder st o pools is)) c

-- bytes may be read alike where their doubleword is held alike
pub granted_alike : (st new : Storage) (o after : Owners) (pools : FinMap name_cmp Pool) (a : ℕ) → get (state_of new after pools).held (a / 8) ≡ get (state_of st o pools).held (a / 8) → granted (state_of new after pools) a ≡ granted (state_of st o pools) a
granted_alike st new o after pools a e = ap (λ h. is_plain h || in_cell (state_of st o pools) a) e

module _ (st new : Storage) (o after : Owners) (pools : FinMap name_cmp Pool) (is : IsStorage st) (now : IsStorage new) (stand : Stand st pools) (s : ℕ) (want : WantValue) (p : PlaceValue) (g : Grant st s want p new) where
  free : (d : ℕ) → covers p d ≡ true → held_by st d ≡ None
  free d e = (g.chosen.placed.0.each d (covers_is p d e)).free

  held : (d : ℕ) → get (state_of new after pools).held d ≡ cond (covers p d) (Some (plain s)) (get (state_of st o pools).held d)
  held d = held_state new after pools now d ∙ ap (option_map (held_as (in_pools pools d))) (g.held d) ∙ at (covers p d) refl where
    at : (c : Bool) → covers p d ≡ c → option_map (held_as (in_pools pools d)) (cond c (Some s) (held_by st d)) ≡ cond c (Some (plain s)) (get (state_of st o pools).held d)
    at true e = ap (λ b. Some (held_as b s)) (free_clear st pools stand d (free d e))
    at false e = sym (held_state st o pools is d)

  bytes : (a : ℕ) → get (state_of new after pools).bytes a ≡ cond (has_address p a) (Some st.regions.fill) (get (state_of st o pools).bytes a)
  bytes a = grind (arith, nat_tests, chosen_seen, granted_alike, held, bytes_state, chosen_whole, whole_has)

  -- a grant of the store is one of the machine
  pub grant_seen : (t : Name) (number : ℕ) → SubpoolOf o t number s → Enters o t number s after → GrantTo (state_of st o pools) t number want p (state_of new after pools)
  grant_seen t number sub enters = record {
    subpool = s;
    is_subpool = sub;
    chosen = chosen_seen st o pools s want p is g.chosen;
    regions = g.regions;
    held = held;
    bytes = bytes;
    owners = enters;
    pools = refl;
  }
