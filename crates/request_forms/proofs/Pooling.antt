-- Storage with its pools: what calls of the store and of the pools leave.
use Rattle.std.proofs.Common.{◌≡◌, ℕ, ◌/◌, Bool, List, [], ◌∷◌, None, refl, sym, ap, ◌∙◌, subst}
use Rattle.std.specs.Prelude.{not, ◌==◌}
use Rattle.std.specs.List.{AllByRecursion}
use Rattle.std.specs.Option.{option_map}
use Rattle.std.specs.FinMap.{FinMap, get, empty, get-empty}
use Rattle.mvs_model.specs.declared.name.Name.{Name}
use Rattle.mvs_model.specs.Place.{PlaceValue}
use Rattle.mvs_model.specs.Want.{WantValue}
use Rattle.mvs_model.specs.Name.{name_cmp}
use Rattle.mvs_model.specs.Finite.{Changes, Keeps, has}
use Rattle.mvs_model.specs.Storage.{Storage, IsStorage, Grant, ReleaseAll, holder}
use Rattle.mvs_model.specs.Owners.{Owners, SubpoolOf, Enters}
use Rattle.mvs_model.specs.View.{state_of}
use Rattle.mvs_model.specs.Changes.{GrantTo, Empties}
use Rattle.mvs_model.specs.Card.{CardValue}
use Rattle.mvs_model.specs.Start.{regions_of, first_owners, start}
use Rattle.mvs_model.proofs.Seen.{grant_seen}
use Rattle.mvs_model.proofs.SeenStart.{start_seen}
use Rattle.mvs_model.proofs.SeenRelease.{drops_seen}
use Rattle.mvs_model.proofs.Stand.{Stand, stand}
use Rattle.cell_pool.specs.Agree.{Agree}
use Rattle.cell_pool.specs.Laws.{IsClear}
use Rattle.cell_pool.specs.Layout.{byte_of}
use Rattle.cell_pool.specs.Roots.{Root, pool_of, pools_of}
use Rattle.cell_pool.proofs.Frame.{get-pools_of}
use Rattle.cell_pool.proofs.Counted.{all_kept as parts_carry_pools}
use Rattle.cell_pool.proofs.Keeping.{grant_keeps, release_keeps, releases_keep, drops_pools}
use Rattle.std.specs.FinMap.{FinMap, get, same_map}
use Rattle.mvs_model.proofs.Orders.{name_cmp_total, name_cmp-IsAntisymmetric}
use Rattle.request_forms.specs.Lists.{GrantsEach, ReleasesEach, later_of}
use Rattle.request_forms.specs.Machine.{IsStepStorage, machine_state}

-- the pools stand in storage that they agree with
pub stands : (roots : FinMap name_cmp Root) (st : Storage) (o : Owners) → Agree roots st → Stand st (pools_of roots st)
stands roots st o agree = stand st o (pools_of roots st) agree.parts.storage (agree.parts.apart o)

pub step_storage : (roots : FinMap name_cmp Root) (st : Storage) → Agree roots st → IsStepStorage st
step_storage roots st agree = record { storage = agree.parts.storage; bounded = agree.parts.bounded }

-- a grant leaves the pools as they are
pub grant_agrees : (roots : FinMap name_cmp Root) (st new : Storage) (s : ℕ) (want : WantValue) (p : PlaceValue) → Agree roots st → IsStorage new → Grant st s want p new → Agree roots new × (pools_of roots new ≡ pools_of roots st)
grant_agrees roots st new s want p agree now g = parts_carry_pools roots st new agree (grant_keeps roots st new s want p agree now g)

pub granted : (roots : FinMap name_cmp Root) (st new : Storage) (o after : Owners) (t : Name) (number s : ℕ) (want : WantValue) (p : PlaceValue) → Agree roots st → IsStorage new → SubpoolOf o t number s → Enters o t number s after → Grant st s want p new
    → GrantTo (machine_state roots st o) t number want p (machine_state roots new after)
granted roots st new o after t number s want p agree now sub enters g =
    subst (λ pools. GrantTo (machine_state roots st o) t number want p (state_of new after pools)) (sym (grant_agrees roots st new s want p agree now g).1)
    (grant_seen st new o after (pools_of roots st) agree.parts.storage now (stands roots st o agree) s want p g t number sub enters)

-- so do grants one after another
pub grants_agree : (roots : FinMap name_cmp Root) (st new : Storage) (s : ℕ) (wants : List WantValue) (hints : List ℕ) (ps : List PlaceValue) → Agree roots st → GrantsEach st s wants hints ps new → Agree roots new
grants_agree roots st new s [] hints [] agree h = subst (Agree roots) (sym h) agree
grants_agree roots st new s [] hints (p ∷ ps) agree h = absurd h
grants_agree roots st new s (want ∷ wants) hints [] agree h = absurd h
grants_agree roots st new s (want ∷ wants) hints (p ∷ ps) agree h = grants_agree roots h.0 new s wants (later_of hints) ps (grant_agrees roots st h.0 s want p agree h.1 h.2).0 h.4

-- and releases of places that have nothing of a part
pub releases_agree : (roots : FinMap name_cmp Root) (st new : Storage) (s : ℕ) (ps : List PlaceValue) → Agree roots st → AllByRecursion (IsClear (pools_of roots st)) ps → ReleasesEach st s ps new → Agree roots new × (pools_of roots new ≡ pools_of roots st)
releases_agree roots st new s [] agree clear h = (subst (Agree roots) (sym h) agree, ap (pools_of roots) h)
releases_agree roots st new s (p ∷ ps) agree clear h =
    let one = parts_carry_pools roots st h.0 agree (release_keeps roots st h.0 s p agree h.1 h.2 clear.0) in
    let rest = releases_agree roots h.0 new s ps one.0 (subst (λ pools. AllByRecursion (IsClear pools) ps) (sym one.1) clear.1) h.3 in
    (rest.0, rest.1 ∙ one.1)

-- all that some subpools hold goes, with their pools
module _ (test : ℕ → Bool) (roots fewer : FinMap name_cmp Root) (st new : Storage) (agree : Agree roots st) (now : IsStorage new) (gone : Keeps (get roots) (λ _ r. not (test r.subpool)) (get fewer))
    (regions : new.regions ≡ st.regions) (held : Keeps (get st.held) (λ _ t. not (test t)) (get new.held)) (bytes : Changes (get st.bytes) (λ a. has test (holder st (a / 8))) None (get new.bytes)) where
  kept : Agree fewer new × (pools_of fewer new ≡ pools_of fewer st)
  kept = let d = drops_pools test roots fewer st agree gone in parts_carry_pools fewer st new d.0 (releases_keep test fewer st new d.0 now regions held bytes d.2)

  pub still_agree : Agree fewer new
  still_agree = kept.0

  pub pools_gone : Keeps (get (pools_of roots st)) (λ _ p. not (test p.subpool)) (get (pools_of fewer new))
  pools_gone = subst (λ pools. Keeps (get (pools_of roots st)) (λ _ p. not (test p.subpool)) (get pools)) (sym kept.1) (drops_pools test roots fewer st agree gone).1

-- of one subpool
module _ (roots fewer : FinMap name_cmp Root) (st new : Storage) (s : ℕ) (agree : Agree roots st) (now : IsStorage new) (gone : Keeps (get roots) (λ _ r. not (r.subpool == s)) (get fewer)) (all : ReleaseAll st s new) where
  pub subpool_agrees : Agree fewer new
  subpool_agrees = still_agree (λ t. t == s) roots fewer st new agree now gone all.regions all.held all.bytes

  pub subpool_pools : Keeps (get (pools_of roots st)) (λ _ p. not (p.subpool == s)) (get (pools_of fewer new))
  subpool_pools = pools_gone (λ t. t == s) roots fewer st new agree now gone all.regions all.held all.bytes

  pub emptied : (o : Owners) → Empties (machine_state roots st o) s (machine_state fewer new o)
  emptied o = record {
    drops = drops_seen st new o o (pools_of roots st) (pools_of fewer new) (λ u. u == s) agree.parts.storage now (stands roots st o agree) (stands fewer new o subpool_agrees) all.held all.bytes subpool_pools all.regions;
    owners = refl;
  }

-- at the start of a step there are no pools
no_pools : (st : Storage) → pools_of empty st ≡ empty
no_pools st =
    same_map name_cmp_total name_cmp-IsAntisymmetric (pools_of empty st) empty
    (λ n. get-pools_of empty st n ∙ ap (option_map (pool_of (byte_of st))) (get-empty name_cmp n) ∙ sym (get-empty name_cmp n))

pub start_machine : (card : CardValue) → machine_state empty (record { regions = regions_of card; held = empty; bytes = empty }) (first_owners card.name card.residence) ≡ start card
start_machine card = ap (state_of (record { regions = regions_of card; held = empty; bytes = empty }) (first_owners card.name card.residence)) (no_pools (record { regions = regions_of card; held = empty; bytes = empty })) ∙ start_seen card
