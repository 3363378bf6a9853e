-- A pool with a part more, in storage and in the machine.
use Rattle.std.proofs.Common.{◌≡◌, ◌≢◌, ℕ, ◌<◌, ◌≤◌, inl, inr, Bool, true, false, cond, [], ◌∷◌, Some, None, refl, sym, ap, ◌∙◌, subst, arith}
use Rattle.std.specs.Option.{option_map}
use Rattle.std.proofs.lemmas.List.Elements.{Contains-append_left, Contains-append_right, Contains-append_cases}
use Rattle.std.specs.FinMap.{FinMap, get}
use Rattle.mvs_model.specs.declared.name.Name.{Name}
use Rattle.mvs_model.specs.Name.{name_cmp, same_name}
use Rattle.mvs_model.specs.Place.{PlaceValue}
use Rattle.mvs_model.specs.Storage.{Storage, holder as held_by, IsStorage, Chosen, covers, Covers}
use Rattle.mvs_model.specs.Owners.{Owners}
use Rattle.mvs_model.specs.Pools.{Pool, part_want, in_parts}
use Rattle.mvs_model.specs.State.{State, pooled, granted}
use Rattle.mvs_model.specs.View.{in_pools, holding, state_of}
use Rattle.mvs_model.specs.Changes.{Extends, with_part}
use Rattle.mvs_model.specs.WellFormed.{Apart}
use Rattle.mvs_model.proofs.Elements.{first_or_later}
use Rattle.mvs_model.proofs.Orders.{same_name_is, same_name_self, names_differ, differs}
use Rattle.mvs_model.proofs.StorageLaws.{covers_is, covers_from}
use Rattle.mvs_model.proofs.TakenCells.{same_test, part_found, part_from}
use Rattle.mvs_model.proofs.PartsGrown.{Stands, grown_apart}
use Rattle.cell_pool.specs.Roots.{Root, pools_of}
use Rattle.cell_pool.specs.Agree.{AgreeParts}
use Rattle.mvs_model.proofs.Stand.{held_state, bytes_state, holder_state, pooled_found, pooled_from}
use Rattle.cell_pool.proofs.SameState.{same_state}

module _ (roots : FinMap name_cmp Root) (old : Storage) (agree : AgreeParts roots old) (name : Name) (pool : Pool) (count : ℕ) (p : PlaceValue) (new_roots : FinMap name_cmp Root) (new : Storage) (is : IsStorage new) (regions : new.regions ≡ old.regions)
    (chosen : Chosen old.regions (held_by old) pool.subpool (part_want pool.cell_size count pool.side) p) (held : (d : ℕ) → get new.held d ≡ cond (covers p d) (Some pool.subpool) (get old.held d))
    (pools : (n : Name) → get (pools_of new_roots new) n ≡ cond (same_name n name) (Some (with_part pool count p)) (get (pools_of roots old) n)) (some : 1 ≤ count) (o after : Owners) (stands : Stands (state_of old o (pools_of roots old)) name pool)
    (bytes : (x : ℕ) → granted (state_of old o (pools_of roots old)) x ≡ true → get new.bytes x ≡ get old.bytes x) where
  here : get (pools_of new_roots new) name ≡ Some (with_part pool count p)
  here = pools name ∙ ap (λ b. cond b (Some (with_part pool count p)) (get (pools_of roots old) name)) (same_name_self name)

  else_where : (n : Name) → n ≢ name → get (pools_of new_roots new) n ≡ get (pools_of roots old) n
  else_where n ne = pools n ∙ ap (λ b. cond b (Some (with_part pool count p)) (get (pools_of roots old) n)) (names_differ n name ne)

  -- what lies in a part now
  in_new : (d : ℕ) → covers p d ≡ true → in_pools (pools_of new_roots new) d ≡ true
  in_new d e = pooled_from (pools_of new_roots new) d name (with_part pool count p) here
      (part_from (with_part pool count p) d (record { place = p; count = count }) (Contains-append_right pool.parts (record { place = p; count = count } ∷ []) (record { place = p; count = count }) (0, omega arith, refl)) (covers_is p d e))

  in_old : (d : ℕ) → covers p d ≡ false → in_pools (pools_of new_roots new) d ≡ in_pools (pools_of roots old) d
  in_old d e = same_test _ _ back to where
    to : in_pools (pools_of roots old) d ≡ true → in_pools (pools_of new_roots new) d ≡ true
    to f = let g = pooled_found (pools_of roots old) d f in by g.0 (same_name g.0 name) refl g.1 g.2 g.3 where
      by : (n : Name) (b : Bool) → same_name n name ≡ b → (q : Pool) → get (pools_of roots old) n ≡ Some q → in_parts q d ≡ true → in_pools (pools_of new_roots new) d ≡ true
      by n true s q h i =
          let same : q ≡ pool = stands.only q (ap (get (pools_of roots old)) (sym (same_name_is n name s)) ∙ h) in
          let x = part_found pool d (ap (λ t. in_parts t d) (sym same) ∙ i) in
          pooled_from (pools_of new_roots new) d name (with_part pool count p) here (part_from (with_part pool count p) d x.0 (Contains-append_left pool.parts (record { place = p; count = count } ∷ []) x.0 x.1) x.2)
      by n false s q h i = pooled_from (pools_of new_roots new) d n q (else_where n (differs n name s) ∙ h) i

    not_new : Covers p d → ⊥
    not_new c = let g : true ≡ false = sym (covers_from p d c) ∙ e in absurd (cc)

    back : in_pools (pools_of new_roots new) d ≡ true → in_pools (pools_of roots old) d ≡ true
    back f = let g = pooled_found (pools_of new_roots new) d f in by g.0 (same_name g.0 name) refl g.1 g.2 g.3 where
      by : (n : Name) (b : Bool) → same_name n name ≡ b → (q : Pool) → get (pools_of new_roots new) n ≡ Some q → in_parts q d ≡ true → in_pools (pools_of roots old) d ≡ true
      by n true s q h i =
          let is_it : Some q ≡ Some (with_part pool count p) = sym h ∙ ap (get (pools_of new_roots new)) (same_name_is n name s) ∙ here in
          let same : q ≡ with_part pool count p = cc in
          let x = part_found (with_part pool count p) d (ap (λ t. in_parts t d) (sym same) ∙ i) in
          elim (Contains-append_cases pool.parts (record { place = p; count = count } ∷ []) x.0 x.1) [
            | inl m ↦ pooled_from (pools_of roots old) d name pool (stands.parts x.0 m) (part_from pool d x.0 m x.2)
            | inr m ↦ elim (first_or_later x.0 (record { place = p; count = count }) [] m) [
              | inl t ↦ absurd (not_new (subst (λ z. Covers z.place d) (sym t) x.2))
              | inr t ↦ absurd (let l : t.0 < 0 = t.1 in omega arith)
            ]
          ]
      by n false s q h i = pooled_from (pools_of roots old) d n q (sym (else_where n (differs n name s)) ∙ h) i

  holding_is : (d : ℕ) → holding new (pools_of new_roots new) d ≡ cond (covers p d) (Some (pooled pool.subpool)) (holding old (pools_of roots old) d)
  holding_is d = by (covers p d) refl (held d) where
    by : (b : Bool) → covers p d ≡ b → get new.held d ≡ cond b (Some pool.subpool) (get old.held d) → option_map (λ s. record { subpool = s; pooled = in_pools (pools_of new_roots new) d }) (get new.held d) ≡ cond b (Some (pooled pool.subpool)) (holding old (pools_of roots old) d)
    by true e f = λ k. option_map (λ s. record { subpool = s; pooled = in_new d e k }) (f k)
    by false e f = λ k. option_map (λ s. record { subpool = s; pooled = in_old d e k }) (f k)

  grown : State
  grown = record (state_of new after (pools_of new_roots new)) { bytes = (state_of old o (pools_of roots old)).bytes }

  grows : Extends (state_of old o (pools_of roots old)) name pool count p after grown
  unfolding grown
  grows = record {
    chosen = subst (λ h. Chosen old.regions h pool.subpool (part_want pool.cell_size count pool.side) p) (λ k d. sym (holder_state old o (pools_of roots old) agree.storage d) k) chosen;
    regions = regions;
    held = λ d. held_state new after (pools_of new_roots new) is d ∙ holding_is d ∙ ap (cond (covers p d) (Some (pooled pool.subpool))) (sym (held_state old o (pools_of roots old) agree.storage d));
    bytes = refl;
    owners_are = refl;
    pools = pools;
  }

  grown_is_apart : Apart grown
  grown_is_apart = grown_apart (state_of old o (pools_of roots old)) grown name pool count p after some stands grows (agree.apart o)

  grown_bytes : (x b : ℕ) → get grown.bytes x ≡ Some b → get new.bytes x ≡ Some b
  unfolding grown
  grown_bytes x b e = here' (granted (state_of old o (pools_of roots old)) x) refl (sym (bytes_state old o (pools_of roots old) agree.storage x) ∙ e) where
    here' : (g : Bool) → granted (state_of old o (pools_of roots old)) x ≡ g → cond g (get old.bytes x) None ≡ Some b → get new.bytes x ≡ Some b
    here' true f h = bytes x f ∙ h
    here' false f h = absurd (let k : None ≡ Some b = h in cc)

  grown_regions : grown.regions ≡ new.regions
  unfolding grown
  grown_regions = refl

  grown_owners : grown.owners ≡ after
  unfolding grown
  grown_owners = refl

  grown_pools : grown.pools ≡ pools_of new_roots new
  unfolding grown
  grown_pools = refl

  grown_held : (d : ℕ) → get grown.held d ≡ holding new (pools_of new_roots new) d
  unfolding grown
  grown_held d = held_state new after (pools_of new_roots new) is d

  grown_is : grown ≡ state_of new after (pools_of new_roots new)
  grown_is = same_state new after (pools_of new_roots new) is grown grown_is_apart.bytes grown_regions grown_owners grown_pools grown_held grown_bytes

  pub extends_seen : Extends (state_of old o (pools_of roots old)) name pool count p after (state_of new after (pools_of new_roots new))
  extends_seen = subst (Extends (state_of old o (pools_of roots old)) name pool count p after) grown_is grows

  pub apart_grown : Apart (state_of new after (pools_of new_roots new))
  apart_grown = subst Apart grown_is grown_is_apart
