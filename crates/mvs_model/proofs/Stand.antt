-- The parts of the pools in storage, and in the state that it is.
use Rattle.std.proofs.Common.{◌≡◌, ◌≢◌, ℕ, ◌/◌, ◌≤◌, Bool, true, false, cond, map, Option, Some, None, refl, sym, ap, ◌∙◌, arith, is_some, ◌||◌, Contains, option_map}
use Rattle.std.proofs.lemmas.Map.Views.{Contains-from_any}
use Rattle.std.specs.FinMap.{FinMap, get, keys, contains_key-keys, nat_cmp-IsAntisymmetric}
use Rattle.std.specs.FinSet as set
use Rattle.std.proofs.lemmas.Bool.{false_from_ne_true}
use Rattle.std.proofs.lemmas.Bool.Decides.{nat_tests}
use Rattle.std.proofs.lemmas.Grind.{common_steps}
use Rattle.mvs_model.proofs.Types.{Name}
use Rattle.mvs_model.specs.Name.{name_cmp}
use Rattle.mvs_model.specs.Finite.{has}
use Rattle.mvs_model.specs.Storage.{Storage, holder as held_by, IsStorage, IsWhole, HeldBy, Covers}
use Rattle.mvs_model.specs.Owners.{Owners}
use Rattle.mvs_model.specs.Pools.{Pool, Part, part_length, IsCell, in_parts, cell_at}
use Rattle.mvs_model.specs.State.{pooled, subpool_in, is_plain, in_cell, granted}
use Rattle.mvs_model.specs.View.{in_pools, holding, past_regions, without_bytes, state_of}
use Rattle.mvs_model.specs.Changes.{Misses, Disjoint}
use Rattle.mvs_model.specs.WellFormed.{Apart}
use Rattle.mvs_model.proofs.Orders.{same_name_is}
use Rattle.mvs_model.proofs.Elements.{any_found, any_from}
use Rattle.mvs_model.proofs.Tables.{get-table_all}
use Rattle.mvs_model.proofs.Made.{get-retained}
use Rattle.mvs_model.proofs.CellPlaces.{has_is, cell_inside}
use Rattle.mvs_model.proofs.TakenCells.{in_cell_is, part_found, part_from}
use Rattle.mvs_model.proofs.Tests.{false_true, none_some}

-- a doubleword in a part of a pool
pub pooled_found : (pools : FinMap name_cmp Pool) (d : ℕ) → in_pools pools d ≡ true → (name : Name) × (pool : Pool) × (get pools name ≡ Some pool) × (in_parts pool d ≡ true)
pooled_found pools d e = let f = any_found (λ name. has (λ pool. in_parts pool d) (get pools name)) (keys pools) e in at f.0 (get pools f.0) refl f.2 where
  at : (name : Name) (o : Option Pool) → get pools name ≡ o → has (λ pool. in_parts pool d) o ≡ true → (n : Name) × (pool : Pool) × (get pools n ≡ Some pool) × (in_parts pool d ≡ true)
  at name None is h = false_true h
  at name (Some pool) is h = (name, pool, is, h)

pub pooled_from : (pools : FinMap name_cmp Pool) (d : ℕ) (name : Name) (pool : Pool) → get pools name ≡ Some pool → in_parts pool d ≡ true → in_pools pools d ≡ true
pooled_from pools d name pool is e =
    any_from (λ n. has (λ q. in_parts q d) (get pools n)) (keys pools) name
    (Contains-from_any same_name_is name (keys pools) (sym (contains_key-keys pools name) ∙ ap is_some is))
    (ap (has (λ q. in_parts q d)) is ∙ e)

-- Each part of a pool is of whole doublewords, as long as its cells ask, and held by the pool's subpool; the parts do not
-- overlap, and a taken cell is a cell.
pub record Stand (st : Storage) (pools : FinMap name_cmp Pool) : Type 0 where
  pub whole : (name : Name) (pool : Pool) (part : Part) → get pools name ≡ Some pool → Contains pool.parts part → IsWhole part.place
  pub length : (name : Name) (pool : Pool) (part : Part) → get pools name ≡ Some pool → Contains pool.parts part → part.place.len ≡ part_length pool.cell_size part.count
  pub some : (name : Name) (pool : Pool) (part : Part) → get pools name ≡ Some pool → Contains pool.parts part → 1 ≤ part.count
  pub held : (name : Name) (pool : Pool) (part : Part) → get pools name ≡ Some pool → Contains pool.parts part → HeldBy st pool.subpool part.place
  pub within : (name : Name) (pool : Pool) → get pools name ≡ Some pool → Disjoint (map (λ part. part.place) pool.parts)
  pub between : (m n : Name) (p q : Pool) (a b : Part) → m ≢ n → get pools m ≡ Some p → get pools n ≡ Some q → Contains p.parts a → Contains q.parts b → Misses a.place b.place
  pub cells : (name : Name) (pool : Pool) (c : ℕ) → get pools name ≡ Some pool → set.contains pool.taken c ≡ true → IsCell pool c

module _ (st : Storage) (o : Owners) (pools : FinMap name_cmp Pool) (is : IsStorage st) where
  beyond : (d : ℕ) → past_regions st.regions ≤ d → held_by st d ≡ None
  beyond d l = grind (arith, nat_tests)

  pub held_state : (d : ℕ) → get (state_of st o pools).held d ≡ holding st pools d
  held_state d = get-table_all (past_regions st.regions) (holding st pools) (λ k l. ap (option_map (λ s. record { subpool = s; pooled = in_pools pools k })) (beyond k l)) d

  pub bytes_state : (a : ℕ) → get (state_of st o pools).bytes a ≡ cond (granted (state_of st o pools) a) (get st.bytes a) None
  bytes_state a = get-retained nat_cmp-IsAntisymmetric st.bytes (granted (without_bytes st o pools)) a

  -- what holds a doubleword, with or without pools
  subpool_held : (b : Bool) (v : Option ℕ) → subpool_in (option_map (λ s. record { subpool = s; pooled = b }) v) ≡ v
  subpool_held b v = grind (arith, common_steps)

  pub holder_state : (d : ℕ) → subpool_in (get (state_of st o pools).held d) ≡ held_by st d
  holder_state d = ap subpool_in (held_state d) ∙ subpool_held (in_pools pools d) (held_by st d)

  -- a part of a state stands in storage
  pub stand : Apart (state_of st o pools) → Stand st pools
  stand a = record {
    whole = λ name pool part e h. (a.parts name pool part e h).whole;
    length = λ name pool part e h. (a.parts name pool part e h).length;
    some = λ name pool part e h. (a.parts name pool part e h).some;
    held = λ name pool part e h d c. sym (holder_state d) ∙ ap subpool_in ((a.parts name pool part e h).held d c);
    within = a.within;
    between = a.between;
    cells = a.cells;
  }

  module _ (s : Stand st pools) where
    part_pooled : (name : Name) (pool : Pool) (part : Part) → get pools name ≡ Some pool → Contains pool.parts part → (d : ℕ) → Covers part.place d → get (state_of st o pools).held d ≡ Some (pooled pool.subpool)
    part_pooled name pool part e h d c =
        held_state d ∙ (λ i. option_map (λ u. record { subpool = u; pooled = pooled_from pools d name pool e (part_from pool d part h c) i }) (s.held name pool part e h d c i))

    all_covered : (d u : ℕ) → get (state_of st o pools).held d ≡ Some (pooled u) → (name : Name) × (pool : Pool) × (get pools name ≡ Some pool) × (pool.subpool ≡ u) × (in_parts pool d ≡ true)
    all_covered d u e = at (held_by st d) (in_pools pools d) refl refl (sym (held_state d) ∙ e) where
      at : (v : Option ℕ) (b : Bool) → held_by st d ≡ v → in_pools pools d ≡ b → option_map (λ s. record { subpool = s; pooled = b }) v ≡ Some (pooled u)
          → (name : Name) × (pool : Pool) × (get pools name ≡ Some pool) × (pool.subpool ≡ u) × (in_parts pool d ≡ true)
      at None b ev eb f = none_some f
      at (Some t) false ev eb f = false_true (ap (λ h. has (λ k. k.pooled) h) f)
      at (Some t) true ev eb f =
          let p = pooled_found pools d eb in
          let part = part_found p.1 d p.3 in
          let same : Some p.1.subpool ≡ Some u = sym (s.held p.0 p.1 part.0 p.2 part.1 d part.2) ∙ ev ∙ ap subpool_in f in
          (p.0, p.1, p.2, (let k : p.1.subpool ≡ u = cc in k), p.3)

    -- an address in a taken cell is held
    cell_held : (a : ℕ) → in_cell (state_of st o pools) a ≡ true → is_some (held_by st (a / 8)) ≡ true
    cell_held a e =
        let i = in_cell_is (state_of st o pools) a e in
        let c = s.cells i.name i.pool i.first i.is_pool i.taken in
        let h = has_is (cell_at i.pool i.first) a i.inside in
        ap is_some (s.held i.name i.pool c.0 i.is_pool c.1 (a / 8) (cell_inside i.pool.cell_size c.0 i.first a (s.length i.name i.pool c.0 i.is_pool c.1) c.2 h.0 h.1))

    plain_held : (d : ℕ) → is_plain (get (state_of st o pools).held d) ≡ true → is_some (held_by st d) ≡ true
    plain_held d e = at (held_by st d) (in_pools pools d) (ap is_plain (sym (held_state d)) ∙ e) where
      at : (v : Option ℕ) (b : Bool) → is_plain (option_map (λ s. record { subpool = s; pooled = b }) v) ≡ true → is_some v ≡ true
      at None b f = false_true f
      at (Some t) b f = refl

    pub granted_held : (a : ℕ) → granted (state_of st o pools) a ≡ true → is_some (held_by st (a / 8)) ≡ true
    granted_held a e = at (is_plain (get (state_of st o pools).held (a / 8))) (in_cell (state_of st o pools) a) (plain_held (a / 8)) (cell_held a) e where
      at : (b c : Bool) → (b ≡ true → is_some (held_by st (a / 8)) ≡ true) → (c ≡ true → is_some (held_by st (a / 8)) ≡ true) → (b || c) ≡ true → is_some (held_by st (a / 8)) ≡ true
      at true c f g h = f refl
      at false c f g h = g h

    -- what stands in storage keeps apart in the state
    pub apart_from : Apart (state_of st o pools)
    apart_from = record {
      parts = λ name pool part e h. record { whole = s.whole name pool part e h; length = s.length name pool part e h; some = s.some name pool part e h; held = part_pooled name pool part e h };
      within = s.within;
      between = s.between;
      covered = all_covered;
      cells = s.cells;
      bytes = λ a. ap is_some (bytes_state a) ∙ at (granted (state_of st o pools) a) (get st.bytes a) (λ e. is.bytes a ∙ granted_held a e);
    } where
      at : (b : Bool) (v : Option ℕ) → (b ≡ true → is_some v ≡ true) → is_some (cond b v None) ≡ b
      at true v h = h refl
      at false v h = refl

-- a doubleword in a part of a pool is held by the pool's subpool
pub pooled_held : (st : Storage) (pools : FinMap name_cmp Pool) → Stand st pools → (d : ℕ) → in_pools pools d ≡ true → (pool : Pool) × (held_by st d ≡ Some pool.subpool)
pooled_held st pools s d e =
    let p = pooled_found pools d e in
    let part = part_found p.1 d p.3 in
    (p.1, s.held p.0 p.1 part.0 p.2 part.1 d part.2)

pub part_of_pool : (st : Storage) (pools : FinMap name_cmp Pool) → Stand st pools → (d : ℕ) (name : Name) (pool : Pool) → get pools name ≡ Some pool → in_parts pool d ≡ true → held_by st d ≡ Some pool.subpool
part_of_pool st pools s d name pool is e = let part = part_found pool d e in s.held name pool part.0 is part.1 d part.2

-- so what is free is in no part
pub free_clear : (st : Storage) (pools : FinMap name_cmp Pool) → Stand st pools → (d : ℕ) → held_by st d ≡ None → in_pools pools d ≡ false
free_clear st pools s d free = false_from_ne_true (in_pools pools d) (λ e. let h = pooled_held st pools s d e in none_some (sym free ∙ h.1))
