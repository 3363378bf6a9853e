-- What is released from a store is released from the machine.
use Rattle.std.proofs.Common.{◌≡◌, ℕ, ◌/◌, Bool, true, false, cond, List, Option, Some, None, refl, sym, ap, ◌∙◌, not, ◌||◌, option_map, arith}
use Rattle.std.specs.List.{AllByRecursion}
use Rattle.std.specs.FinMap.{FinMap, get}
use Rattle.std.proofs.lemmas.Bool.{or_right, or_left}
use Rattle.std.proofs.lemmas.Bool.Decides.{nat_tests}
use Rattle.mvs_model.proofs.Types.{Name}
use Rattle.mvs_model.specs.Place.{PlaceValue}
use Rattle.mvs_model.specs.Name.{name_cmp}
use Rattle.mvs_model.specs.Finite.{Changes, Keeps, kept, has}
use Rattle.mvs_model.specs.Storage.{Storage, holder as held_by, IsStorage, IsWhole, HeldBy, Covers}
use Rattle.mvs_model.specs.Owners.{Owners}
use Rattle.mvs_model.specs.Pools.{Pool}
use Rattle.mvs_model.specs.State.{Holding, plain, subpool_in, is_plain, in_cell, granted}
use Rattle.mvs_model.specs.View.{in_pools, state_of}
use Rattle.mvs_model.specs.Changes.{any_covers, any_has, HeldPlain, Frees, Drops}
use Rattle.mvs_model.proofs.PartsFreed.{any_whole_has}
use Rattle.mvs_model.proofs.TakenCells.{in_cell_is, in_cell_from}
use Rattle.mvs_model.proofs.Seen.{held_as, granted_alike}
use Rattle.mvs_model.proofs.Stand.{Stand, held_state, bytes_state, granted_held, pooled_found, pooled_from, part_of_pool}
use Rattle.mvs_model.proofs.Tests.{false_true, none_some, kept_is, kept_passes}

-- what a subpool holds in the store outside of pools it holds so in the machine, and the other way round
pub held_plain : (st : Storage) (o : Owners) (pools : FinMap name_cmp Pool) (s : ℕ) (p : PlaceValue) → IsStorage st → HeldBy st s p → ((d : ℕ) → Covers p d → in_pools pools d ≡ false) → HeldPlain (state_of st o pools) s p
held_plain st o pools s p is h clear d c = held_state st o pools is d ∙ (λ i. option_map (held_as (clear d c i)) (h d c i))

pub plain_held : (st : Storage) (o : Owners) (pools : FinMap name_cmp Pool) (s : ℕ) (p : PlaceValue) → IsStorage st → HeldPlain (state_of st o pools) s p → HeldBy st s p
plain_held st o pools s p is h d c = back (held_by st d) (ap subpool_in (sym (held_state st o pools is d) ∙ h d c)) where
  back : (v : Option ℕ) → subpool_in (option_map (held_as (in_pools pools d)) v) ≡ Some s → v ≡ Some s
  back None e = e
  back (Some r) e = e

pub plain_clear : (st : Storage) (o : Owners) (pools : FinMap name_cmp Pool) (s : ℕ) (p : PlaceValue) → IsStorage st → HeldPlain (state_of st o pools) s p → (d : ℕ) → Covers p d → in_pools pools d ≡ false
plain_clear st o pools s p is h d c = at (held_by st d) (sym (held_state st o pools is d) ∙ h d c) where
  at : (v : Option ℕ) → option_map (held_as (in_pools pools d)) v ≡ Some (plain s) → in_pools pools d ≡ false
  at None e = none_some e
  at (Some r) e = out (ap (has (λ h. h.pooled)) e) where
    out : has (λ (h : Holding). h.pooled) (Some (held_as (in_pools pools d) r)) ≡ false → in_pools pools d ≡ false
    out e = e

-- places that are freed in the store are freed in the machine
module _ (st new : Storage) (o : Owners) (pools : FinMap name_cmp Pool) (ps : List PlaceValue) (is : IsStorage st) (now : IsStorage new) (whole : AllByRecursion IsWhole ps) where
  pub frees_seen : new.regions ≡ st.regions → Changes (get st.held) (any_covers ps) None (get new.held) → Changes (get st.bytes) (any_has ps) None (get new.bytes) → Frees (state_of st o pools) ps (state_of new o pools)
  frees_seen regions held bytes = record {
    regions = regions;
    held = held_now;
    bytes = λ a. bytes_state new o pools now a ∙ ap (λ v. cond (granted (state_of new o pools) a) v None) (bytes a) ∙ at a (any_covers ps (a / 8)) refl (any_whole_has ps a whole);
    owners = refl;
    pools = refl;
  } where
    pick : (b c : Bool) (v : Option ℕ) → option_map (held_as b) (cond c None v) ≡ cond c None (option_map (held_as b) v)
    pick b true v = refl
    pick b false v = refl

    held_now : (d : ℕ) → get (state_of new o pools).held d ≡ cond (any_covers ps d) None (get (state_of st o pools).held d)
    held_now d = held_state new o pools now d ∙ ap (option_map (held_as (in_pools pools d))) (held d) ∙ pick (in_pools pools d) (any_covers ps d) (held_by st d) ∙ ap (cond (any_covers ps d) None) (sym (held_state st o pools is d))

    gone : {X : Type 0} (b : Bool) → cond {A = Option X} b None None ≡ None
    gone true = refl
    gone false = refl

    at : (a : ℕ) (c : Bool) → any_covers ps (a / 8) ≡ c → any_has ps a ≡ any_covers ps (a / 8)
        → cond (granted (state_of new o pools) a) (cond (any_has ps a) None (get st.bytes a)) None ≡ cond (any_has ps a) None (get (state_of st o pools).bytes a)
    at a true e h = let f : any_has ps a ≡ true = h ∙ e in rw (f) (gone (granted (state_of new o pools) a))
    at a false e h =
        let f : any_has ps a ≡ false = h ∙ e in
        let k : get (state_of new o pools).held (a / 8) ≡ get (state_of st o pools).held (a / 8) = held_now (a / 8) ∙ ap (λ b. cond b None (get (state_of st o pools).held (a / 8))) e in
        rw (f) (ap (λ b. cond b (get st.bytes a) None) (granted_alike st new o o pools a k) ∙ sym (bytes_state st o pools is a))

-- subpools that pass a test go, with their pools
module _ (st new : Storage) (o after : Owners) (pools fewer : FinMap name_cmp Pool) (test : ℕ → Bool) (is : IsStorage st) (now : IsStorage new) (stand : Stand st pools) (stands : Stand new fewer)
    (held : Keeps (get st.held) (λ _ t. not (test t)) (get new.held)) (bytes : Changes (get st.bytes) (λ a. has test (held_by st (a / 8))) None (get new.bytes))
    (less : Keeps (get pools) (λ _ p. not (test p.subpool)) (get fewer)) where
  was : (name : Name) (pool : Pool) → get fewer name ≡ Some pool → get pools name ≡ Some pool
  was name pool e = (kept_is (λ p. not (test p.subpool)) (get pools name) pool (sym (less name) ∙ e)).0

  same_in : (d t : ℕ) → held_by st d ≡ Some t → test t ≡ false → in_pools fewer d ≡ in_pools pools d
  same_in d t is_held stays = grind (arith, nat_tests, was, part_of_pool, pooled_found, pooled_from)

  held_now : (d : ℕ) → get (state_of new after fewer).held d ≡ kept (λ h. not (test h.subpool)) (get (state_of st o pools).held d)
  held_now d = held_state new after fewer now d ∙ ap (option_map (held_as (in_pools fewer d))) (held d) ∙ at (held_by st d) refl ∙ ap (kept (λ h. not (test h.subpool))) (sym (held_state st o pools is d)) where
    by : (t : ℕ) (b : Bool) → held_by st d ≡ Some t → test t ≡ b → option_map (held_as (in_pools fewer d)) (cond (not b) (Some t) None) ≡ cond (not b) (Some (held_as (in_pools pools d) t)) None
    by t true e f = refl
    by t false e f = ap (λ b. Some (held_as b t)) (same_in d t e f)

    at : (v : Option ℕ) → held_by st d ≡ v → option_map (held_as (in_pools fewer d)) (kept (λ t. not (test t)) v) ≡ kept (λ h. not (test h.subpool)) (option_map (held_as (in_pools pools d)) v)
    at None e = refl
    at (Some t) e = by t (test t) e refl

  -- what may be read then might be read before, and was not touched
  still : (a : ℕ) → granted (state_of new after fewer) a ≡ true → granted (state_of st o pools) a ≡ true
  still a e = at (is_plain (get (state_of new after fewer).held (a / 8))) (in_cell (state_of new after fewer) a) refl refl e where
    plain_was : (v : Option Holding) → is_plain (kept (λ h. not (test h.subpool)) v) ≡ true → is_plain v ≡ true
    plain_was v e = kept_passes is_plain refl (λ h. not (test h.subpool)) v e

    at : (b c : Bool) → is_plain (get (state_of new after fewer).held (a / 8)) ≡ b → in_cell (state_of new after fewer) a ≡ c → (b || c) ≡ true → granted (state_of st o pools) a ≡ true
    at true c eb ec f = or_left _ _ (plain_was (get (state_of st o pools).held (a / 8)) (sym (ap is_plain (held_now (a / 8))) ∙ eb))
    at false true eb ec f = or_right _ _ (
        let i = in_cell_is (state_of new after fewer) a ec in
        in_cell_from (state_of st o pools) a (record { name = i.name; pool = i.pool; first = i.first; is_pool = was i.name i.pool i.is_pool; taken = i.taken; inside = i.inside })
        )
    at false false eb ec f = false_true f

  untouched : (a : ℕ) → granted (state_of new after fewer) a ≡ true → get new.bytes a ≡ get st.bytes a
  untouched a e = grind (arith, nat_tests, granted_held)

  pub drops_seen : new.regions ≡ st.regions → Drops (state_of st o pools) test (state_of new after fewer)
  drops_seen regions = grind (arith, nat_tests, held_now, still, untouched, bytes_state)
