-- A state of the machine is the one that storage and the pools are.
use Rattle.std.proofs.Common.{◌≡◌, ℕ, true, cond, Option, Some, None, refl, sym, ap, ◌∙◌}
use Rattle.std.specs.Prelude.{is_some}
use Rattle.std.specs.List.{list_any}
use Rattle.std.specs.FinMap.{FinMap, get}
use Rattle.mvs_model.specs.declared.name.Name.{Name}
use Rattle.mvs_model.specs.Name.{name_cmp}
use Rattle.mvs_model.specs.Storage.{Storage, IsStorage, covers}
use Rattle.mvs_model.specs.Owners.{Owners}
use Rattle.mvs_model.specs.Pools.{Pool}
use Rattle.mvs_model.specs.State.{State, granted}
use Rattle.mvs_model.specs.View.{in_pools, holding, state_of}
use Rattle.mvs_model.proofs.Tables.{same_maps}
use Rattle.mvs_model.proofs.TakenCells.{same_test}
use Rattle.mvs_model.proofs.PartsFreed.{same_granted}
use Rattle.cell_pool.specs.Layout.{byte_of}
use Rattle.cell_pool.specs.Roots.{Root, parts_of, pool_of, pools_of}
use Rattle.mvs_model.proofs.Stand.{held_state, bytes_state, pooled_found, pooled_from}
use Rattle.cell_pool.proofs.Frame.{root_found, pool_from}

module _ (st : Storage) (o : Owners) (pools : FinMap name_cmp Pool) (is : IsStorage st) (one : State) (keeps_bytes : (a : ℕ) → is_some (get one.bytes a) ≡ granted one a)
    (regions : one.regions ≡ st.regions) (owners : one.owners ≡ o) (same : one.pools ≡ pools) (held : (d : ℕ) → get one.held d ≡ holding st pools d)
    (bytes : (a b : ℕ) → get one.bytes a ≡ Some b → get st.bytes a ≡ Some b) where
  same_held : one.held ≡ (state_of st o pools).held
  same_held = same_maps _ _ (λ d. held d ∙ sym (held_state st o pools is d))

  grants : (a : ℕ) → granted (state_of st o pools) a ≡ granted one a
  grants a = same_granted one (state_of st o pools) a (sym same_held) (sym same)

  same_bytes : one.bytes ≡ (state_of st o pools).bytes
  same_bytes = same_maps _ _ (λ a. at a (get one.bytes a) refl (keeps_bytes a ∙ sym (grants a)) ∙ sym (bytes_state st o pools is a)) where
    at : (a : ℕ) (v : Option ℕ) → get one.bytes a ≡ v → is_some (get one.bytes a) ≡ granted (state_of st o pools) a → get one.bytes a ≡ cond (granted (state_of st o pools) a) (get st.bytes a) None
    at a None e f = e ∙ ap (λ b. cond b (get st.bytes a) None) (sym (ap is_some e) ∙ f)
    at a (Some b) e f = e ∙ sym (bytes a b e) ∙ ap (λ c. cond c (get st.bytes a) None) (sym (ap is_some e) ∙ f)

  pub same_state : one ≡ state_of st o pools
  same_state = λ i. record { regions = regions i; held = same_held i; bytes = same_bytes i; owners = owners i; pools = same i }

-- what lies in a part of a pool, where the parts are the same
module _ (roots : FinMap name_cmp Root) (old new : Storage) (same : (name : Name) (r : Root) → get roots name ≡ Some r → parts_of (byte_of new) r ≡ parts_of (byte_of old) r) where
  pub same_in_pools : (d : ℕ) → in_pools (pools_of roots new) d ≡ in_pools (pools_of roots old) d
  same_in_pools d = same_test _ _ back to where
    to : in_pools (pools_of roots old) d ≡ true → in_pools (pools_of roots new) d ≡ true
    to e =
        let f = pooled_found (pools_of roots old) d e in
        let r = root_found roots old f.0 f.1 f.2 in
        pooled_from (pools_of roots new) d f.0 (pool_of (byte_of new) r.0) (pool_from roots new f.0 r.0 r.1) (ap (list_any (λ part. covers part.place d)) (same f.0 r.0 r.1 ∙ ap (λ p. p.parts) r.2) ∙ f.3)

    back : in_pools (pools_of roots new) d ≡ true → in_pools (pools_of roots old) d ≡ true
    back e =
        let f = pooled_found (pools_of roots new) d e in
        let r = root_found roots new f.0 f.1 f.2 in
        pooled_from (pools_of roots old) d f.0 (pool_of (byte_of old) r.0) (pool_from roots old f.0 r.0 r.1) (ap (list_any (λ part. covers part.place d)) (sym (same f.0 r.0 r.1) ∙ ap (λ p. p.parts) r.2) ∙ f.3)
