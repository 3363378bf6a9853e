-- Where a cell is taken, and a part put, whose address is hinted.
use Rattle.std.proofs.Common.{◌≡◌, ℕ, ◌+◌, ◌*◌, ◌<◌, inl, inr, Option, Some, sym, ap, ◌∙◌, subst, arith}
use Rattle.std.specs.FinMap.{FinMap, get}
use Rattle.mvs_model.specs.declared.name.Name.{Name}
use Rattle.mvs_model.specs.Name.{name_cmp}
use Rattle.mvs_model.specs.Place.{PlaceValue}
use Rattle.mvs_model.specs.Storage.{Chosen, Regions, Storage, holder}
use Rattle.mvs_model.specs.Owners.{Owners}
use Rattle.mvs_model.specs.Pools.{Pool, IsFreeCell, part_want}
use Rattle.mvs_model.specs.View.{state_of}
use Rattle.mvs_model.proofs.Stand.{holder_state}
use Rattle.cell_pool.specs.Layout.{byte_of, head_length}
use Rattle.cell_pool.specs.Roots.{Root, pool_of, pools_of}
use Rattle.cell_pool.specs.Agree.{AgreeParts}
use Rattle.cell_pool.specs.Extended.{MayAdd}
use Rattle.cell_pool.specs.Hints.{CellFollowsHint, first_in}
use Rattle.cell_pool.proofs.Frame.{pool_from}

-- where the first cell of a part is
pub is_first_after : (pool : Pool) (count : ℕ) (h : ℕ → Option ℕ) (regions : Regions) (q : PlaceValue) → Chosen regions h pool.subpool (part_want pool.cell_size count pool.side) q → first_in pool count q ≡ q.addr + head_length count
is_first_after pool count h regions q chosen = let l = chosen.length.least in let m = chosen.length.most in omega arith

module _ (roots : FinMap name_cmp Root) (st : Storage) (agree : AgreeParts roots st) (name : Name) (r : Root) (is : get roots name ≡ Some r) (o : Owners) (a : ℕ) (first : Option ℕ) (p : PlaceValue) where
  pool_is : (pool : Pool) → get (pools_of roots st) name ≡ Some pool → pool_of (byte_of st) r ≡ pool
  pool_is pool found = let e : Some (pool_of (byte_of st) r) ≡ Some pool = sym (pool_from roots st name r is) ∙ found in cc

  -- a free cell
  pub takes_free : (c : ℕ) → IsFreeCell (pool_of (byte_of st) r) c → (IsFreeCell (pool_of (byte_of st) r) a → p.addr ≡ a) → CellFollowsHint (state_of st o (pools_of roots st)) name a first p
  takes_free c free hint pool found (inl f) = hint (subst (λ q. IsFreeCell q a) (sym (pool_is pool found)) f)
  takes_free c free hint pool found (inr g) = absurd (g.0 c (subst (λ q. IsFreeCell q c) (pool_is pool found) free))

  -- a cell of a further part
  pub takes_further : ((c : ℕ) → IsFreeCell (pool_of (byte_of st) r) c → ⊥)
      → ((q : PlaceValue) (i : ℕ) → MayAdd st r q → first ≡ Some (q.addr + head_length r.secondary) → i < r.secondary → a ≡ q.addr + head_length r.secondary + i * r.cell_size → p.addr ≡ a) → CellFollowsHint (state_of st o (pools_of roots st)) name a first p
  takes_further none hint pool found (inl f) = absurd (none a (subst (λ q. IsFreeCell q a) (sym (pool_is pool found)) f))
  takes_further none hint pool found (inr g) =
      let same = pool_is pool found in
      let q = g.1.0 in
      let first = is_first_after pool pool.secondary _ _ q g.1.1 in
      hint q g.1.3.0
      (subst (λ (v : Pool). Chosen st.regions (holder st) v.subpool (part_want v.cell_size v.secondary v.side) q) (sym same)
      (subst (λ h. Chosen st.regions h pool.subpool (part_want pool.cell_size pool.secondary pool.side) q) (λ k d. holder_state st o (pools_of roots st) agree.storage d k) g.1.1))
      (g.1.2 ∙ ap Some (first ∙ ap (λ (v : Pool). q.addr + head_length v.secondary) (sym same))) (subst (λ (v : Pool). g.1.3.0 < v.secondary) (sym same) g.1.3.1)
      (g.1.3.2 ∙ (λ k. first k + g.1.3.0 * pool.cell_size) ∙ ap (λ (v : Pool). q.addr + head_length v.secondary + g.1.3.0 * v.cell_size) (sym same))
