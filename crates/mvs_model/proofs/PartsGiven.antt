-- A cell that is given back leaves the parts of pools apart.
use Rattle.std.proofs.Common.{◌≡◌, ℕ, ◌/◌, inl, inr, Bool, true, false, cond, Some, None, refl, sym, ap, ◌∙◌, subst, is_some, not, ◌&&◌, ◌||◌, nat_cmp}
use Rattle.std.specs.Ordering.{eq_by_cmp}
use Rattle.std.specs.Cmp.{nat_cmp_total}
use Rattle.std.specs.FinMap.{get}
use Rattle.std.specs.FinSet as set
use Rattle.std.proofs.lemmas.Bool.{false_from_ne_true, and_from, not_from_false, and_parts, not-true}
use Rattle.mvs_model.proofs.Types.{Name}
use Rattle.mvs_model.specs.Storage.{has_address}
use Rattle.mvs_model.specs.Pools.{Pool, IsCellOf, cell_at}
use Rattle.mvs_model.specs.State.{State, is_plain, in_cell}
use Rattle.mvs_model.specs.Changes.{GivesCell}
use Rattle.mvs_model.specs.WellFormed.{Apart}
use Rattle.mvs_model.proofs.CellPlaces.{has_is, one_cell}
use Rattle.mvs_model.proofs.TakenCells.{InCell, in_cell_is, same_cells, one_part, cell_part, cell_pooled}
use Rattle.mvs_model.proofs.PoolPut.{put_here, put_cases, kept_cases}
use Rattle.mvs_model.proofs.PartsFewer.{BytesGranted}
use Rattle.mvs_model.proofs.PartsTaken.{equal_numbers, same_number, retaken_apart}
use Rattle.mvs_model.proofs.Tests.{true_false}

both : (a b : Bool) → a ≡ false → b ≡ true → (not a && b) ≡ true
both a b e f = and_from (not a) b (not_from_false a e) f

parts_of : (a b : Bool) → (not a && b) ≡ true → (a ≡ false) × (b ≡ true)
parts_of a b e = let k = and_parts (not a) b e in (not-true a k.0, k.1)

module _ (old new : State) (name : Name) (pool : Pool) (c : ℕ) (is : get old.pools name ≡ Some pool) (was : set.contains pool.taken c ≡ true) (g : GivesCell old name pool c new) (a : Apart old) where
  -- the cells that are still taken
  still : (x : ℕ) → set.contains (set.remove pool.taken c) x ≡ true → (eq_by_cmp nat_cmp x c ≡ false) × (set.contains pool.taken x ≡ true)
  still x e = parts_of _ _ (sym (set.contains-remove nat_cmp_total pool.taken c x) ∙ e)

  here : get new.pools name ≡ Some (record pool { taken = set.remove pool.taken c })
  here = put_here old new name (Some (record pool { taken = set.remove pool.taken c })) g.pools

  same_pool : (n : Name) (q : Pool) → n ≡ name → get old.pools n ≡ Some q → q ≡ pool
  same_pool n q s e = let f : Some q ≡ Some pool = sym e ∙ ap (get old.pools) s ∙ is in cc

  -- no two taken cells of the pool have an address in common
  one_taken : (b x : ℕ) → set.contains pool.taken b ≡ true → has_address (cell_at pool b) x ≡ true → has_address (cell_at pool c) x ≡ true → b ≡ c
  one_taken b x t hb hc =
      let p = cell_part old a name pool b x is t hb in
      let q = cell_part old a name pool c x is was hc in
      let s = one_part pool.parts p.part q.part (x / 8) (a.within name pool is) p.is_part q.is_part p.covered q.covered in
      let kb = has_is (cell_at pool b) x hb in
      let kc = has_is (cell_at pool c) x hc in
      one_cell pool.cell_size q.part b c x (subst (λ part. IsCellOf pool.cell_size part b) s p.is_cell) q.is_cell kb.0 kb.1 kc.0 kc.1

  -- and no taken cell of another
  out_now : (x : ℕ) → has_address (cell_at pool c) x ≡ true → InCell new x → ⊥
  out_now x hc i = elim (put_cases old new name (Some (record pool { taken = set.remove pool.taken c })) g.pools i.name i.pool i.is_pool) [
    | inl h ↦ let s : record pool { taken = set.remove pool.taken c } ≡ i.pool = cc in
        let t = still i.first (ap (λ q. set.contains q.taken i.first) s ∙ i.taken) in
        let e = one_taken i.first x t.1 (ap (λ q. has_address (cell_at q i.first) x) s ∙ i.inside) hc in
        true_false (sym (same_number c) ∙ ap (λ y. eq_by_cmp nat_cmp y c) (sym e) ∙ t.0)
    | inr h ↦
        let p = cell_part old a i.name i.pool i.first x h.1 i.taken i.inside in
        let q = cell_part old a name pool c x is was hc in
        a.between i.name name i.pool pool p.part q.part h.0 h.1 is p.is_part q.is_part (x / 8) p.covered q.covered
  ]

  back : (x : ℕ) → InCell new x → InCell old x
  back x i = elim (put_cases old new name (Some (record pool { taken = set.remove pool.taken c })) g.pools i.name i.pool i.is_pool) [
    | inl h ↦ let s : record pool { taken = set.remove pool.taken c } ≡ i.pool = cc in
        record { name = name; pool = pool; first = i.first; is_pool = is; taken = (still i.first (ap (λ q. set.contains q.taken i.first) s ∙ i.taken)).1; inside = ap (λ q. has_address (cell_at q i.first) x) s ∙ i.inside }
    | inr h ↦ record { name = i.name; pool = i.pool; first = i.first; is_pool = h.1; taken = i.taken; inside = i.inside }
  ]

  to : (x : ℕ) → has_address (cell_at pool c) x ≡ false → InCell old x → InCell new x
  to x out i = elim (kept_cases old new name (Some (record pool { taken = set.remove pool.taken c })) g.pools i.name i.pool i.is_pool) [
    | inl n ↦ let p = same_pool i.name i.pool n i.is_pool in
        let e : has_address (cell_at pool i.first) x ≡ true = ap (λ q. has_address (cell_at q i.first) x) (sym p) ∙ i.inside in
        record { name = name; pool = _; first = i.first; is_pool = here; taken = left e (ap (λ q. set.contains q.taken i.first) (sym p) ∙ i.taken); inside = e }
    | inr k ↦ record { name = i.name; pool = i.pool; first = i.first; is_pool = k.1; taken = i.taken; inside = i.inside }
  ] where
    left : has_address (cell_at pool i.first) x ≡ true → set.contains pool.taken i.first ≡ true → set.contains (set.remove pool.taken c) i.first ≡ true
    left e t =
        set.contains-remove nat_cmp_total pool.taken c i.first
        ∙ both (eq_by_cmp nat_cmp i.first c) _ (false_from_ne_true _ (λ s. let f : true ≡ false = sym e ∙ ap (λ y. has_address (cell_at pool y) x) (equal_numbers i.first c s) ∙ out in absurd (cc))) t

  not_plain : (x : ℕ) → has_address (cell_at pool c) x ≡ true → is_plain (get old.held (x / 8)) ≡ false
  not_plain x e = ap is_plain (cell_pooled old a x (record { name = name; pool = pool; first = c; is_pool = is; taken = was; inside = e }))

  given_bytes : BytesGranted new
  given_bytes x =
      ap is_some (g.bytes x)
      ∙ at (has_address (cell_at pool c) x) (not_plain x) (λ e. false_from_ne_true (in_cell new x) (λ h. out_now x e (in_cell_is new x h))) (λ e. same_cells old new x (to x e) (back x))
      ∙ ap (λ m. is_plain (get m (x / 8)) || in_cell new x) (sym g.held) where
        at : (b : Bool) → (b ≡ true → is_plain (get old.held (x / 8)) ≡ false) → (b ≡ true → in_cell new x ≡ false) → (b ≡ false → in_cell new x ≡ in_cell old x)
            → is_some (cond b None (get old.bytes x)) ≡ (is_plain (get old.held (x / 8)) || in_cell new x)
        at true p f h = λ i. sym (p refl) i || sym (f refl) i
        at false p f h = a.bytes x ∙ ap (λ b. is_plain (get old.held (x / 8)) || b) (sym (h refl))

  pub given_apart : Apart new
  given_apart = retaken_apart old new name pool (set.remove pool.taken c) is g.held g.pools a (λ x e. a.cells name pool x is (still x e).1) given_bytes
