-- Places that have something of a part.
use Rattle.std.proofs.Common.{◌≡◌, ℕ, ◌+◌, ◌*◌, ◌/◌, ◌%◌, ◌<◌, ◌≤◌, inl, inr, Bool, true, false, List, Option, Some, refl, sym, ap, ◌∙◌, subst, arith}
use Rattle.std.specs.Bool.{MatchBool}
use Rattle.std.specs.List.{Contains}
use Rattle.std.proofs.lemmas.Bool.{cases_lt}
use Rattle.std.specs.FinMap.{FinMap, get}
use Rattle.mvs_model.specs.Name.{name_cmp}
use Rattle.mvs_model.specs.Place.{PlaceValue}
use Rattle.mvs_model.specs.Storage.{Storage, Covers}
use Rattle.mvs_model.specs.Pools.{part_length}
use Rattle.mvs_model.specs.View.{in_pools}
use Rattle.mvs_model.proofs.TakenCells.{part_found, part_from}
use Rattle.cell_pool.specs.Layout.{byte_of, count_at}
use Rattle.cell_pool.specs.Roots.{Root, part_addr, part_of, pool_of, pools_of}
use Rattle.cell_pool.specs.Walk.{IsChain, Meets}
use Rattle.cell_pool.specs.Entries.{item_at, roots_of, IsDistinct}
use Rattle.cell_pool.specs.declared.entry.PoolEntry.{PoolEntry}
use Rattle.cell_pool.proofs.Chains.{part_contained, contained_part}
use Rattle.mvs_model.proofs.Stand.{pooled_found, pooled_from}
use Rattle.cell_pool.proofs.Frame.{root_found, pool_from}
use Rattle.cell_pool.proofs.Named.{named, entry_of}
use Rattle.cell_pool.proofs.Only.{part_held}
use Rattle.cell_pool.specs.Agree.{AgreeParts}
use Rattle.cell_pool.specs.Cells.{HasPart, HasPartOf, Touches, TouchesNone}
use Rattle.std.specs.Prelude.{MatchOption, is_some}
use Rattle.mvs_model.specs.declared.name.Name.{Name}
use Rattle.mvs_model.specs.Finite.{has}
use Rattle.mvs_model.specs.State.{Holding, pooled, subpool_in}
use Rattle.mvs_model.specs.Storage.{holder as held_by}
use Rattle.std.specs.Option.{option_map}
use Rattle.std.proofs.Common.{None}

pub len_at : (m : ℕ → ℕ) (r : Root) (j a len size count : ℕ) → a ≡ part_addr m r.first j → len ≡ part_length size count → size ≡ r.cell_size → count ≡ count_at m a → len ≡ part_length r.cell_size (count_at m (part_addr m r.first j))
len_at m r j a len size count e f g h = f ∙ (λ k. part_length (g k) ((h ∙ ap (count_at m) e) k))

module _ (st : Storage) (r : Root) (ch : IsChain st r) (j : ℕ) (l : j < r.count) (p : PlaceValue) (some : 1 ≤ p.len) (a len x n : ℕ) (e : a ≡ part_addr (byte_of st) r.first j) (f : len ≡ part_length r.cell_size (count_at (byte_of st) (part_addr (byte_of st) r.first j))) (g : x ≡ p.addr) (h : n ≡ p.len) where
  pub meets_at : (a < x + n) × (x < a + len) → Meets st r p
  meets_at b =
      let low : a < x + n = b.0 in let high : x < a + len = b.1 in
      elim (cases_lt (part_addr (byte_of st) r.first j) p.addr) [
        | inl k ↦ (j, p.addr / 8, l, (omega arith, omega arith), (omega arith, omega arith))
        | inr k ↦ (j, part_addr (byte_of st) r.first j / 8, l, (omega arith, omega arith), (omega arith, omega arith))
      ]

  pub misses_at : ((a < x + n) → (x < a + len) → ⊥) → (d : ℕ) → Covers (part_of (byte_of st) r j).place d → Covers p d → ⊥
  misses_at none d c k =
      let whole = ch.whole j l in
      let s : part_addr (byte_of st) r.first j % 8 ≡ 0 = whole.0 in
      let t : part_length r.cell_size (count_at (byte_of st) (part_addr (byte_of st) r.first j)) % 8 ≡ 0 = whole.1 in
      let c0 : part_addr (byte_of st) r.first j < 8 * d + 8 = c.0 in
      let c1 : 8 * d < part_addr (byte_of st) r.first j + part_length r.cell_size (count_at (byte_of st) (part_addr (byte_of st) r.first j)) = c.1 in
      let k0 : p.addr < 8 * d + 8 = k.0 in let k1 : 8 * d < p.addr + p.len = k.1 in
      none (omega arith) (omega arith)

-- over all pools
module _ (slots : List (Option PoolEntry)) (roots : FinMap name_cmp Root) (view : roots_of slots ≡ roots) (distinct : IsDistinct slots) (st : Storage) (agree : AgreeParts roots st) (s : ℕ) (p : PlaceValue) where
  touch_test : (b : Bool) → MatchBool b ((k : ℕ) × (x : PoolEntry) × (item_at slots k ≡ Some x) × (x.root.subpool ≡ s) × Meets st x.root p) ((k : ℕ) (x : PoolEntry) → item_at slots k ≡ Some x → x.root.subpool ≡ s → Meets st x.root p → ⊥)
      → MatchBool b (Touches st (pools_of roots st) s p) (TouchesNone st (pools_of roots st) s p)
  touch_test true h =
      let x = h.1 in let m = h.4 in
      let is : get roots x.name ≡ Some x.root = sym (ap (λ t. get t x.name) view) ∙ named slots h.0 x distinct h.2 in
      let pooled_here : in_pools (pools_of roots st) m.1 ≡ true = pooled_from (pools_of roots st) m.1 x.name (pool_of (byte_of st) x.root) (pool_from roots st x.name x.root is) (part_from (pool_of (byte_of st) x.root) m.1 (part_of (byte_of st) x.root m.0) (part_contained (byte_of st) x.root m.0 m.2) m.3) in
      (m.1, m.4, (λ i. option_map (λ u. record { subpool = u; pooled = pooled_here i }) (part_held roots st agree x.name x.root m.0 m.1 is m.2 m.3 i)) ∙ ap (λ u. Some (pooled u)) h.3)
  touch_test false none = λ d c e. by (held_by st d) (in_pools (pools_of roots st) d) d refl refl c e where
    by : (v : Option ℕ) (b : Bool) (d : ℕ) → held_by st d ≡ v → in_pools (pools_of roots st) d ≡ b → Covers p d → option_map (λ u. record { subpool = u; pooled = b }) v ≡ Some (pooled s) → ⊥
    by None b d ev eb c f = absurd (let g : None ≡ Some (pooled s) = f in cc)
    by (Some u) b d ev eb c f =
        let is_true : b ≡ true = ap (has (λ (h : Holding). h.pooled)) f in
        let q = pooled_found (pools_of roots st) d (eb ∙ is_true) in
        let r = root_found roots st q.0 q.1 q.2 in
        let x = entry_of slots q.0 r.0 (ap (λ t. get t q.0) view ∙ r.1) in
        let part = part_found q.1 d q.3 in
        let j = contained_part (byte_of st) r.0 part.0 (subst (λ w. Contains w.parts part.0) (sym r.2) part.1) in
        let covered : Covers (part_of (byte_of st) r.0 j.0).place d = subst (λ w. Covers w.place d) (sym j.2) part.2 in
        let same : Some r.0.subpool ≡ Some s = sym (part_held roots st agree q.0 r.0 j.0 d r.1 j.1 covered) ∙ ev ∙ ap (λ h. subpool_in h) f in
        let is : r.0.subpool ≡ s = cc in
        none x.0 x.1 x.2 (ap (λ (w : Root). w.subpool) x.4 ∙ is) (subst (λ q. Meets st q p) (sym x.4) (j.0, d, j.1, covered, c))

  -- the part of a pool that was met
  pub met_part : (name : Name) → (k : ℕ) × (x : PoolEntry) × (item_at slots k ≡ Some x) × (x.root.subpool ≡ s) × Meets st x.root p × (x.name ≡ name) → (d : ℕ) × Covers p d × HasPart (pools_of roots st) name d
  met_part name h =
      let x = h.1 in let m = h.4 in
      let is : get roots x.name ≡ Some x.root = sym (ap (λ t. get t x.name) view) ∙ named slots h.0 x distinct h.2 in (
        m.1,
        m.4,
        (
          pool_of (byte_of st) x.root,
          ap (get (pools_of roots st)) (sym h.5) ∙ pool_from roots st x.name x.root is,
          part_from (pool_of (byte_of st) x.root) m.1 (part_of (byte_of st) x.root m.0) (part_contained (byte_of st) x.root m.0 m.2) m.3,
        ),
      )

  -- whether one was met, and which
  abbrev Met : Option Name → Type 0
  Met v = MatchOption v ((k : ℕ) (x : PoolEntry) → item_at slots k ≡ Some x → x.root.subpool ≡ s → Meets st x.root p → ⊥)
      (λ name. (k : ℕ) × (x : PoolEntry) × (item_at slots k ≡ Some x) × (x.root.subpool ≡ s) × Meets st x.root p × (x.name ≡ name))

  pub met_test : (v : Option Name) → Met v → (b : Bool) → b ≡ is_some v → MatchBool b (Touches st (pools_of roots st) s p) (TouchesNone st (pools_of roots st) s p)
  met_test None none b e = subst (λ b. MatchBool b (Touches st (pools_of roots st) s p) (TouchesNone st (pools_of roots st) s p)) (sym e) (touch_test false none)
  met_test (Some name) h b e = subst (λ b. MatchBool b (Touches st (pools_of roots st) s p) (TouchesNone st (pools_of roots st) s p)) (sym e) (touch_test true (h.0, h.1, h.2, h.3, h.4))

  pub met_correct : (v : Option Name) → Met v → MatchOption v (TouchesNone st (pools_of roots st) s p) (λ name. (d : ℕ) × Covers p d × HasPart (pools_of roots st) name d)
  met_correct None none = touch_test false none
  met_correct (Some name) h = met_part name h

-- the same for a place, in any subpool
module _ (slots : List (Option PoolEntry)) (roots : FinMap name_cmp Root) (view : roots_of slots ≡ roots) (distinct : IsDistinct slots) (st : Storage) (p : PlaceValue) where
  -- the doubleword of a part that was met
  met_doubleword : (k : ℕ) (x : PoolEntry) → item_at slots k ≡ Some x → Meets st x.root p → HasPartOf (pools_of roots st) p
  met_doubleword k x at m =
      let is : get roots x.name ≡ Some x.root = sym (ap (λ t. get t x.name) view) ∙ named slots k x distinct at in (
        m.1,
        m.4,
        pooled_from (pools_of roots st) m.1 x.name (pool_of (byte_of st) x.root) (pool_from roots st x.name x.root is) (part_from (pool_of (byte_of st) x.root) m.1 (part_of (byte_of st) x.root m.0) (part_contained (byte_of st) x.root m.0 m.2) m.3),
      )

  -- no pool was met
  missed : ((k : ℕ) (x : PoolEntry) → item_at slots k ≡ Some x → Unit {0} → Meets st x.root p → ⊥) → HasPartOf (pools_of roots st) p → ⊥
  missed none h =
      let d = h.0 in
      let q = pooled_found (pools_of roots st) d h.2 in
      let r = root_found roots st q.0 q.1 q.2 in
      let x = entry_of slots q.0 r.0 (ap (λ t. get t q.0) view ∙ r.1) in
      let part = part_found q.1 d q.3 in
      let j = contained_part (byte_of st) r.0 part.0 (subst (λ w. Contains w.parts part.0) (sym r.2) part.1) in
      let covered : Covers (part_of (byte_of st) r.0 j.0).place d = subst (λ w. Covers w.place d) (sym j.2) part.2 in
      none x.0 x.1 x.2 tt (subst (λ q. Meets st q p) (sym x.4) (j.0, d, j.1, covered, h.1))

  pub any_test : (v : Option Name)
      → MatchOption v ((k : ℕ) (x : PoolEntry) → item_at slots k ≡ Some x → Unit {0} → Meets st x.root p → ⊥)
      (λ name. (k : ℕ) × (x : PoolEntry) × (item_at slots k ≡ Some x) × Unit {0} × Meets st x.root p × (x.name ≡ name))
      → (b : Bool) → b ≡ is_some v → MatchBool b (HasPartOf (pools_of roots st) p) (HasPartOf (pools_of roots st) p → ⊥)
  any_test None none b e = subst (λ b. MatchBool b (HasPartOf (pools_of roots st) p) (HasPartOf (pools_of roots st) p → ⊥)) (sym e) (missed none)
  any_test (Some name) h b e = subst (λ b. MatchBool b (HasPartOf (pools_of roots st) p) (HasPartOf (pools_of roots st) p → ⊥)) (sym e) (met_doubleword h.0 h.1 h.2 h.4)
