-- The bytes that the parts of pools take, counted by doublewords.
use Rattle.std.proofs.Common.{◌≡◌, ℕ, zero, suc, ◌+◌, ◌-◌, ◌*◌, ◌/◌, ◌%◌, ◌<◌, ◌≤◌, Bool, true, false, cond, List, Option, Some, None, refl, sym, ap, ◌∙◌, arith}
use Rattle.std.specs.Prelude.{◌||◌, ◌&&◌, ◌==◌}
use Rattle.std.specs.Option.{option_map}
use Rattle.std.proofs.lemmas.Bool.Decides.{nat_tests}
use Rattle.std.specs.FinMap.{FinMap, get}
use Rattle.std.proofs.lemmas.Bool.{and_from, and_parts, eqb-true, eq-eqb}
use Rattle.mvs_model.specs.Name.{name_cmp}
use Rattle.mvs_model.specs.Finite.{has, any_below, count_below}
use Rattle.mvs_model.specs.Place.{PlaceValue}
use Rattle.mvs_model.specs.Storage.{Storage, Regions, holder as held_by, IsWhole, covers, end_of}
use Rattle.mvs_model.specs.Owners.{Owners}
use Rattle.mvs_model.specs.Pools.{part_length, in_parts}
use Rattle.mvs_model.specs.State.{Holding}
use Rattle.mvs_model.specs.View.{IsBounded, in_pools, holding, state_of}
use Rattle.mvs_model.specs.Reports.{bytes_held}
use Rattle.mvs_model.specs.Storage.{holds}
use Rattle.cell_pool.specs.Laws.{SplitsBytes}
use Rattle.std.specs.Prelude.{not}
use Rattle.mvs_model.proofs.StorageLaws.{covers_is}
use Rattle.mvs_model.proofs.TakenCells.{same_test, never}
use Rattle.cell_pool.specs.Layout.{byte_of, count_at}
use Rattle.cell_pool.specs.Roots.{Root, part_addr, part_of, pool_of, pools_of}
use Rattle.cell_pool.specs.Agree.{AgreeParts}
use Rattle.cell_pool.specs.Walk.{IsChain}
use Rattle.cell_pool.specs.Release.{in_first}
use Rattle.cell_pool.specs.Report.{is_in_entry, AreApart}
use Rattle.cell_pool.specs.Entries.{item_at, roots_of, IsDistinct}
use Rattle.cell_pool.specs.declared.entry.PoolEntry.{PoolEntry}
use Rattle.subpool_store.proofs.Counts.{count_most}
use Rattle.mvs_model.proofs.Stand.{held_state, pooled_found, pooled_from}
use Rattle.cell_pool.proofs.Frame.{root_found, pool_from}
use Rattle.cell_pool.proofs.Named.{named, entry_of}
use Rattle.cell_pool.proofs.Only.{only, part_held}
use Rattle.cell_pool.proofs.Released.{in_none, in_next, in_all, first_found}
use Rattle.mvs_model.proofs.Below.{some_below, below_some, count_same, count_or, count_none}

-- the numbers from one up to another
module _ (a b : ℕ) (f : ℕ → Bool) (l : a ≤ b) (within : (d : ℕ) → a ≤ d → d < b → f d ≡ true) (without : (d : ℕ) → (a ≤ d → d < b → ⊥) → f d ≡ false) where
  count_inside : (k : ℕ) → a + k ≤ b → count_below (a + k) f ≡ k
  unfolding count_below
  count_inside zero m = count_none (a + 0) f (λ d q. without d (λ s t. absurd (omega arith)))
  count_inside (suc k) m = ap (λ x. count_below x f) (let e : a + suc k ≡ suc (a + k) = omega arith in e) ∙ one (f (a + k)) (count_below (a + k) f) (within (a + k) (omega arith) (omega arith)) (count_inside k (omega arith)) where
    one : (b : Bool) (x : ℕ) → b ≡ true → x ≡ k → cond b 1 0 + x ≡ suc k
    one true x e f = omega arith
    one false x e f = absurd (let g : false ≡ true = e in cc)

  count_past : (k : ℕ) → count_below (b + k) f ≡ b - a
  unfolding count_below
  count_past zero = ap (λ x. count_below x f) (let e : b + 0 ≡ a + (b - a) = omega arith in e) ∙ count_inside (b - a) (omega arith)
  count_past (suc k) = ap (λ x. count_below x f) (let e : b + suc k ≡ suc (b + k) = omega arith in e) ∙ (λ i. cond (without (b + k) (λ s t. absurd (omega arith)) i) 1 0 + count_past k i) ∙ (let e : 0 + (b - a) ≡ b - a = omega arith in e)

  pub count_between : (n : ℕ) → b ≤ n → count_below n f ≡ b - a
  count_between n h = ap (λ x. count_below x f) (let e : n ≡ b + (n - b) = omega arith in e) ∙ count_past (n - b)

-- the doublewords of a place
pub count_place : (p : PlaceValue) (n : ℕ) → IsWhole p → p.addr + p.len ≤ 8 * n → 8 * count_below n (covers p) ≡ p.len
count_place p n w h =
    let u : p.addr % 8 ≡ 0 = w.0 in let v : p.len % 8 ≡ 0 = w.1 in
    let e : count_below n (covers p) ≡ (p.addr + p.len) / 8 - p.addr / 8 = count_between (p.addr / 8) ((p.addr + p.len) / 8) (covers p) (omega arith) yes no_one n (omega arith) in
    omega arith
  where
    yes : (d : ℕ) → p.addr / 8 ≤ d → d < (p.addr + p.len) / 8 → covers p d ≡ true
    yes d low high = let u : p.addr % 8 ≡ 0 = w.0 in let v : p.len % 8 ≡ 0 = w.1 in let low' : p.addr < 8 * d + 8 = omega arith in let high' : 8 * d < p.addr + p.len = omega arith in grind (arith, nat_tests)

    no_one : (d : ℕ) → (p.addr / 8 ≤ d → d < (p.addr + p.len) / 8 → ⊥) → covers p d ≡ false
    no_one d none = never _ (λ t.
        let low : p.addr < 8 * d + 8 = grind (arith, nat_tests) in
        let high : 8 * d < p.addr + p.len = grind (arith, nat_tests) in
        let u : p.addr % 8 ≡ 0 = w.0 in let v : p.len % 8 ≡ 0 = w.1 in none (omega arith) (omega arith))

-- the parts of one pool
module _ (st : Storage) (r : Root) (ch : IsChain st r) where
  pub none_tallied : 0 ≡ 8 * count_below (end_of st.regions) (in_first (byte_of st) r 0)
  none_tallied = let e : count_below (end_of st.regions) (in_first (byte_of st) r 0) ≡ 0 = count_none (end_of st.regions) (in_first (byte_of st) r 0) (λ d l. in_none (byte_of st) r d) in omega arith

  pub one_tallied : (n bytes len : ℕ) → n < r.count → len ≡ part_length r.cell_size (count_at (byte_of st) (part_addr (byte_of st) r.first n)) → bytes ≡ 8 * count_below (end_of st.regions) (in_first (byte_of st) r n)
      → bytes + len ≡ 8 * count_below (end_of st.regions) (in_first (byte_of st) r (n + 1))
  one_tallied n bytes len l is e =
      let one : 8 * count_below (end_of st.regions) (covers (part_of (byte_of st) r n).place) ≡ part_length r.cell_size (count_at (byte_of st) (part_addr (byte_of st) r.first n)) = count_place (part_of (byte_of st) r n).place (end_of st.regions) (ch.whole n l) (ch.inside n l) in
      let both : count_below (end_of st.regions) (in_first (byte_of st) r (n + 1)) ≡ count_below (end_of st.regions) (covers (part_of (byte_of st) r n).place) + count_below (end_of st.regions) (in_first (byte_of st) r n) =
      count_same (end_of st.regions) _ _ (λ d _. in_next (byte_of st) r n d) ∙ count_or (end_of st.regions) (covers (part_of (byte_of st) r n).place) (in_first (byte_of st) r n) apart in
      omega arith
    where
      apart : (d : ℕ) → covers (part_of (byte_of st) r n).place d ≡ true → in_first (byte_of st) r n d ≡ true → ⊥
      apart d t u = let f = first_found (byte_of st) r n d u in ch.apart f.0 n f.1 l d f.2 (covers_is (part_of (byte_of st) r n).place d t)

-- no count is more than the regions have
pub low_tally : (r : Regions) (f : ℕ → Bool) → IsBounded r → 8 * count_below (end_of r) f ≤ 0x3000000
low_tally r f b = let m : count_below (end_of r) f ≤ end_of r = count_most (end_of r) f in let h = b.above in omega arith

-- the pools of a subpool, one after another
module _ (m : ℕ → ℕ) (s end : ℕ) (entry : ℕ → Option PoolEntry) where
  pub none_of : 0 ≡ 8 * count_below end (λ d. any_below (λ k. is_in_entry m s (entry k) d) 0)
  unfolding any_below
  none_of = let e : count_below end (λ d. false) ≡ 0 = count_none end (λ d. false) (λ d l. refl) in omega (arith, e)

  -- where there is no entry there are no parts
  pub nothing_of : ((k : ℕ) → entry k ≡ None) → (n : ℕ) → 0 ≡ 8 * count_below end (λ d. any_below (λ k. is_in_entry m s (entry k) d) n)
  unfolding any_below
  nothing_of none n = let e : count_below end (λ d. any_below (λ k. is_in_entry m s (entry k) d) n) ≡ 0 = count_none end (λ d. any_below (λ k. is_in_entry m s (entry k) d) n) (λ d l. empty d n) in omega (arith, e) where
    empty : (d n : ℕ) → any_below (λ k. is_in_entry m s (entry k) d) n ≡ false
    empty d zero = refl
    empty d (suc n) = rw (none n) (empty d n)

  pub one_more_of : AreApart m s entry → (n bytes more : ℕ) → bytes ≡ 8 * count_below end (λ d. any_below (λ k. is_in_entry m s (entry k) d) n) → more ≡ 8 * count_below end (is_in_entry m s (entry n))
      → bytes + more ≡ 8 * count_below end (λ d. any_below (λ k. is_in_entry m s (entry k) d) (n + 1))
  unfolding any_below
  one_more_of apart n bytes more e f =
      let both : count_below end (λ d. any_below (λ k. is_in_entry m s (entry k) d) (n + 1)) ≡ count_below end (is_in_entry m s (entry n)) + count_below end (λ d. any_below (λ k. is_in_entry m s (entry k) d) n) =
      count_same end _ (λ d. is_in_entry m s (entry n) d || any_below (λ k. is_in_entry m s (entry k) d) n) (λ d _. ap (any_below (λ k. is_in_entry m s (entry k) d)) (let g : n + 1 ≡ suc n = omega arith in g))
      ∙ count_or end (is_in_entry m s (entry n)) (λ d. any_below (λ k. is_in_entry m s (entry k) d) n) not_both in
      omega arith
    where
      not_both : (d : ℕ) → is_in_entry m s (entry n) d ≡ true → any_below (λ k. is_in_entry m s (entry k) d) n ≡ true → ⊥
      not_both d t u = let g = below_some (λ k. is_in_entry m s (entry k) d) n u in apart g.0 n d (λ same. let l = g.1 in absurd (omega (arith, same, l))) g.2 t

-- what one entry adds
pub no_entry : (m : ℕ → ℕ) (s end : ℕ) (v : Option PoolEntry) → v ≡ None → 0 ≡ 8 * count_below end (is_in_entry m s v)
no_entry m s end v e = let n : count_below end (is_in_entry m s v) ≡ 0 = count_none end (is_in_entry m s v) (λ d l. ap (λ w. is_in_entry m s w d) e) in omega arith

pub other_entry : (m : ℕ → ℕ) (s end : ℕ) (v : Option PoolEntry) (x : PoolEntry) → v ≡ Some x → (x.root.subpool == s) ≡ false → 0 ≡ 8 * count_below end (is_in_entry m s v)
other_entry m s end v x e f = let n : count_below end (is_in_entry m s v) ≡ 0 = count_none end (is_in_entry m s v) (λ d l. ap (λ w. is_in_entry m s w d) e ∙ ap (λ b. b && in_first m x.root x.root.count d) f) in omega arith

pub own_entry : (m : ℕ → ℕ) (s end : ℕ) (v : Option PoolEntry) (x : PoolEntry) → v ≡ Some x → (x.root.subpool == s) ≡ true → (bytes : ℕ) → bytes ≡ 8 * count_below end (in_first m x.root x.root.count) → bytes ≡ 8 * count_below end (is_in_entry m s v)
own_entry m s end v x e f bytes g = g ∙ ap (λ n. 8 * n) (sym (count_same end (is_in_entry m s v) (in_first m x.root x.root.count) (λ d l. ap (λ w. is_in_entry m s w d) e ∙ ap (λ b. b && in_first m x.root x.root.count d) f)))

-- an entry that has the doubleword
in_entry_found : (m : ℕ → ℕ) (s : ℕ) (v : Option PoolEntry) (d : ℕ) → is_in_entry m s v d ≡ true → (x : PoolEntry) × (v ≡ Some x) × (x.root.subpool ≡ s) × (in_first m x.root x.root.count d ≡ true)
in_entry_found m s None d e = absurd (let g : false ≡ true = e in cc)
in_entry_found m s (Some x) d e = let b = and_parts _ _ e in (x, refl, eqb-true x.root.subpool s b.0, b.1)

module _ (slots : List (Option PoolEntry)) (roots : FinMap name_cmp Root) (view : roots_of slots ≡ roots) (distinct : IsDistinct slots) (st : Storage) (agree : AgreeParts roots st) (s : ℕ) where
  root_of : (k : ℕ) (x : PoolEntry) → item_at slots k ≡ Some x → get roots x.name ≡ Some x.root
  root_of k x e = sym (ap (λ t. get t x.name) view) ∙ named slots k x distinct e

  -- no doubleword is of two
  pub entries_apart : AreApart (byte_of st) s (item_at slots)
  entries_apart j k d ne t u =
      let x = in_entry_found (byte_of st) s (item_at slots j) d t in
      let y = in_entry_found (byte_of st) s (item_at slots k) d u in
      let f = first_found (byte_of st) x.0.root x.0.root.count d x.3 in
      let g = first_found (byte_of st) y.0.root y.0.root.count d y.3 in
      ne (distinct j k x.0 y.0 x.1 y.1 (only roots st agree x.0.name y.0.name x.0.root y.0.root f.0 g.0 d (root_of j x.0 x.1) (root_of k y.0 y.1) f.1 g.1 f.2 g.2).0)

  -- a doubleword that the subpool holds for a pool
  pub tally_test : (n : ℕ) → ((k : ℕ) (x : PoolEntry) → item_at slots k ≡ Some x → k < n) → (o : Owners) (d : ℕ)
      → any_below (λ k. is_in_entry (byte_of st) s (item_at slots k) d) n ≡ has (λ (h : Holding). (h.subpool == s) && h.pooled) (get (state_of st o (pools_of roots st)).held d)
  tally_test n low o d = same_test _ _ there back ∙ ap (has (λ (h : Holding). (h.subpool == s) && h.pooled)) (sym (held_state st o (pools_of roots st) agree.storage d)) where
    there : any_below (λ k. is_in_entry (byte_of st) s (item_at slots k) d) n ≡ true → has (λ (h : Holding). (h.subpool == s) && h.pooled) (holding st (pools_of roots st) d) ≡ true
    there e =
        let k = below_some (λ k. is_in_entry (byte_of st) s (item_at slots k) d) n e in
        let x = in_entry_found (byte_of st) s (item_at slots k.0) d k.2 in
        let is = root_of k.0 x.0 x.1 in
        let f = first_found (byte_of st) x.0.root x.0.root.count d x.3 in
        let held : held_by st d ≡ Some x.0.root.subpool = part_held roots st agree x.0.name x.0.root f.0 d is f.1 f.2 in
        let pooled : in_pools (pools_of roots st) d ≡ true = pooled_from (pools_of roots st) d x.0.name (pool_of (byte_of st) x.0.root) (pool_from roots st x.0.name x.0.root is) (sym (in_all (byte_of st) x.0.root d) ∙ x.3) in
        (λ i. has (λ (h : Holding). (h.subpool == s) && h.pooled) (option_map (λ u. record { subpool = u; pooled = pooled i }) (held i)))
        ∙ and_from (x.0.root.subpool == s) true (eq-eqb x.0.root.subpool s x.2) refl

    back : has (λ (h : Holding). (h.subpool == s) && h.pooled) (holding st (pools_of roots st) d) ≡ true → any_below (λ k. is_in_entry (byte_of st) s (item_at slots k) d) n ≡ true
    back e = by (held_by st d) (in_pools (pools_of roots st) d) refl refl e where
      by : (v : Option ℕ) (b : Bool) → held_by st d ≡ v → in_pools (pools_of roots st) d ≡ b → has (λ (h : Holding). (h.subpool == s) && h.pooled) (option_map (λ u. record { subpool = u; pooled = b }) v) ≡ true
          → any_below (λ k. is_in_entry (byte_of st) s (item_at slots k) d) n ≡ true
      by None b ev eb f = absurd (let g : false ≡ true = f in cc)
      by (Some u) b ev eb f =
          let t = and_parts (u == s) b f in
          let q = pooled_found (pools_of roots st) d (eb ∙ t.1) in
          let r = root_found roots st q.0 q.1 q.2 in
          let x = entry_of slots q.0 r.0 (ap (λ m. get m q.0) view ∙ r.1) in
          let has_it : in_first (byte_of st) r.0 r.0.count d ≡ true = in_all (byte_of st) r.0 d ∙ ap (λ p. in_parts p d) r.2 ∙ q.3 in
          let g = first_found (byte_of st) r.0 r.0.count d has_it in
          let of : Some r.0.subpool ≡ Some u = sym (part_held roots st agree q.0 r.0 g.0 d r.1 g.1 g.2) ∙ ev in
          let same : r.0.subpool ≡ u = cc in
          some_below (λ k. is_in_entry (byte_of st) s (item_at slots k) d) n x.0 (low x.0 x.1 x.2)
          (ap (λ v. is_in_entry (byte_of st) s v d) x.2 ∙ (λ i. (((x.4 i).subpool) == s) && in_first (byte_of st) (x.4 i) (x.4 i).count d) ∙ and_from (r.0.subpool == s) _ (eq-eqb r.0.subpool s (same ∙ eqb-true u s t.0)) has_it)

  pub tallied : (n bytes : ℕ) → ((k : ℕ) (x : PoolEntry) → item_at slots k ≡ Some x → k < n) → bytes ≡ 8 * count_below (end_of st.regions) (λ d. any_below (λ k. is_in_entry (byte_of st) s (item_at slots k) d) n)
      → (o : Owners) → bytes ≡ bytes_held (state_of st o (pools_of roots st)) s true
  tallied n bytes low e o = e ∙ ap (λ x. 8 * x) (count_same (end_of st.regions) _ _ (λ d _. tally_test n low o d))

-- in parts and outside of them
pub splits_bytes : SplitsBytes
splits_bytes roots st s o agree =
    let e : count_below (end_of st.regions) (holds st s) ≡ count_below (end_of st.regions) (held_as false) + count_below (end_of st.regions) (held_as true) =
    count_same (end_of st.regions) _ _ (λ d _. either d) ∙ count_or (end_of st.regions) (held_as false) (held_as true) not_both in
    omega (arith, e) where
      held_as : Bool → ℕ → Bool
      held_as b d = has (λ (h : Holding). (h.subpool == s) && cond b h.pooled (not h.pooled)) (get (state_of st o (pools_of roots st)).held d)

      cases : (a b : Bool) → a ≡ ((a && not b) || (a && b))
      cases true true = refl
      cases true false = refl
      cases false b = refl

      never_both : (a b : Bool) → (a && not b) ≡ true → (a && b) ≡ true → ⊥
      never_both true true e f = absurd (let g : false ≡ true = e in cc)
      never_both true false e f = absurd (let g : false ≡ true = f in cc)
      never_both false b e f = absurd (let g : false ≡ true = e in cc)

      either : (d : ℕ) → holds st s d ≡ (held_as false d || held_as true d)
      either d = at (held_by st d) (in_pools (pools_of roots st) d) ∙ sym (ap (λ v. has (λ (h : Holding). (h.subpool == s) && not h.pooled) v || has (λ (h : Holding). (h.subpool == s) && h.pooled) v) (held_state st o (pools_of roots st) agree.parts.storage d)) where
        at : (v : Option ℕ) (b : Bool) → has (λ t. t == s) v ≡ (has (λ (h : Holding). (h.subpool == s) && not h.pooled) (option_map (λ u. record { subpool = u; pooled = b }) v) || has (λ (h : Holding). (h.subpool == s) && h.pooled) (option_map (λ u. record { subpool = u; pooled = b }) v))
        at None b = refl
        at (Some t) b = cases (t == s) b

      not_both : (d : ℕ) → held_as false d ≡ true → held_as true d ≡ true → ⊥
      not_both d e f = at (get (state_of st o (pools_of roots st)).held d) e f where
        at : (v : Option Holding) → has (λ (h : Holding). (h.subpool == s) && not h.pooled) v ≡ true → has (λ (h : Holding). (h.subpool == s) && h.pooled) v ≡ true → ⊥
        at None e f = absurd (let g : false ≡ true = e in cc)
        at (Some h) e f = never_both (h.subpool == s) h.pooled e f
