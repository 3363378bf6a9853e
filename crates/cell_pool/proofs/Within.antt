-- Addresses in taken cells.
use Rattle.std.proofs.Common.{is_some, ◌≡◌, ℕ, ◌+◌, ◌*◌, ◌/◌, ◌<◌, ◌≤◌, inl, inr, Bool, true, false, List, Option, Some, None, refl, sym, ap, ◌∙◌, subst, arith}
use Rattle.std.proofs.lemmas.Bool.{cases_lt}
use Rattle.std.proofs.lemmas.Bool.Decides.{nat_tests}
use Rattle.std.specs.FinMap.{FinMap, get}
use Rattle.mvs_model.specs.Name.{name_cmp}
use Rattle.mvs_model.specs.Place.{place_at}
use Rattle.mvs_model.specs.Storage.{Storage, has_address}
use Rattle.mvs_model.specs.Owners.{Owners}
use Rattle.mvs_model.specs.Pools.{Part, part_length, first_cell, IsCell, cell_at, in_taken}
use Rattle.mvs_model.specs.State.{in_cell}
use Rattle.mvs_model.specs.View.{state_of}
use Rattle.mvs_model.proofs.CellPlaces.{has_is, after_cell}
use Rattle.mvs_model.proofs.TakenCells.{in_cell_from, in_cell_is, taken_found, taken_from, never}
use Rattle.cell_pool.specs.Layout.{byte_of, count_at, flag, head_length}
use Rattle.cell_pool.specs.Roots.{Root, part_addr, part_of, pool_of, pools_of}
use Rattle.cell_pool.specs.Walk.{IsChain, IsPartAt}
use Rattle.cell_pool.specs.Entries.{item_at, roots_of, IsDistinct}
use Rattle.cell_pool.specs.declared.entry.PoolEntry.{PoolEntry}
use Rattle.cell_pool.proofs.Taken.{TakenAt, set_found, set_from}
use Rattle.cell_pool.proofs.Frame.{root_found, pool_from}
use Rattle.cell_pool.proofs.Named.{named, entry_of}
use Rattle.cell_pool.proofs.Chains.{part_contained, contained_part}
use Rattle.cell_pool.proofs.Walking.{chain_of, one}
use Rattle.mvs_model.proofs.Stand.{holder_state}
use Rattle.cell_pool.specs.Agree.{AgreeParts}
use Rattle.cell_pool.specs.Cells.{IsTakenCell}
use Rattle.mvs_model.specs.State.{subpool_in}
use Rattle.mvs_model.specs.Storage.{holder as held_by}
use Rattle.mvs_model.proofs.TakenCells.{cell_pooled}
use Rattle.mvs_model.specs.Place.{PlaceValue}
use Rattle.std.specs.FinSet as set
use Rattle.std.specs.Prelude.{MatchOption}
use Rattle.cell_pool.specs.Roots.{taken_of}

module _ (st : Storage) (r : Root) (ch : IsChain st r) (x : ℕ) where
  -- A cell of the pool has the address.
  record Holds : Type 0 where
    begin : ℕ
    part : ℕ
    cell : ℕ
    is_part : part < r.count
    is_cell : cell < count_at (byte_of st) (part_addr (byte_of st) r.first part)
    at : begin ≡ first_cell r.cell_size (part_of (byte_of st) r part) + cell * r.cell_size
    low : begin ≤ x
    high : x < begin + r.cell_size

  -- one that begins at an address
  begins_at : (c : ℕ) → IsCell (pool_of (byte_of st) r) c → c ≤ x → x < c + r.cell_size → Holds
  begins_at c is low high =
      let p = contained_part (byte_of st) r is.0 is.1 in
      let i = is.2 in
      record {
        begin = c;
        part = p.0;
        cell = i.0;
        is_part = p.1;
        is_cell = subst (λ (q : Part). i.0 < q.count) (sym p.2) i.1;
        at = i.2 ∙ ap (λ (q : Part). first_cell r.cell_size q + i.0 * r.cell_size) (sym p.2);
        low = low;
        high = high;
      }

  -- and one that is taken
  holds : in_taken (pool_of (byte_of st) r) x ≡ true → (h : Holds) × (flag (byte_of st) (part_addr (byte_of st) r.first h.part) h.cell ≡ true)
  holds e =
      let f = taken_found (pool_of (byte_of st) r) x e in
      let h = has_is (cell_at (pool_of (byte_of st) r) f.0) x f.2 in
      let t = set_found (byte_of st) r f.0 f.1 in
      (record { begin = f.0; part = t.part; cell = t.cell; is_part = t.is_part; is_cell = t.is_cell; at = t.at; low = h.0; high = h.1 }, t.set)

  -- it lies in the cell's part
  in_part : (h : Holds) → (part_addr (byte_of st) r.first h.part ≤ x) × (x < part_addr (byte_of st) r.first h.part + part_length r.cell_size (count_at (byte_of st) (part_addr (byte_of st) r.first h.part)))
  in_part h =
      let m : h.cell * r.cell_size + r.cell_size ≤ count_at (byte_of st) (part_addr (byte_of st) r.first h.part) * r.cell_size = after_cell h.cell (count_at (byte_of st) (part_addr (byte_of st) r.first h.part)) r.cell_size h.is_cell in
      let at = h.at in let low = h.low in let high = h.high in
      (omega arith, omega arith)

  none_in : ((j : ℕ) → j < r.count → has_address (part_of (byte_of st) r j).place x ≡ false) → Holds → ⊥
  none_in none h = let p = in_part h in let f : true ≡ false = sym (has _ _ p.0 p.1) ∙ none h.part h.is_part in absurd (cc) where
    has : (a n : ℕ) → a ≤ x → x < a + n → has_address (place_at a n) x ≡ true
    has a n l h = grind (arith, nat_tests)

  pub no_part : ((j : ℕ) → j < r.count → has_address (part_of (byte_of st) r j).place x ≡ false) → in_taken (pool_of (byte_of st) r) x ≡ false
  no_part none = never _ (λ e. none_in none (holds e).0)

  -- no cell has the address where no part has it
  pub no_cell : ((j : ℕ) → j < r.count → has_address (part_of (byte_of st) r j).place x ≡ false) → (c : ℕ) → IsCell (pool_of (byte_of st) r) c → c ≤ x → x < c + r.cell_size → ⊥
  no_cell none c is low high = none_in none (begins_at c is low high)

  module _ (a count taken : ℕ) {past : Bool} (p : IsPartAt st r a count taken past) (has : has_address (place_at a (part_length r.cell_size count)) x ≡ true) (first size : ℕ) (e : first ≡ a + head_length count) (f : size ≡ r.cell_size) where
    count_is : count ≡ count_at (byte_of st) (part_addr (byte_of st) r.first p.number)
    count_is = p.cells ∙ ap (count_at (byte_of st)) p.addr

    has_is' : (part_addr (byte_of st) r.first p.number ≤ x) × (x < part_addr (byte_of st) r.first p.number + part_length r.cell_size (count_at (byte_of st) (part_addr (byte_of st) r.first p.number)))
    has_is' =
        subst (λ n. (part_addr (byte_of st) r.first p.number ≤ x) × (x < part_addr (byte_of st) r.first p.number + part_length r.cell_size n)) count_is
        (subst (λ b. (b ≤ x) × (x < b + part_length r.cell_size count)) p.addr (let h : (a ≤ x) × (x < a + part_length r.cell_size count) = grind (arith, nat_tests) in h))

    same_part : (h : Holds) → part_addr (byte_of st) r.first h.part ≡ a
    same_part h =
        let g = in_part h in let k = has_is' in
        one st r ch h.part p.number (x / 8) h.is_part p.is_part (omega (arith, g.0), omega (arith, g.1)) (omega (arith, k.0), omega (arith, k.1)) ∙ sym p.addr

    -- where the cell that holds it begins
    begin_is : (h : Holds) → (h.cell < count) × (h.begin ≡ first + h.cell * size)
    begin_is h =
        let s = same_part h in
        let n : count_at (byte_of st) (part_addr (byte_of st) r.first h.part) ≡ count = ap (count_at (byte_of st)) s ∙ sym p.cells in
        let at : h.begin ≡ part_addr (byte_of st) r.first h.part + head_length (count_at (byte_of st) (part_addr (byte_of st) r.first h.part)) + h.cell * r.cell_size = let e = h.at in omega arith in
        (subst (λ q. h.cell < q) n h.is_cell, at ∙ (λ q. s q + head_length (n q) + h.cell * r.cell_size) ∙ sym (λ q. e q + h.cell * f q))

    -- the number of the cell that holds it
    number : (h : Holds) → (h.cell < count) × (first + h.cell * size ≤ x) × (x < first + h.cell * size + size)
    number h =
        let b = begin_is h in
        let here = b.1 in
        let low = h.low in let high = h.high in
        (b.0, omega arith, omega arith)

    -- no cell begins at the address where none of its part does
    pub none_begins : ((i : ℕ) → i < count → x ≡ first + i * size → ⊥) → IsCell (pool_of (byte_of st) r) x → ⊥
    unfolding begins_at
    none_begins none is = let s = ch.size in let h = begins_at x is (omega arith) (omega arith) in let b = begin_is h in none h.cell b.0 b.1

    pub no_number : ((i : ℕ) → i < count → first + i * size ≤ x → x < first + i * size + size → ⊥) → in_taken (pool_of (byte_of st) r) x ≡ false
    no_number none = never _ (λ q. let h = (holds q).0 in let n = number h in none h.cell n.0 n.1 n.2)

    -- no cell has the address where none of its part has it
    pub no_cell_here : ((i : ℕ) → i < count → first + i * size ≤ x → x < first + i * size + size → ⊥) → (c : ℕ) → IsCell (pool_of (byte_of st) r) c → c ≤ x → x < c + r.cell_size → ⊥
    no_cell_here none c is low high = let h = begins_at c is low high in let n = number h in none h.cell n.0 n.1 n.2

    same_index : (i j : ℕ) → first + i * size ≤ x → x < first + i * size + size → first + j * size ≤ x → x < first + j * size + size → i ≡ j
    same_index i j li hi lj hj = elim (cases_lt i j) [
      | inl l ↦ absurd (let m : i * size + size ≤ j * size = after_cell i j size l in omega arith)
      | inr l ↦ elim (cases_lt j i) [ inl k ↦ absurd (let m : j * size + size ≤ i * size = after_cell j i size k in omega arith) | inr k ↦ omega arith ]
    ]

    -- where the flag of that cell is set, the cell is the taken one that has the address
    module _ (i : ℕ) (l : i < count) (low : first + i * size ≤ x) (high : x < first + i * size + size) where
      at_cell : flag (byte_of st) a i ≡ true → TakenAt (byte_of st) r (first_cell r.cell_size (part_of (byte_of st) r p.number) + i * r.cell_size)
      at_cell g = record { part = p.number; cell = i; is_part = p.is_part; is_cell = subst (λ q. i < q) count_is l; at = refl; set = ap (λ q. flag (byte_of st) q i) (sym p.addr) ∙ g }

      begins : first_cell r.cell_size (part_of (byte_of st) r p.number) + i * r.cell_size ≡ first + i * size
      begins =
          (let q : first_cell r.cell_size (part_of (byte_of st) r p.number) + i * r.cell_size ≡ part_addr (byte_of st) r.first p.number + head_length (count_at (byte_of st) (part_addr (byte_of st) r.first p.number)) + i * r.cell_size = omega arith in q)
          ∙ sym (λ q. p.addr q + head_length (count_is q) + i * r.cell_size) ∙ sym (λ q. e q + i * f q)

      pub small : first + i * size < 2147483648
      small = let h = has_is' in let k = h.1 in let m = ch.low p.number p.is_part in omega arith

      pub set_cell : (q : PlaceValue) → q ≡ place_at (first + i * size) size → flag (byte_of st) a i ≡ true → (set.contains (taken_of (byte_of st) r) q.addr ≡ true) × (q.len ≡ r.cell_size) × (has_address q x ≡ true)
      set_cell q is g = (
        ap (set.contains (taken_of (byte_of st) r)) (ap (λ k. k.addr) is ∙ sym begins) ∙ set_from (byte_of st) r _ (let b = begins in let k = small in omega arith) (at_cell g),
        ap (λ k. k.len) is ∙ f,
        ap (λ k. has_address k x) is ∙ within _ _ low high,
      ) where
        within : (b n : ℕ) → b ≤ x → x < b + n → has_address (place_at b n) x ≡ true
        within b n l h = grind (arith, nat_tests)

      pub clear_cell : flag (byte_of st) a i ≡ false → in_taken (pool_of (byte_of st) r) x ≡ false
      clear_cell g = never _ (λ q.
          let h = holds q in let n = number h.0 in
          let same : h.0.cell ≡ i = same_index h.0.cell i n.1 n.2 low high in
          let k : true ≡ false = sym h.1 ∙ (λ q. flag (byte_of st) (same_part h.0 q) (same q)) ∙ g in absurd (cc))

      -- it is a cell of the pool
      pub here : IsCell (pool_of (byte_of st) r) (first + i * size)
      here = (part_of (byte_of st) r p.number, part_contained (byte_of st) r p.number p.is_part, (i, subst (λ q. i < q) count_is l, sym begins))

-- over all pools
module _ (slots : List (Option PoolEntry)) (roots : FinMap name_cmp Root) (view : roots_of slots ≡ roots) (distinct : IsDistinct slots) (st : Storage) (agree : AgreeParts roots st) where
  pub entry_root : (k : ℕ) (e : PoolEntry) → item_at slots k ≡ Some e → get roots e.name ≡ Some e.root
  entry_root k e h = sym (ap (λ m. get m e.name) view) ∙ named slots k e distinct h

  pub entry_chain : (k : ℕ) (e : PoolEntry) → item_at slots k ≡ Some e → IsChain st e.root
  entry_chain k e h = chain_of roots st e.name e.root agree (entry_root k e h)

  taken_place : (x y : ℕ) → y ≡ x → (p : PlaceValue) → (k : ℕ) × (e : PoolEntry) × (item_at slots k ≡ Some e) × (set.contains (taken_of (byte_of st) e.root) p.addr ≡ true) × (p.len ≡ e.root.cell_size) × (has_address p y ≡ true)
      → IsTakenCell (pools_of roots st) p × (has_address p x ≡ true)
  taken_place x y s p h = (
    record { name = h.1.name; pool = pool_of (byte_of st) h.1.root; is_pool = pool_from roots st h.1.name h.1.root (entry_root h.0 h.1 h.2); taken = h.3; place = ap (λ n. place_at p.addr n) h.4 },
    ap (has_address p) (sym s) ∙ h.5,
  )

  -- a taken cell that has the address is one of a pool of the subpool that holds the address
  holder_of : (o : Owners) (x : ℕ) → in_cell (state_of st o (pools_of roots st)) x ≡ true → (k : ℕ) × (e : PoolEntry) × (item_at slots k ≡ Some e) × (held_by st (x / 8) ≡ Some e.root.subpool) × (in_taken (pool_of (byte_of st) e.root) x ≡ true)
  holder_of o x q =
      let i = in_cell_is (state_of st o (pools_of roots st)) x q in
      let r = root_found roots st i.name i.pool i.is_pool in
      let e = entry_of slots i.name r.0 (ap (λ m. get m i.name) view ∙ r.1) in
      let held : held_by st (x / 8) ≡ Some i.pool.subpool = sym (holder_state st o (pools_of roots st) agree.storage (x / 8)) ∙ ap subpool_in (cell_pooled (state_of st o (pools_of roots st)) (agree.apart o) x i) in
      let same : pool_of (byte_of st) e.1.root ≡ i.pool = ap (pool_of (byte_of st)) e.4 ∙ r.2 in
      (e.0, e.1, e.2, held ∙ ap (λ p. Some p.subpool) (sym same), ap (λ p. in_taken p x) same ∙ taken_from i.pool x i.first i.taken i.inside)

  none_taken : (s x y : ℕ) → y ≡ x → Some s ≡ held_by st (x / 8) → ((k : ℕ) (e : PoolEntry) → item_at slots k ≡ Some e → e.root.subpool ≡ s → in_taken (pool_of (byte_of st) e.root) y ≡ false) → (o : Owners) → in_cell (state_of st o (pools_of roots st)) x ≡ false
  none_taken s x y same held none o = never _ (λ q.
      let h = holder_of o x q in
      let f : Some s ≡ Some h.1.root.subpool = held ∙ h.3 in
      let g : h.1.root.subpool ≡ s = cc in
      let t : true ≡ false = sym h.4 ∙ ap (in_taken (pool_of (byte_of st) h.1.root)) (sym same) ∙ none h.0 h.1 h.2 g in absurd (cc))

  pub cell_answer : (s x y : ℕ) → y ≡ x → Some s ≡ held_by st (x / 8) → (v : Option PlaceValue)
      → MatchOption v ((k : ℕ) (e : PoolEntry) → item_at slots k ≡ Some e → e.root.subpool ≡ s → in_taken (pool_of (byte_of st) e.root) y ≡ false)
      (λ p. (k : ℕ) × (e : PoolEntry) × (item_at slots k ≡ Some e) × (set.contains (taken_of (byte_of st) e.root) p.addr ≡ true) × (p.len ≡ e.root.cell_size) × (has_address p y ≡ true))
      → MatchOption v ((o : Owners) → in_cell (state_of st o (pools_of roots st)) x ≡ false) (λ p. IsTakenCell (pools_of roots st) p × (has_address p x ≡ true))
  cell_answer s x y same held None none = none_taken s x y same held none
  cell_answer s x y same held (Some p) h = taken_place x y same p h

-- where nothing holds the address
pub not_held : (roots : FinMap name_cmp Root) (st : Storage) → AgreeParts roots st → (x : ℕ) → None ≡ held_by st (x / 8) → (o : Owners) → in_cell (state_of st o (pools_of roots st)) x ≡ false
not_held roots st agree x none o = never _ (λ q.
    let i = in_cell_is (state_of st o (pools_of roots st)) x q in
    let f : None ≡ Some i.pool.subpool = none ∙ sym (holder_state st o (pools_of roots st) agree.storage (x / 8)) ∙ ap subpool_in (cell_pooled (state_of st o (pools_of roots st)) (agree.apart o) x i) in absurd (cc))

-- a taken cell that has the address
pub some_cell_at : (roots : FinMap name_cmp Root) (st : Storage) (x : ℕ) (v : Option PlaceValue) (b : Bool) → b ≡ is_some v
    → MatchOption v ((o : Owners) → in_cell (state_of st o (pools_of roots st)) x ≡ false) (λ p. IsTakenCell (pools_of roots st) p × (has_address p x ≡ true)) → (o : Owners) → b ≡ in_cell (state_of st o (pools_of roots st)) x
some_cell_at roots st x None b e h o = e ∙ sym (h o)
some_cell_at roots st x (Some p) b e h o = e ∙ sym (in_cell_from (state_of st o (pools_of roots st)) x (record { name = h.0.name; pool = h.0.pool; first = p.addr; is_pool = h.0.is_pool; taken = h.0.taken; inside = ap (λ q. has_address q x) (sym h.0.place) ∙ h.1 }))
