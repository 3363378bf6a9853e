-- What a walk along the parts of a pool meets.
use Rattle.std.proofs.Common.{◌≡◌, ℕ, suc, ◌+◌, ◌-◌, ◌*◌, ◌/◌, ◌^◌, ◌<◌, ◌≤◌, inl, inr, Bool, true, false, Some, refl, sym, ap, ◌∙◌, subst, arith}
use Rattle.std.specs.Prelude.{is_some, ◌==◌, ◌||◌}
use Rattle.mvs_model.specs.Finite.{any_below}
use Rattle.std.proofs.lemmas.Bool.{cases_lt}
use Rattle.std.proofs.lemmas.Bool.Decides.{nat_tests}
use Rattle.std.specs.FinMap.{FinMap, get}
use Rattle.mvs_model.specs.declared.name.Name.{Name}
use Rattle.mvs_model.specs.Name.{name_cmp}
use Rattle.mvs_model.specs.Place.{place_at}
use Rattle.mvs_model.specs.Storage.{Storage, AllHeld, Covers, has_address, InRegion, end_of}
use Rattle.mvs_model.specs.Pools.{part_length, first_cell}
use Rattle.mvs_model.proofs.TakenCells.{never}
use Rattle.cell_pool.specs.Layout.{byte_of, count_at, next_at, flag, head_length}
use Rattle.cell_pool.specs.Roots.{Root, part_addr, part_of, is_taken}
use Rattle.cell_pool.specs.Agree.{AgreeParts}
use Rattle.cell_pool.specs.Walk.{IsChain, is_past, IsPartAt}
use Rattle.cell_pool.proofs.Taken.{TakenAt, found}
use Rattle.cell_pool.proofs.Marked.{same_index}
use Rattle.cell_pool.proofs.Only.{place_whole, some_cell, part_held, misses}
use Rattle.mvs_model.proofs.CellPlaces.{after_cell}

-- what agrees with storage is a chain
pub chain_of : (roots : FinMap name_cmp Root) (st : Storage) (name : Name) (r : Root) → AgreeParts roots st → get roots name ≡ Some r → IsChain st r
chain_of roots st name r agree is = let k = agree.chained name r is in record {
  size = k.size;
  small = k.small;
  some = k.some;
  low = λ j l. low j l;
  cells = λ j l. some_cell roots st agree name r j is l;
  whole = λ j l. place_whole roots st agree name r j is l;
  laid = k.parts;
  held = λ j l d c. part_held roots st agree name r j d is l c;
  inside = λ j l. inside j l;
  apart = λ i j l h. misses roots st agree name r is i j l h;
} where
  low : (j : ℕ) → j < r.count → part_addr (byte_of st) r.first j + part_length r.cell_size (count_at (byte_of st) (part_addr (byte_of st) r.first j)) ≤ 0x3000000
  low j l = by (agree.storage.inside last r.subpool (part_held roots st agree name r j last is l (omega arith, omega arith))) where
    last : ℕ
    last = (part_addr (byte_of st) r.first j + part_length r.cell_size (count_at (byte_of st) (part_addr (byte_of st) r.first j)) - 1) / 8

    by : InRegion st.regions (place_at (8 * last) 8) → part_addr (byte_of st) r.first j + part_length r.cell_size (count_at (byte_of st) (part_addr (byte_of st) r.first j)) ≤ 0x3000000
    by (inl h) = let m : 8 * last + 8 ≤ 0x6000 + 4096 * st.regions.below = h.1 in let b = agree.bounded.below in omega arith
    by (inr h) = let m : 8 * last + 8 ≤ 0x1000000 + 4096 * st.regions.above = h.1 in let b = agree.bounded.above in omega arith

  inside : (j : ℕ) → j < r.count → part_addr (byte_of st) r.first j + part_length r.cell_size (count_at (byte_of st) (part_addr (byte_of st) r.first j)) ≤ 8 * end_of st.regions
  inside j l = by (agree.storage.inside last r.subpool (part_held roots st agree name r j last is l (omega arith, omega arith))) where
    last : ℕ
    last = (part_addr (byte_of st) r.first j + part_length r.cell_size (count_at (byte_of st) (part_addr (byte_of st) r.first j)) - 1) / 8

    by : InRegion st.regions (place_at (8 * last) 8) → part_addr (byte_of st) r.first j + part_length r.cell_size (count_at (byte_of st) (part_addr (byte_of st) r.first j)) ≤ 8 * end_of st.regions
    by (inl h) = let m : 8 * last + 8 ≤ 0x6000 + 4096 * st.regions.below = h.1 in let b = agree.bounded.below in omega arith
    by (inr h) = let m : 8 * last + 8 ≤ 0x1000000 + 4096 * st.regions.above = h.1 in omega arith

-- the next part
pub next_addr : (m : ℕ → ℕ) (first j : ℕ) → part_addr m first (j + 1) ≡ next_at m (part_addr m first j)
unfolding part_addr
next_addr m first j = ap (part_addr m first) (let e : j + 1 ≡ suc j = omega arith in e)

pub first_addr : (m : ℕ → ℕ) (first : ℕ) → part_addr m first 0 ≡ first
unfolding part_addr
first_addr m first = refl

module _ (st : Storage) (r : Root) (ch : IsChain st r) where
  -- a doubleword is of one part
  pub one : (i j d : ℕ) → i < r.count → j < r.count → Covers (part_of (byte_of st) r i).place d → Covers (part_of (byte_of st) r j).place d → part_addr (byte_of st) r.first i ≡ part_addr (byte_of st) r.first j
  one i j d li lj ci cj = elim (cases_lt i j) [
    | inl l ↦ absurd (ch.apart i j l lj d ci cj)
    | inr k ↦ elim (cases_lt j i) [ inl l ↦ absurd (ch.apart j i l li d cj ci) | inr l ↦ ap (part_addr (byte_of st) r.first) (let e : i ≡ j = omega arith in e) ]
  ]

  -- bytes of a part are held
  pub held_in : (j : ℕ) → j < r.count → (x n : ℕ) → 1 ≤ n → part_addr (byte_of st) r.first j ≤ x → x + n ≤ part_addr (byte_of st) r.first j + part_length r.cell_size (count_at (byte_of st) (part_addr (byte_of st) r.first j)) → AllHeld st (place_at x n)
  held_in j l x n some low high d c = ap is_some (ch.held j l d ((let a : x < 8 * d + 8 = c.0 in omega arith), (let b : 8 * d < x + n = c.1 in omega arith)))

  -- those before its cells and at a cell
  module _ (j : ℕ) (l : j < r.count) (a : ℕ) (e : a ≡ part_addr (byte_of st) r.first j) where
    pub low_at : a < 2 ^ 31
    low_at = let h = ch.low j l in omega arith

    pub words_held : AllHeld st (place_at a 16)
    words_held = subst (λ b. AllHeld st (place_at b 16)) (sym e) (held_in j l _ 16 (omega arith) (omega arith) (omega arith))

    pub few_at : (count : ℕ) → count ≡ count_at (byte_of st) a → count ≤ 65536
    few_at count is = subst (λ n. n ≤ 65536) (sym (is ∙ ap (count_at (byte_of st)) e)) (ch.laid j l).few

  -- a cell lies in its part
  pub has_cell : (j i c : ℕ) → j < r.count → i < count_at (byte_of st) (part_addr (byte_of st) r.first j) → c ≡ first_cell r.cell_size (part_of (byte_of st) r j) + i * r.cell_size → has_address (part_of (byte_of st) r j).place c ≡ true
  has_cell j i c l h e =
      let m : i * r.cell_size + r.cell_size ≤ count_at (byte_of st) (part_addr (byte_of st) r.first j) * r.cell_size = after_cell i (count_at (byte_of st) (part_addr (byte_of st) r.first j)) r.cell_size h in
      let some = ch.size in
      let low : part_addr (byte_of st) r.first j ≤ c = omega arith in
      let high : c < part_addr (byte_of st) r.first j + part_length r.cell_size (count_at (byte_of st) (part_addr (byte_of st) r.first j)) = omega arith in
      grind (arith, nat_tests)

  -- no part has the address
  pub none_has : (c : ℕ) → ((j : ℕ) → j < r.count → has_address (part_of (byte_of st) r j).place c ≡ false) → is_taken (byte_of st) r c ≡ false
  none_has c none = never _ (λ e. let t = found (byte_of st) r c e in let f : true ≡ false = sym (has_cell t.part t.cell c t.is_part t.is_cell t.at) ∙ none t.part t.is_part in absurd (cc))

  -- one part has it
  module _ (a count taken : ℕ) (c : ℕ) {past : Bool} (p : IsPartAt st r a count taken past) (has : has_address (place_at a (part_length r.cell_size count)) c ≡ true) where
    has_is : (part_addr (byte_of st) r.first p.number ≤ c) × (c < part_addr (byte_of st) r.first p.number + part_length r.cell_size (count_at (byte_of st) (part_addr (byte_of st) r.first p.number)))
    has_is =
        let count_is : count ≡ count_at (byte_of st) (part_addr (byte_of st) r.first p.number) = p.cells ∙ ap (count_at (byte_of st)) p.addr in
        subst (λ n. (part_addr (byte_of st) r.first p.number ≤ c) × (c < part_addr (byte_of st) r.first p.number + part_length r.cell_size n)) count_is
        (subst (λ b. (b ≤ c) × (c < b + part_length r.cell_size count)) p.addr (let h : (a ≤ c) × (c < a + part_length r.cell_size count) = grind (arith, nat_tests) in h))

    -- a taken cell that begins there is one of it
    same_part : (t : TakenAt (byte_of st) r c) → part_addr (byte_of st) r.first t.part ≡ a
    same_part t =
        let h = has_is in
        let g : (part_addr (byte_of st) r.first t.part ≤ c) × (c < part_addr (byte_of st) r.first t.part + part_length r.cell_size (count_at (byte_of st) (part_addr (byte_of st) r.first t.part))) = between t (has_cell t.part t.cell c t.is_part t.is_cell t.at) in
        one t.part p.number (c / 8) t.is_part p.is_part (omega (arith, g.0), omega (arith, g.1)) (omega (arith, h.0), omega (arith, h.1)) ∙ sym p.addr where
          between : (t : TakenAt (byte_of st) r c) → has_address (part_of (byte_of st) r t.part).place c ≡ true → (part_addr (byte_of st) r.first t.part ≤ c) × (c < part_addr (byte_of st) r.first t.part + part_length r.cell_size (count_at (byte_of st) (part_addr (byte_of st) r.first t.part)))
          between t e = grind (arith, nat_tests)

    -- and its number is
    number : (t : TakenAt (byte_of st) r c) → (t.cell < count) × (c ≡ a + head_length count + t.cell * r.cell_size)
    number t =
        let s = same_part t in
        let n : count_at (byte_of st) (part_addr (byte_of st) r.first t.part) ≡ count = ap (count_at (byte_of st)) s ∙ sym p.cells in
        let at : c ≡ part_addr (byte_of st) r.first t.part + head_length (count_at (byte_of st) (part_addr (byte_of st) r.first t.part)) + t.cell * r.cell_size = let e = t.at in omega arith in
        (subst (λ k. t.cell < k) n t.is_cell, subst (λ k. c ≡ a + head_length k + t.cell * r.cell_size) n (subst (λ b. c ≡ b + head_length (count_at (byte_of st) (part_addr (byte_of st) r.first t.part)) + t.cell * r.cell_size) s at))

    pub no_number : (first size : ℕ) → first ≡ a + head_length count → size ≡ r.cell_size → ((i : ℕ) → i < count → c ≡ first + i * size → ⊥) → is_taken (byte_of st) r c ≡ false
    no_number first size e f none = never _ (λ h. let t = found (byte_of st) r c h in let n = number t in none t.cell n.0 (n.1 ∙ sym (λ k. e k + t.cell * f k)))

    pub not_set : (first size i : ℕ) → first ≡ a + head_length count → size ≡ r.cell_size → c ≡ first + i * size → flag (byte_of st) a i ≡ false → is_taken (byte_of st) r c ≡ false
    not_set first size i e f at clear = never _ (λ h.
        let t = found (byte_of st) r c h in
        let n = number t in
        let some = ch.size in
        let here : c ≡ a + head_length count + i * r.cell_size = at ∙ (λ k. e k + i * f k) in
        let same : t.cell ≡ i = same_index t.cell i r.cell_size (omega arith) (let g = n.1 in omega arith) in
        let k : true ≡ false = sym t.set ∙ (λ q. flag (byte_of st) (same_part t q) (same q)) ∙ clear in absurd (cc))

-- a part that does not have the address
pub missed : (m : ℕ → ℕ) (r : Root) (j a len size count c : ℕ) (b : Bool) → a ≡ part_addr m r.first j → len ≡ part_length size count → size ≡ r.cell_size → count ≡ count_at m a → b ≡ has_address (place_at a len) c → b ≡ false → has_address (part_of m r j).place c ≡ false
missed m r j a len size count c b e f g h i no_one =
    (λ k. has_address (place_at (sym e k) (part_length r.cell_size (count_at m (sym e k)))) c)
    ∙ sym (i ∙ ap (λ n. has_address (place_at a n) c) (f ∙ (λ k. part_length (g k) (h k)))) ∙ no_one

-- and one that has it
pub found_at : (a len size cell_size count c : ℕ) (b : Bool) → len ≡ part_length size count → size ≡ cell_size → b ≡ has_address (place_at a len) c → b ≡ true → has_address (place_at a (part_length cell_size count)) c ≡ true
found_at a len size cell_size count c b e f g h = ap (λ n. has_address (place_at a n) c) (sym (e ∙ ap (λ k. part_length k count) f)) ∙ sym g ∙ h

-- whether the open part was met
pub none_past : (m : ℕ → ℕ) (r : Root) → false ≡ is_past m r 0
unfolding any_below
none_past m r = refl

pub past_next : (m : ℕ → ℕ) (r : Root) (n a : ℕ) (past now : Bool) → a ≡ part_addr m r.first n → past ≡ is_past m r n → now ≡ ((a == r.open_part) || past) → now ≡ is_past m r (n + 1)
unfolding any_below
past_next m r n a past now e f g = g ∙ (λ i. (e i == r.open_part) || f i) ∙ sym (ap (is_past m r) (let h : n + 1 ≡ suc n = omega arith in h))
