-- A part is linked after the last one of a pool.
use Rattle.std.proofs.Common.{◌≡◌, ◌≢◌, ℕ, zero, suc, ◌+◌, ◌-◌, ◌*◌, ◌/◌, ◌<◌, ◌≤◌, inl, inr, true, false, [], ◌∷◌, ◌++◌, ltb, Some, refl, sym, ap, ◌∙◌, subst, arith}
use Rattle.std.specs.Prelude.{◌&&◌}
use Rattle.std.proofs.lemmas.Bool.{cases_lt}
use Rattle.std.proofs.lemmas.List.FromFn.{map-range_with_len_more}
use Rattle.std.specs.FinMap.{FinMap, get, nat_cmp-IsAntisymmetric}
use Rattle.std.specs.FinSet as set
use Rattle.std.specs.Cmp.{nat_cmp_total}
use Rattle.mvs_model.specs.declared.name.Name.{Name}
use Rattle.mvs_model.specs.Name.{name_cmp}
use Rattle.mvs_model.specs.Finite.{count_below}
use Rattle.mvs_model.specs.Place.{place_at}
use Rattle.mvs_model.specs.Storage.{Storage}
use Rattle.mvs_model.specs.Pools.{part_length, first_cell}
use Rattle.mvs_model.specs.Changes.{with_part}
use Rattle.mvs_model.proofs.TakenCells.{same_test}
use Rattle.cell_pool.specs.Layout.{byte_of, word, next_at, count_at, taken_at, size_at, flag, flag_room, head_length, IsLaid}
use Rattle.cell_pool.specs.Roots.{Root, part_addr, part_at, part_of, parts_of, taken_of, pool_of}
use Rattle.cell_pool.specs.Agree.{IsChained, AgreeParts, IsCounted}
use Rattle.cell_pool.specs.Laying.{PutsWord}
use Rattle.cell_pool.specs.Roots.{extended, free_in, AreFull}
use Rattle.cell_pool.proofs.Counted.{free_next, none_of_full, full_same, counted_same}
use Rattle.cell_pool.proofs.Below.{map_same}
use Rattle.cell_pool.proofs.Chains.{same_word, same_flag}
use Rattle.cell_pool.proofs.Taken.{TakenAt, found, taken_from, same_taken, contains-taken}
use Rattle.cell_pool.proofs.Only.{only, head_covered}
use Rattle.cell_pool.proofs.Only.{misses}
use Rattle.cell_pool.proofs.Walking.{next_addr}
use Rattle.mvs_model.proofs.Below.{count_same, count_none}

module _ (m n : ℕ → ℕ) (q : Root) where
  parts_same' : ((j : ℕ) → j < q.count → part_of n q j ≡ part_of m q j) → parts_of n q ≡ parts_of m q
  unfolding parts_of
  parts_same' h = map_same (part_of n q) (part_of m q) q.count h

module _ (roots : FinMap name_cmp Root) (old new : Storage) (agree : AgreeParts roots old) (name : Name) (r : Root) (is : get roots name ≡ Some r) (k : ℕ) (last : r.count ≡ k + 1) (a : ℕ) (w : PutsWord old (part_addr (byte_of old) r.first k) a new)
    (size : ℕ) (few : size ≤ 65536) (next : next_at (byte_of old) a ≡ 0) (cells : count_at (byte_of old) a ≡ size) (none : taken_at (byte_of old) a ≡ 0) (sized : size_at (byte_of old) a ≡ r.cell_size) (flags : (i : ℕ) → i < flag_room size → flag (byte_of old) a i ≡ false)
    (beside : (x : ℕ) → a ≤ x → x < a + head_length size → part_addr (byte_of old) r.first k ≤ x → x < part_addr (byte_of old) r.first k + 4 → ⊥) where
  lk : k < r.count
  lk = omega arith

  -- a part of any pool: its bytes before the cells are the same, but for the word of the last part
  module _ (n : Name) (q : Root) (iq : get roots n ≡ Some q) (j : ℕ) (lj : j < q.count) where
    same_at : (t : ℕ) → t < head_length (count_at (byte_of old) (part_addr (byte_of old) q.first j)) → (part_addr (byte_of old) q.first j ≡ part_addr (byte_of old) r.first k → 4 ≤ t) → byte_of new (part_addr (byte_of old) q.first j + t) ≡ byte_of old (part_addr (byte_of old) q.first j + t)
    same_at t l h = w.others _ (λ low high.
        let e = (only roots old agree n name q r j k ((part_addr (byte_of old) q.first j + t) / 8) iq is lj lk (head_covered roots old agree q j _ (omega arith) (omega arith)) (head_covered roots old agree r k _ low (omega arith))).2 in
        let g = h e in absurd (omega arith))

    word_at : (t : ℕ) → t + 4 ≤ 16 → (part_addr (byte_of old) q.first j ≡ part_addr (byte_of old) r.first k → 4 ≤ t) → word (byte_of new) (part_addr (byte_of old) q.first j + t) ≡ word (byte_of old) (part_addr (byte_of old) q.first j + t)
    word_at t l h = same_word (byte_of old) (byte_of new) _ (same_at t (omega arith) h) (at 1 (omega arith)) (at 2 (omega arith)) (at 3 (omega arith)) where
      at : (d : ℕ) → d < 4 → byte_of new (part_addr (byte_of old) q.first j + t + d) ≡ byte_of old (part_addr (byte_of old) q.first j + t + d)
      at d m = let e : part_addr (byte_of old) q.first j + t + d ≡ part_addr (byte_of old) q.first j + (t + d) = omega arith in ap (byte_of new) e ∙ same_at (t + d) (omega arith) (λ f. let g = h f in omega arith) ∙ ap (byte_of old) (sym e)

    next_same : part_addr (byte_of old) q.first j ≢ part_addr (byte_of old) r.first k → next_at (byte_of new) (part_addr (byte_of old) q.first j) ≡ next_at (byte_of old) (part_addr (byte_of old) q.first j)
    next_same ne = let e : part_addr (byte_of old) q.first j + 0 ≡ part_addr (byte_of old) q.first j = omega arith in ap (word (byte_of new)) (sym e) ∙ word_at 0 (omega arith) (λ f. absurd (ne f)) ∙ ap (word (byte_of old)) e

    count_is : count_at (byte_of new) (part_addr (byte_of old) q.first j) ≡ count_at (byte_of old) (part_addr (byte_of old) q.first j)
    count_is = word_at 4 (omega arith) (λ f. omega arith)

    flag_is : (i : ℕ) → i < flag_room (count_at (byte_of old) (part_addr (byte_of old) q.first j)) → flag (byte_of new) (part_addr (byte_of old) q.first j) i ≡ flag (byte_of old) (part_addr (byte_of old) q.first j) i
    flag_is i l = same_flag (byte_of old) (byte_of new) _ i (let e : part_addr (byte_of old) q.first j + 16 + i / 8 ≡ part_addr (byte_of old) q.first j + (16 + i / 8) = omega arith in ap (byte_of new) e ∙ same_at (16 + i / 8) (omega arith) (λ f. omega arith) ∙ ap (byte_of old) (sym e))

    laid_is : IsLaid (byte_of new) q.cell_size (part_addr (byte_of old) q.first j)
    laid_is = let l = (agree.chained n q iq).parts j lj in record {
      sized = word_at 12 (omega arith) (λ f. omega arith) ∙ l.sized;
      few = subst (λ c. c ≤ 65536) (sym count_is) l.few;
      taken = word_at 8 (omega arith) (λ f. omega arith) ∙ l.taken ∙ sym (ap (λ c. count_below c (flag (byte_of new) (part_addr (byte_of old) q.first j))) count_is ∙ count_same _ _ _ (λ i h. flag_is i (omega arith)));
      past = λ i low high. flag_is i (subst (λ c. i < flag_room c) count_is high) ∙ l.past i (subst (λ c. c ≤ i) count_is low) (subst (λ c. i < flag_room c) count_is high);
    }

  -- the new part
  pub new_word : (t : ℕ) → t + 4 ≤ 16 → word (byte_of new) (a + t) ≡ word (byte_of old) (a + t)
  new_word t l = same_word (byte_of old) (byte_of new) (a + t) (w.others _ (λ low high. beside _ (omega arith) (omega arith) low high)) (w.others _ (λ low high. beside _ (omega arith) (omega arith) low high)) (w.others _ (λ low high. beside _ (omega arith) (omega arith) low high)) (w.others _ (λ low high. beside _ (omega arith) (omega arith) low high))

  new_next : next_at (byte_of new) a ≡ 0
  new_next = let e : a + 0 ≡ a = omega arith in ap (word (byte_of new)) (sym e) ∙ new_word 0 (omega arith) ∙ ap (word (byte_of old)) e ∙ next

  pub new_count : count_at (byte_of new) a ≡ size
  new_count = new_word 4 (omega arith) ∙ cells

  pub new_flag : (i : ℕ) → i < flag_room size → flag (byte_of new) a i ≡ false
  new_flag i l = same_flag (byte_of old) (byte_of new) a i (w.others _ (λ low high. beside _ (omega arith) (omega arith) low high)) ∙ flags i l

  -- no part but the last of the pool stands at its address
  apart_name : (n : Name) (q : Root) (iq : get roots n ≡ Some q) (j : ℕ) → j < q.count → part_addr (byte_of old) q.first j ≡ part_addr (byte_of old) r.first k → n ≡ name
  apart_name n q iq j l e = (only roots old agree n name q r j k (part_addr (byte_of old) q.first j / 8) iq is l lk (head_covered roots old agree q j _ (omega arith) (omega arith)) (head_covered roots old agree r k _ (omega arith) (omega arith))).0

  earlier : (j : ℕ) → j < k → part_addr (byte_of old) r.first j ≢ part_addr (byte_of old) r.first k
  earlier j l e = misses roots old agree name r is j k l lk (part_addr (byte_of old) r.first j / 8) (head_covered roots old agree r j _ (omega arith) (omega arith)) (head_covered roots old agree r k _ (omega arith) (omega arith))

  -- where the parts are now
  addr_other : (n : Name) (q : Root) → get roots n ≡ Some q → n ≢ name → (j : ℕ) → j ≤ q.count → part_addr (byte_of new) q.first j ≡ part_addr (byte_of old) q.first j
  unfolding part_addr
  addr_other n q iq ne zero l = refl
  addr_other n q iq ne (suc j) l = ap (next_at (byte_of new)) (addr_other n q iq ne j (omega arith)) ∙ next_same n q iq j (omega arith) (λ e. ne (apart_name n q iq j (omega arith) e))

  addr_same : (j : ℕ) → j ≤ k → part_addr (byte_of new) r.first j ≡ part_addr (byte_of old) r.first j
  unfolding part_addr
  addr_same zero l = refl
  addr_same (suc j) l = ap (next_at (byte_of new)) (addr_same j (omega arith)) ∙ next_same name r is j (omega arith) (earlier j (omega arith))

  -- each part has as many cells as before, and as many taken
  count_before : (j : ℕ) → j < r.count → count_at (byte_of new) (part_addr (byte_of new) r.first j) ≡ count_at (byte_of old) (part_addr (byte_of old) r.first j)
  count_before j l = ap (count_at (byte_of new)) (addr_same j (omega arith)) ∙ count_is name r is j l

  taken_before : (j : ℕ) → j < r.count → taken_at (byte_of new) (part_addr (byte_of new) r.first j) ≡ taken_at (byte_of old) (part_addr (byte_of old) r.first j)
  taken_before j l = ap (taken_at (byte_of new)) (addr_same j (omega arith)) ∙ word_at name r is j l 8 (omega arith) (λ f. omega arith)

  pub full_before : AreFull (byte_of old) r.first r.count → AreFull (byte_of new) r.first r.count
  full_before = full_same (byte_of old) (byte_of new) r.first r.count count_before taken_before

  pub counted_other : (n : Name) (q : Root) → get roots n ≡ Some q → n ≢ name → IsCounted (byte_of old) q → IsCounted (byte_of new) q
  counted_other n q iq ne = counted_same (byte_of old) (byte_of new) q (λ j l. addr_other n q iq ne j (omega arith))
      (λ j l. ap (count_at (byte_of new)) (addr_other n q iq ne j (omega arith)) ∙ count_is n q iq j l)
      (λ j l. ap (taken_at (byte_of new)) (addr_other n q iq ne j (omega arith)) ∙ word_at n q iq j l 8 (omega arith) (λ f. omega arith))

  pub addr_new : part_addr (byte_of new) r.first (k + 1) ≡ a
  addr_new = next_addr (byte_of new) r.first k ∙ ap (next_at (byte_of new)) (addr_same k (omega arith)) ∙ w.number

  addr_end : part_addr (byte_of new) r.first (k + 1 + 1) ≡ 0
  addr_end = next_addr (byte_of new) r.first (k + 1) ∙ ap (next_at (byte_of new)) addr_new ∙ new_next

  -- where all parts before it are full, the new one is the open one
  pub counted_more : size ≡ r.secondary → AreFull (byte_of old) r.first r.count → IsCounted (byte_of new) (extended r a)
  counted_more e full = record {
    last = λ j f. sym (ap (part_addr (byte_of new) r.first) (let g : j ≡ k + 1 = omega arith in g) ∙ addr_new);
    free = sym (free_next (byte_of new) r.first r.count ∙ (λ t. (cells_new t - taken_new t) + none_before t) ∙ (let g : (r.secondary - 0) + 0 ≡ r.secondary = omega arith in g));
    number = r.count;
    is_part = omega arith;
    open_part = sym (ap (part_addr (byte_of new) r.first) last ∙ addr_new);
    full = full_before full;
  } where
    cells_new : count_at (byte_of new) (part_addr (byte_of new) r.first r.count) ≡ r.secondary
    cells_new = ap (λ j. count_at (byte_of new) (part_addr (byte_of new) r.first j)) last ∙ ap (count_at (byte_of new)) addr_new ∙ new_count ∙ e

    taken_new : taken_at (byte_of new) (part_addr (byte_of new) r.first r.count) ≡ 0
    taken_new = ap (λ j. taken_at (byte_of new) (part_addr (byte_of new) r.first j)) last ∙ ap (taken_at (byte_of new)) addr_new ∙ new_word 8 (omega arith) ∙ none

    none_before : free_in (byte_of new) r.first r.count ≡ 0
    none_before = none_of_full (byte_of new) r.first r.count (full_before full)

  -- the parts of the pool
  part_same : (j : ℕ) → j < r.count → part_of (byte_of new) r j ≡ part_of (byte_of old) r j
  part_same j l = ap (part_at (byte_of new) r.cell_size) (addr_same j (omega arith)) ∙ ap (λ c. record { place = place_at (part_addr (byte_of old) r.first j) (part_length r.cell_size c); count = c }) (count_is name r is j l)

  part_new : part_of (byte_of new) r (k + 1) ≡ record { place = place_at a (part_length r.cell_size size); count = size }
  part_new = ap (part_at (byte_of new) r.cell_size) addr_new ∙ ap (λ c. record { place = place_at a (part_length r.cell_size c); count = c }) new_count

  parts_more : parts_of (byte_of new) (extended r a) ≡ parts_of (byte_of old) r ++ record { place = place_at a (part_length r.cell_size size); count = size } ∷ []
  unfolding parts_of
  parts_more =
      map-range_with_len_more (part_of (byte_of new) r) 0 r.count r.count (omega arith)
      ∙ (λ t. map_same (part_of (byte_of new) r) (part_of (byte_of old) r) r.count (λ j l. part_same j l) t ++ (ap (part_of (byte_of new) r) last ∙ part_new) t ∷ [])

  -- its taken cells
  to_new : (c : ℕ) → TakenAt (byte_of old) r c → TakenAt (byte_of new) (extended r a) c
  to_new c t = let l = t.is_part in record {
    part = t.part;
    cell = t.cell;
    is_part = omega arith;
    is_cell = subst (λ n. t.cell < n) (sym (ap (λ x. x.count) (part_same t.part t.is_part))) t.is_cell;
    at = t.at ∙ ap (λ x. first_cell r.cell_size x + t.cell * r.cell_size) (sym (part_same t.part t.is_part));
    set = ap (λ b. flag (byte_of new) b t.cell) (addr_same t.part (omega arith)) ∙ flag_is name r is t.part t.is_part t.cell (let h = t.is_cell in omega arith) ∙ t.set;
  }

  to_old : (c : ℕ) → TakenAt (byte_of new) (extended r a) c → TakenAt (byte_of old) r c
  to_old c t = elim (cases_lt t.part r.count) [
    | inl l ↦
        let low : t.cell < count_at (byte_of old) (part_addr (byte_of old) r.first t.part) = subst (λ n. t.cell < n) (ap (λ x. x.count) (part_same t.part l)) t.is_cell in
        record {
          part = t.part;
          cell = t.cell;
          is_part = l;
          is_cell = low;
          at = t.at ∙ ap (λ x. first_cell r.cell_size x + t.cell * r.cell_size) (part_same t.part l);
          set = sym (ap (λ b. flag (byte_of new) b t.cell) (addr_same t.part (omega arith)) ∙ flag_is name r is t.part l t.cell (omega arith)) ∙ t.set;
        }
    | inr l ↦
        let h : t.part < r.count + 1 = t.is_part in
        let e : t.part ≡ k + 1 = omega arith in
        let at : part_addr (byte_of new) r.first t.part ≡ a = ap (part_addr (byte_of new) r.first) e ∙ addr_new in
        let low : t.cell < size = subst (λ n. t.cell < n) (ap (count_at (byte_of new)) at ∙ new_count) t.is_cell in
        let f : true ≡ false = sym t.set ∙ ap (λ b. flag (byte_of new) b t.cell) at ∙ new_flag t.cell (omega arith) in absurd (cc)
  ]

  taken_same : taken_of (byte_of new) (extended r a) ≡ taken_of (byte_of old) r
  taken_same = set.same_set nat_cmp_total nat_cmp-IsAntisymmetric _ _ (λ c.
      contains-taken (byte_of new) (extended r a) c ∙ ap (λ b. ltb c 2147483648 && b) (same_test _ _ (λ e. taken_from (byte_of old) r c (to_old c (found (byte_of new) (extended r a) c e))) (λ e. taken_from (byte_of new) (extended r a) c (to_new c (found (byte_of old) r c e)))) ∙ sym (contains-taken (byte_of old) r c))

  pub pool_more : pool_of (byte_of new) (extended r a) ≡ with_part (pool_of (byte_of old) r) size (place_at a (part_length r.cell_size size))
  pool_more = λ t. record { subpool = r.subpool; cell_size = r.cell_size; primary = r.primary; secondary = r.secondary; side = r.side; parts = parts_more t; taken = taken_same t }

  pub part_last : part_of (byte_of new) (extended r a) r.count ≡ record { place = place_at a (part_length r.cell_size size); count = size }
  part_last = ap (part_of (byte_of new) r) last ∙ part_new

  -- other pools
  pub pool_other : (n : Name) (q : Root) → get roots n ≡ Some q → n ≢ name → pool_of (byte_of new) q ≡ pool_of (byte_of old) q
  pool_other n q iq ne = λ t. record (pool_of (byte_of old) q) { parts = parts t; taken = taken t } where
    part : (j : ℕ) → j < q.count → part_of (byte_of new) q j ≡ part_of (byte_of old) q j
    part j l = ap (part_at (byte_of new) q.cell_size) (addr_other n q iq ne j (omega arith)) ∙ ap (λ c. record { place = place_at (part_addr (byte_of old) q.first j) (part_length q.cell_size c); count = c }) (count_is n q iq j l)

    parts : parts_of (byte_of new) q ≡ parts_of (byte_of old) q
    parts = parts_same' (byte_of old) (byte_of new) q part

    to : (c : ℕ) → TakenAt (byte_of old) q c → TakenAt (byte_of new) q c
    to c t = let l = t.is_part in record {
      part = t.part;
      cell = t.cell;
      is_part = t.is_part;
      is_cell = subst (λ n. t.cell < n) (sym (ap (λ x. x.count) (part t.part t.is_part))) t.is_cell;
      at = t.at ∙ ap (λ x. first_cell q.cell_size x + t.cell * q.cell_size) (sym (part t.part t.is_part));
      set = ap (λ b. flag (byte_of new) b t.cell) (addr_other n q iq ne t.part (omega arith)) ∙ flag_is n q iq t.part t.is_part t.cell (let h = t.is_cell in omega arith) ∙ t.set;
    }

    back : (c : ℕ) → TakenAt (byte_of new) q c → TakenAt (byte_of old) q c
    back c t =
        let l = t.is_part in
        let low : t.cell < count_at (byte_of old) (part_addr (byte_of old) q.first t.part) = subst (λ n. t.cell < n) (ap (λ x. x.count) (part t.part t.is_part)) t.is_cell in
        record {
          part = t.part;
          cell = t.cell;
          is_part = t.is_part;
          is_cell = low;
          at = t.at ∙ ap (λ x. first_cell q.cell_size x + t.cell * q.cell_size) (part t.part t.is_part);
          set = sym (ap (λ b. flag (byte_of new) b t.cell) (addr_other n q iq ne t.part (omega arith)) ∙ flag_is n q iq t.part t.is_part t.cell (omega arith)) ∙ t.set;
        }

    taken : taken_of (byte_of new) q ≡ taken_of (byte_of old) q
    taken = same_taken (byte_of old) (byte_of new) q (λ c. same_test _ _ (λ e. taken_from (byte_of old) q c (back c (found (byte_of new) q c e))) (λ e. taken_from (byte_of new) q c (to c (found (byte_of old) q c e))))

  -- chains
  pub chain_more : IsChained new (extended r a)
  chain_more = let c = agree.chained name r is in record {
    size = c.size;
    small = c.small;
    some = omega arith;
    parts = λ j l. elim (cases_lt j r.count) [
      | inl h ↦ subst (IsLaid (byte_of new) r.cell_size) (sym (addr_same j (omega arith))) (laid_is name r is j h)
      | inr h ↦ let e : j ≡ k + 1 = omega arith in subst (IsLaid (byte_of new) r.cell_size) (sym (ap (part_addr (byte_of new) r.first) e ∙ addr_new)) laid_new
    ];
    last = ap (λ n. part_addr (byte_of new) r.first (n + 1)) last ∙ addr_end;
    fill = c.fill ∙ ap (λ g. g.fill) (sym w.regions);
  } where
    laid_new : IsLaid (byte_of new) r.cell_size a
    laid_new = record {
      sized = new_word 12 (omega arith) ∙ sized;
      few = subst (λ n. n ≤ 65536) (sym new_count) few;
      taken = new_word 8 (omega arith) ∙ none ∙ sym (ap (λ n. count_below n (flag (byte_of new) a)) new_count ∙ count_none size (flag (byte_of new) a) (λ i h. new_flag i (omega arith)));
      past = λ i low high. new_flag i (subst (λ n. i < flag_room n) new_count high);
    }

  pub chain_other : (n : Name) (q : Root) → get roots n ≡ Some q → n ≢ name → IsChained new q
  chain_other n q iq ne = let c = agree.chained n q iq in record {
    size = c.size;
    small = c.small;
    some = c.some;
    parts = λ j l. subst (IsLaid (byte_of new) q.cell_size) (sym (addr_other n q iq ne j (omega arith))) (laid_is n q iq j l);
    last = addr_other n q iq ne q.count (omega arith) ∙ c.last;
    fill = c.fill ∙ ap (λ g. g.fill) (sym w.regions);
  }
