-- What a change of a cell's flag does to the pools.
use Rattle.std.proofs.Common.{◌≡◌, ◌≢◌, ℕ, ◌+◌, ◌*◌, ◌/◌, ◌<◌, ◌≤◌, ◌⊎◌, inl, inr, Bool, true, false, cond, Option, Some, None, refl, sym, ap, ◌∙◌, subst, arith, ltb}
use Rattle.std.specs.Prelude.{is_some, map, ◌==◌, ◌&&◌, ◌||◌, not, unwrap_or}
use Rattle.std.specs.List.{Contains}
use Rattle.std.specs.Option.{option_map}
use Rattle.std.specs.Ordering.{nat_cmp}
use Rattle.std.specs.Cmp.{nat_cmp_total}
use Rattle.std.specs.FinSet as set
use Rattle.std.proofs.lemmas.Bool.{cases_eq, cases_lt}
use Rattle.std.proofs.lemmas.Bool.Decides.{nat_tests}
use Rattle.std.specs.FinMap.{FinMap, get, retain_keys, nat_cmp-IsAntisymmetric}
use Rattle.mvs_model.specs.declared.name.Name.{Name}
use Rattle.mvs_model.specs.Name.{name_cmp, same_name}
use Rattle.mvs_model.specs.Place.{place_at}
use Rattle.mvs_model.specs.Finite.{Changes, count_below}
use Rattle.mvs_model.specs.Storage.{Storage, IsStorage, InRegion, Covers, has_address}
use Rattle.mvs_model.specs.Owners.{Owners}
use Rattle.mvs_model.specs.Pools.{Pool, Part, part_length, first_cell, IsCell, cell_at}
use Rattle.mvs_model.specs.State.{State, granted}
use Rattle.mvs_model.specs.View.{IsBounded, holding, state_of}
use Rattle.mvs_model.specs.Changes.{Disjoint, GivesCell}
use Rattle.mvs_model.specs.WellFormed.{Apart}
use Rattle.mvs_model.proofs.Orders.{same_name_is, differs}
use Rattle.mvs_model.proofs.Tables.{eq_by_cmp_is}
use Rattle.mvs_model.proofs.Made.{get-retained}
use Rattle.mvs_model.proofs.PartsGiven.{given_apart}
use Rattle.mvs_model.proofs.CellPlaces.{cell_inside, after_cell}
use Rattle.mvs_model.proofs.TakenCells.{same_test, never}
use Rattle.cell_pool.specs.Layout.{byte_of, word, flag, next_at, count_at, taken_at, size_at, flag_room, head_length, IsLaid}
use Rattle.cell_pool.specs.Roots.{Root, part_addr, part_at, part_of, parts_of, is_taken, taken_of, pool_of, pools_of}
use Rattle.cell_pool.specs.Agree.{AgreeParts}
use Rattle.cell_pool.specs.Marks.{IsMark, Marks}
use Rattle.cell_pool.proofs.Chains.{same_word, same_flag, same_addr, same_part, same_parts}
use Rattle.cell_pool.proofs.Taken.{TakenAt, found, taken_from, same_taken, contains-taken, set_found, set_from, taken_cell}
use Rattle.mvs_model.proofs.Stand.{Stand, held_state, bytes_state, apart_from}
use Rattle.cell_pool.proofs.Frame.{get-pools_of, root_found, pool_from}
use Rattle.cell_pool.proofs.SameState.{same_state, same_in_pools}
use Rattle.cell_pool.proofs.Only.{only, stands, part_held, head_covered, not_in_head}
use Rattle.mvs_model.proofs.Below.{count_same}

pub same_index : (i j size : ℕ) → 1 ≤ size → i * size ≡ j * size → i ≡ j
same_index i j size some e = elim (cases_lt i j) [
  | inl l ↦ absurd (let h : i * size + size ≤ j * size = after_cell i j size l in omega arith)
  | inr l ↦ elim (cases_lt j i) [ inl k ↦ absurd (let h : j * size + size ≤ i * size = after_cell j i size k in omega arith) | inr k ↦ omega arith ]
]

-- a byte that is there, and is the same with 0 for none, is the same
pub same_byte : (st new : Storage) (a : ℕ) → IsStorage st → IsStorage new → new.held ≡ st.held → byte_of new a ≡ byte_of st a → get new.bytes a ≡ get st.bytes a
same_byte st new a is now held e = at (get new.bytes a) (get st.bytes a) (now.bytes a ∙ ap (λ m. is_some (get m (a / 8))) held ∙ sym (is.bytes a)) e where
  at : (v w : Option ℕ) → is_some v ≡ is_some w → unwrap_or v 0 ≡ unwrap_or w 0 → v ≡ w
  at None None f g = refl
  at None (Some b) f g = absurd (let h : false ≡ true = f in cc)
  at (Some b) None f g = absurd (let h : true ≡ false = f in cc)
  at (Some b) (Some c) f g = ap Some g

module _ (roots : FinMap name_cmp Root) (old new : Storage) (agree : AgreeParts roots old) (name : Name) (r : Root) (is : get roots name ≡ Some r) (p : ℕ) (lp : p < r.count) (i : ℕ) (li : i < count_at (byte_of old) (part_addr (byte_of old) r.first p))
    (v : Bool) (taken : ℕ) (marks : Marks old (part_addr (byte_of old) r.first p) i v taken new) where
  mark_covered : (x : ℕ) → IsMark (part_addr (byte_of old) r.first p) i x → Covers (part_of (byte_of old) r p).place (x / 8)
  mark_covered x (inl h) = head_covered roots old agree r p x (let l : part_addr (byte_of old) r.first p + 8 ≤ x = h.0 in omega arith) (let l : x < part_addr (byte_of old) r.first p + 12 = h.1 in omega arith)
  mark_covered x (inr e) = head_covered roots old agree r p x (omega arith) (omega arith)

  -- what may be read and written is no byte of the mark
  mark_head : (x : ℕ) → IsMark (part_addr (byte_of old) r.first p) i x → (part_addr (byte_of old) r.first p ≤ x) × (x < part_addr (byte_of old) r.first p + head_length (count_at (byte_of old) (part_addr (byte_of old) r.first p)))
  mark_head x (inl h) = ((let l : part_addr (byte_of old) r.first p + 8 ≤ x = h.0 in omega arith), (let l : x < part_addr (byte_of old) r.first p + 12 = h.1 in omega arith))
  mark_head x (inr e) = (omega arith, omega arith)

  pub granted_same : (o : Owners) (x : ℕ) → granted (state_of old o (pools_of roots old)) x ≡ true → get new.bytes x ≡ get old.bytes x
  granted_same o x e = same_byte old new x agree.storage marks.storage marks.held (marks.others x (λ m. let h = mark_head x m in not_in_head roots old agree o x e name r p is lp h.0 h.1))

  -- another part of some pool
  module _ (n : Name) (q : Root) (iq : get roots n ≡ Some q) (j : ℕ) (lj : j < q.count) where
    one : (x : ℕ) → IsMark (part_addr (byte_of old) r.first p) i x → part_addr (byte_of old) q.first j ≤ x → x < part_addr (byte_of old) q.first j + head_length (count_at (byte_of old) (part_addr (byte_of old) q.first j))
        → (n ≡ name) × (q ≡ r) × (part_addr (byte_of old) q.first j ≡ part_addr (byte_of old) r.first p)
    one x m low high = only roots old agree n name q r j p (x / 8) iq is lj lp (head_covered roots old agree q j x low high) (mark_covered x m)

    -- its words but the number of taken cells
    unmarked : (a b k x : ℕ) → a ≡ b → x ≡ a + k → k < 16 → (k < 8) ⊎ (12 ≤ k) → IsMark b i x → ⊥
    unmarked a b k x e f l (inl low) (inl m) = absurd (let h : b + 8 ≤ x = m.0 in omega arith)
    unmarked a b k x e f l (inr high) (inl m) = absurd (let h : x < b + 12 = m.1 in omega arith)
    unmarked a b k x e f l s (inr m) = absurd (omega arith)

    byte_same : (k : ℕ) → k < 16 → (k < 8) ⊎ (12 ≤ k) → byte_of new (part_addr (byte_of old) q.first j + k) ≡ byte_of old (part_addr (byte_of old) q.first j + k)
    byte_same k l s = marks.others _ (λ m. let e = one _ m (omega arith) (omega arith) in unmarked _ _ k _ e.2 refl l s m)

    word_same : (k : ℕ) → k < 13 → (k < 5) ⊎ (12 ≤ k) → word (byte_of new) (part_addr (byte_of old) q.first j + k) ≡ word (byte_of old) (part_addr (byte_of old) q.first j + k)
    word_same k l s = same_word (byte_of old) (byte_of new) _ (byte_same k (omega arith) (low s)) (at 1 (omega arith) (omega arith)) (at 2 (omega arith) (omega arith)) (at 3 (omega arith) (omega arith)) where
      low : (k < 5) ⊎ (12 ≤ k) → (k < 8) ⊎ (12 ≤ k)
      low (inl h) = inl (omega arith)
      low (inr h) = inr h

      either : (t : ℕ) → t < 4 → (k < 5) ⊎ (12 ≤ k) → (k + t < 8) ⊎ (12 ≤ k + t)
      either t h (inl low) = inl (omega arith)
      either t h (inr high) = inr (omega arith)

      at : (t : ℕ) → t < 4 → k + t < 16 → byte_of new (part_addr (byte_of old) q.first j + k + t) ≡ byte_of old (part_addr (byte_of old) q.first j + k + t)
      at t h f = let e : part_addr (byte_of old) q.first j + k + t ≡ part_addr (byte_of old) q.first j + (k + t) = omega arith in ap (byte_of new) e ∙ byte_same (k + t) f (either t h s) ∙ ap (byte_of old) (sym e)

    next_same : next_at (byte_of new) (part_addr (byte_of old) q.first j) ≡ next_at (byte_of old) (part_addr (byte_of old) q.first j)
    next_same = let e : part_addr (byte_of old) q.first j + 0 ≡ part_addr (byte_of old) q.first j = omega arith in ap (word (byte_of new)) (sym e) ∙ word_same 0 (omega arith) (inl (omega arith)) ∙ ap (word (byte_of old)) e

    count_is : count_at (byte_of new) (part_addr (byte_of old) q.first j) ≡ count_at (byte_of old) (part_addr (byte_of old) q.first j)
    count_is = word_same 4 (omega arith) (inl (omega arith))

    size_is : size_at (byte_of new) (part_addr (byte_of old) q.first j) ≡ size_at (byte_of old) (part_addr (byte_of old) q.first j)
    size_is = word_same 12 (omega arith) (inr (omega arith))

    -- its flags and its count, where it is another part
    flag_else : (part_addr (byte_of old) q.first j ≢ part_addr (byte_of old) r.first p) → (k : ℕ) → k < flag_room (count_at (byte_of old) (part_addr (byte_of old) q.first j)) → flag (byte_of new) (part_addr (byte_of old) q.first j) k ≡ flag (byte_of old) (part_addr (byte_of old) q.first j) k
    flag_else ne k l = same_flag (byte_of old) (byte_of new) _ k (marks.others _ (λ m. ne (one _ m (omega arith) (omega arith)).2))

    pub taken_else : (part_addr (byte_of old) q.first j ≢ part_addr (byte_of old) r.first p) → taken_at (byte_of new) (part_addr (byte_of old) q.first j) ≡ taken_at (byte_of old) (part_addr (byte_of old) q.first j)
    taken_else ne = same_word (byte_of old) (byte_of new) _ (at 8 (omega arith)) (next 8 1 (omega arith)) (next 8 2 (omega arith)) (next 8 3 (omega arith)) where
      at : (k : ℕ) → k < 16 → byte_of new (part_addr (byte_of old) q.first j + k) ≡ byte_of old (part_addr (byte_of old) q.first j + k)
      at k l = marks.others _ (λ m. ne (one _ m (omega arith) (omega arith)).2)

      next : (k t : ℕ) → k + t < 16 → byte_of new (part_addr (byte_of old) q.first j + k + t) ≡ byte_of old (part_addr (byte_of old) q.first j + k + t)
      next k t l = let e : part_addr (byte_of old) q.first j + k + t ≡ part_addr (byte_of old) q.first j + (k + t) = omega arith in ap (byte_of new) e ∙ at (k + t) l ∙ ap (byte_of old) (sym e)

    -- a flag of any part but the one that is changed
    flag_other : (k : ℕ) → k < count_at (byte_of old) (part_addr (byte_of old) q.first j) → (part_addr (byte_of old) q.first j ≡ part_addr (byte_of old) r.first p → k ≢ i) → flag (byte_of new) (part_addr (byte_of old) q.first j) k ≡ flag (byte_of old) (part_addr (byte_of old) q.first j) k
    flag_other k l ne = elim (cases_eq (part_addr (byte_of old) q.first j) (part_addr (byte_of old) r.first p)) [
      | inl e ↦ ap (λ b. flag (byte_of new) b k) e ∙ marks.flags k ∙ ap (λ b. cond b v (flag (byte_of old) (part_addr (byte_of old) r.first p) k)) (unequal k i (ne e)) ∙ ap (λ b. flag (byte_of old) b k) (sym e)
      | inr d ↦ flag_else d k (omega arith)
    ] where
      unequal : (t i : ℕ) → t ≢ i → (t == i) ≡ false
      unequal t i h = grind (arith, nat_tests)

    -- laid out as before
    pub laid_now : taken ≡ count_below (count_at (byte_of old) (part_addr (byte_of old) r.first p)) (flag (byte_of new) (part_addr (byte_of old) r.first p)) → IsLaid (byte_of new) q.cell_size (part_addr (byte_of old) q.first j)
    laid_now counted = let k = (agree.chained n q iq).parts j lj in record {
      sized = size_is ∙ k.sized;
      few = subst (λ c. c ≤ 65536) (sym count_is) k.few;
      taken = elim (cases_eq (part_addr (byte_of old) q.first j) (part_addr (byte_of old) r.first p)) [
        | inl e ↦ ap (taken_at (byte_of new)) e ∙ marks.count ∙ counted ∙ sym (ap (λ c. count_below c (flag (byte_of new) (part_addr (byte_of old) q.first j))) count_is ∙ (λ t. count_below (count_at (byte_of old) (e t)) (flag (byte_of new) (e t))))
        | inr ne ↦ taken_else ne ∙ k.taken ∙ sym (ap (λ c. count_below c (flag (byte_of new) (part_addr (byte_of old) q.first j))) count_is ∙ count_same _ _ _ (λ t l. flag_else ne t (omega arith)))
      ];
      past = λ t low high.
          let low' : count_at (byte_of old) (part_addr (byte_of old) q.first j) ≤ t = subst (λ c. c ≤ t) count_is low in
          let high' : t < flag_room (count_at (byte_of old) (part_addr (byte_of old) q.first j)) = subst (λ c. t < flag_room c) count_is high in
          elim (cases_eq (part_addr (byte_of old) q.first j) (part_addr (byte_of old) r.first p)) [
            | inl e ↦
                let other : t ≢ i = (let s : count_at (byte_of old) (part_addr (byte_of old) q.first j) ≡ count_at (byte_of old) (part_addr (byte_of old) r.first p) = ap (count_at (byte_of old)) e in omega arith) in
                ap (λ b. flag (byte_of new) b t) e ∙ marks.flags t ∙ ap (λ b. cond b v (flag (byte_of old) (part_addr (byte_of old) r.first p) t)) (unequal t i other) ∙ ap (λ b. flag (byte_of old) b t) (sym e) ∙ k.past t low' high'
            | inr ne ↦ flag_else ne t high' ∙ k.past t low' high'
          ];
    } where
      unequal : (t i : ℕ) → t ≢ i → (t == i) ≡ false
      unequal t i h = grind (arith, nat_tests)

  -- the parts of a pool
  module _ (n : Name) (q : Root) (iq : get roots n ≡ Some q) where
    pub addr_is : (j : ℕ) → j ≤ q.count → part_addr (byte_of new) q.first j ≡ part_addr (byte_of old) q.first j
    addr_is = same_addr (byte_of old) (byte_of new) q (λ j l. next_same n q iq j l)

    pub parts_are : parts_of (byte_of new) q ≡ parts_of (byte_of old) q
    parts_are = same_parts (byte_of old) (byte_of new) q (λ j l. next_same n q iq j l) (λ j l. count_is n q iq j l)

    part_is : (j : ℕ) → j < q.count → part_of (byte_of new) q j ≡ part_of (byte_of old) q j
    part_is j l = same_part (byte_of old) (byte_of new) q (λ t h. next_same n q iq t h) j l (count_is n q iq j l)

    pub count_now : (j : ℕ) → j < q.count → count_at (byte_of new) (part_addr (byte_of new) q.first j) ≡ count_at (byte_of old) (part_addr (byte_of old) q.first j)
    count_now j l = ap (λ part. part.count) (part_is j l)

    -- a taken cell from before, or one that is taken now
    earlier : (c : ℕ) (t : TakenAt (byte_of new) q c) → flag (byte_of old) (part_addr (byte_of old) q.first t.part) t.cell ≡ true → TakenAt (byte_of old) q c
    earlier c t e = record {
      part = t.part;
      cell = t.cell;
      is_part = t.is_part;
      is_cell = subst (λ k. t.cell < k) (count_now t.part t.is_part) t.is_cell;
      at = t.at ∙ ap (λ part. first_cell q.cell_size part + t.cell * q.cell_size) (part_is t.part t.is_part);
      set = e;
    }

    later : (c j k : ℕ) → j < q.count → k < count_at (byte_of old) (part_addr (byte_of old) q.first j) → c ≡ first_cell q.cell_size (part_of (byte_of old) q j) + k * q.cell_size → flag (byte_of new) (part_addr (byte_of old) q.first j) k ≡ true → TakenAt (byte_of new) q c
    later c j k l h e f = record {
      part = j;
      cell = k;
      is_part = l;
      is_cell = subst (λ t. k < t) (sym (count_now j l)) h;
      at = e ∙ ap (λ part. first_cell q.cell_size part + k * q.cell_size) (sym (part_is j l));
      set = ap (λ a. flag (byte_of new) a k) (addr_is j (omega arith)) ∙ f;
    }

    set_now : (c : ℕ) (t : TakenAt (byte_of new) q c) → flag (byte_of new) (part_addr (byte_of old) q.first t.part) t.cell ≡ true
    set_now c t = ap (λ a. flag (byte_of new) a t.cell) (sym (addr_is t.part (let l = t.is_part in omega arith))) ∙ t.set

    cell_low : (c : ℕ) (t : TakenAt (byte_of new) q c) → t.cell < count_at (byte_of old) (part_addr (byte_of old) q.first t.part)
    cell_low c t = subst (λ k. t.cell < k) (count_now t.part t.is_part) t.is_cell

    -- a part at the changed one's address is of its pool
    pub one_addr : (j : ℕ) → j < q.count → part_addr (byte_of old) q.first j ≡ part_addr (byte_of old) r.first p → n ≡ name
    one_addr j l e = (only roots old agree n name q r j p (part_addr (byte_of old) q.first j / 8) iq is l lp (head_covered roots old agree q j _ (omega arith) (omega arith)) (head_covered roots old agree r p _ (omega arith) (omega arith))).0

    -- other pools are as before
    pub pool_other : n ≢ name → pool_of (byte_of new) q ≡ pool_of (byte_of old) q
    pool_other ne = λ t. record (pool_of (byte_of old) q) { parts = parts_are t; taken = cells t } where
      cells : taken_of (byte_of new) q ≡ taken_of (byte_of old) q
      cells = same_taken (byte_of old) (byte_of new) q (λ c. same_test _ _
          (λ e. let t = found (byte_of new) q c e in taken_from (byte_of old) q c (earlier c t (sym (flag_other n q iq t.part t.is_part t.cell (cell_low c t) (λ f. absurd (ne (one_addr t.part t.is_part f)))) ∙ set_now c t)))
          (λ e. let t = found (byte_of old) q c e in taken_from (byte_of new) q c (later c t.part t.cell t.is_part t.is_cell t.at (flag_other n q iq t.part t.is_part t.cell t.is_cell (λ f. absurd (ne (one_addr t.part t.is_part f))) ∙ t.set))))

  -- the cell whose flag is changed
  module _ (c : ℕ) (at : c ≡ first_cell r.cell_size (part_of (byte_of old) r p) + i * r.cell_size) where
    covers_cell : (j k : ℕ) → j < r.count → k < count_at (byte_of old) (part_addr (byte_of old) r.first j) → c ≡ first_cell r.cell_size (part_of (byte_of old) r j) + k * r.cell_size → Covers (part_of (byte_of old) r j).place (c / 8)
    covers_cell j k l h e = let some = (agree.chained name r is).size in cell_inside r.cell_size (part_of (byte_of old) r j) c c refl (k, h, e) (omega arith) (omega arith)

    -- is that of one part and number
    pub one_cell : (j k : ℕ) → j < r.count → k < count_at (byte_of old) (part_addr (byte_of old) r.first j) → c ≡ first_cell r.cell_size (part_of (byte_of old) r j) + k * r.cell_size → (part_addr (byte_of old) r.first j ≡ part_addr (byte_of old) r.first p) × (k ≡ i)
    one_cell j k l h e =
        let same = (only roots old agree name name r r j p (c / 8) is is l lp (covers_cell j k l h e) (covers_cell p i lp li at)).2 in
        let first : first_cell r.cell_size (part_of (byte_of old) r j) ≡ first_cell r.cell_size (part_of (byte_of old) r p) = ap (λ a. first_cell r.cell_size (part_at (byte_of old) r.cell_size a)) same in
        let some = (agree.chained name r is).size in
        (same, same_index k i r.cell_size (omega arith) (plus _ _ _ _ first (sym e ∙ at))) where
          plus : (x y s t : ℕ) → x ≡ y → x + s ≡ y + t → s ≡ t
          plus x y s t f g = omega arith

    -- it is below 2 to the 31st
    pub cell_small : c < 2147483648
    cell_small = by (agree.storage.inside (c / 8) r.subpool (part_held roots old agree name r p (c / 8) is lp (covers_cell p i lp li at))) where
      by : InRegion old.regions (place_at (8 * (c / 8)) 8) → c < 2147483648
      by (inl h) = let l : 8 * (c / 8) + 8 ≤ 0x6000 + 4096 * old.regions.below = h.1 in let m = agree.bounded.below in omega arith
      by (inr h) = let l : 8 * (c / 8) + 8 ≤ 0x1000000 + 4096 * old.regions.above = h.1 in let m = agree.bounded.above in omega arith

    flag_here : flag (byte_of new) (part_addr (byte_of old) r.first p) i ≡ v
    flag_here = marks.flags i ∙ ap (λ b. cond b v (flag (byte_of old) (part_addr (byte_of old) r.first p) i)) (let e : (i == i) ≡ true = grind (arith, nat_tests) in e)

    -- and is the only one that changes
    retaken : (x : ℕ) → is_taken (byte_of new) r x ≡ cond (x == c) v (is_taken (byte_of old) r x)
    retaken x = elim (cases_eq x c) [
      | inl e ↦ ap (is_taken (byte_of new) r) e ∙ here v flag_here ∙ sym (ap (λ b. cond b v (is_taken (byte_of old) r x)) (let f : (x == c) ≡ true = grind (arith, nat_tests) in f))
      | inr ne ↦ other ne ∙ sym (ap (λ b. cond b v (is_taken (byte_of old) r x)) (let f : (x == c) ≡ false = grind (arith, nat_tests) in f))
    ] where
      here : (b : Bool) → flag (byte_of new) (part_addr (byte_of old) r.first p) i ≡ b → is_taken (byte_of new) r c ≡ b
      here true e = taken_from (byte_of new) r c (later name r is c p i lp li at e)
      here false e = never _ (λ f.
          let t = found (byte_of new) r c f in
          let same = one_cell t.part t.cell t.is_part (cell_low name r is c t) (t.at ∙ ap (λ part. first_cell r.cell_size part + t.cell * r.cell_size) (part_is name r is t.part t.is_part)) in
          absurd (let g : true ≡ false = sym (set_now name r is c t) ∙ (λ k. flag (byte_of new) (same.0 k) (same.1 k)) ∙ e in cc))

      -- another cell has another part or another number
      elsewhere : x ≢ c → (j k : ℕ) → x ≡ first_cell r.cell_size (part_of (byte_of old) r j) + k * r.cell_size → part_addr (byte_of old) r.first j ≡ part_addr (byte_of old) r.first p → k ≢ i
      elsewhere ne j k e f g = ne (e ∙ (λ t. first_cell r.cell_size (part_at (byte_of old) r.cell_size (f t)) + g t * r.cell_size) ∙ sym at)

      other : x ≢ c → is_taken (byte_of new) r x ≡ is_taken (byte_of old) r x
      other ne = same_test _ _
          (λ e.
          let t = found (byte_of new) r x e in
          let where_it_was = t.at ∙ ap (λ part. first_cell r.cell_size part + t.cell * r.cell_size) (part_is name r is t.part t.is_part) in
          taken_from (byte_of old) r x (earlier name r is x t (sym (flag_other name r is t.part t.is_part t.cell (cell_low name r is x t) (elsewhere ne t.part t.cell where_it_was)) ∙ set_now name r is x t)))
          (λ e.
          let t = found (byte_of old) r x e in
          taken_from (byte_of new) r x (later name r is x t.part t.cell t.is_part t.is_cell t.at (flag_other name r is t.part t.is_part t.cell t.is_cell (elsewhere ne t.part t.cell t.at) ∙ t.set)))

    -- the set of taken cells loses it, or gets it
    pub removed : v ≡ false → taken_of (byte_of new) r ≡ set.remove (taken_of (byte_of old) r) c
    removed e = set.same_set nat_cmp_total nat_cmp-IsAntisymmetric _ _ (λ x.
        contains-taken (byte_of new) r x
        ∙ ap (λ b. ltb x 2147483648 && b) (retaken x ∙ ap (λ b. cond (x == c) b (is_taken (byte_of old) r x)) e)
        ∙ pick (x == c) (ltb x 2147483648) (is_taken (byte_of old) r x)
        ∙ sym (λ k. not (eq_by_cmp_is x c k) && contains-taken (byte_of old) r x k)
        ∙ sym (set.contains-remove nat_cmp_total (taken_of (byte_of old) r) c x)) where
          pick : (a b d : Bool) → (b && cond a false d) ≡ (not a && (b && d))
          pick true true d = refl
          pick true false d = refl
          pick false b d = refl

    pub inserted : v ≡ true → taken_of (byte_of new) r ≡ set.insert (taken_of (byte_of old) r) c
    inserted e = set.same_set nat_cmp_total nat_cmp-IsAntisymmetric _ _ (λ x.
        contains-taken (byte_of new) r x
        ∙ ap (λ b. ltb x 2147483648 && b) (retaken x ∙ ap (λ b. cond (x == c) b (is_taken (byte_of old) r x)) e)
        ∙ pick (x == c) (ltb x 2147483648) (is_taken (byte_of old) r x) (λ f. let g : ltb x 2147483648 ≡ true = low x f in g)
        ∙ sym ((λ k. eq_by_cmp_is x c k || contains-taken (byte_of old) r x k))
        ∙ sym (set.contains-insert nat_cmp_total (taken_of (byte_of old) r) c x)) where
          low : (x : ℕ) → (x == c) ≡ true → ltb x 2147483648 ≡ true
          low x f = let small = cell_small in let s : x ≡ c = grind (arith, nat_tests) in grind (arith, nat_tests)

          pick : (a b d : Bool) → (a ≡ true → b ≡ true) → (b && cond a true d) ≡ (a || (b && d))
          pick true b d h = ap (λ t. t && true) (h refl)
          pick false b d h = refl

    -- the pools now
    pub pools_now : (T : set.FinSet nat_cmp) → taken_of (byte_of new) r ≡ T → Changes (get (pools_of roots old)) (λ n. same_name n name) (Some (record (pool_of (byte_of old) r) { taken = T })) (get (pools_of roots new))
    pools_now T is_set n = get-pools_of roots new n ∙ by (same_name n name) refl where
      by : (b : Bool) → same_name n name ≡ b → option_map (pool_of (byte_of new)) (get roots n) ≡ cond b (Some (record (pool_of (byte_of old) r) { taken = T })) (get (pools_of roots old) n)
      by true e = ap (λ m. option_map (pool_of (byte_of new)) (get roots m)) (same_name_is n name e) ∙ ap (option_map (pool_of (byte_of new))) is ∙ (λ k. Some (record (pool_of (byte_of old) r) { parts = parts_are name r is k; taken = is_set k }))
      by false e = others (get roots n) refl ∙ sym (get-pools_of roots old n) where
        others : (o : Option Root) → get roots n ≡ o → option_map (pool_of (byte_of new)) o ≡ option_map (pool_of (byte_of old)) o
        others None f = refl
        others (Some q) f = ap Some (pool_other n q f (differs n name e))

    -- they agree with storage, where the count of taken cells is right and the parts are apart
    pub agrees : taken ≡ count_below (count_at (byte_of old) (part_addr (byte_of old) r.first p)) (flag (byte_of new) (part_addr (byte_of old) r.first p)) → ((o : Owners) → Apart (state_of new o (pools_of roots new))) → AgreeParts roots new
    agrees counted apart = record {
      storage = marks.storage;
      bounded = subst IsBounded (sym marks.regions) agree.bounded;
      chained = λ n q iq. let k = agree.chained n q iq in record {
        size = k.size;
        small = k.small;
        some = k.some;
        parts = λ j l. subst (IsLaid (byte_of new) q.cell_size) (sym (addr_is n q iq j (omega arith))) (laid_now n q iq j l counted);
        last = addr_is n q iq q.count (omega arith) ∙ k.last;
        fill = k.fill ∙ ap (λ g. g.fill) (sym marks.regions);
      };
      apart = apart;
    }

    -- the parts stand as before
    stands_now : Stand new (pools_of roots new)
    stands_now = record {
      whole = λ n pool part e h. let t = was_pool n pool e in s.whole n (pool_of (byte_of old) t.0) part (pool_from roots old n t.0 t.1) (part_was n pool part e h);
      length = λ n pool part e h. let t = was_pool n pool e in s.length n (pool_of (byte_of old) t.0) part (pool_from roots old n t.0 t.1) (part_was n pool part e h) ∙ ap (λ q. part_length q.cell_size part.count) t.2;
      some = λ n pool part e h. let t = was_pool n pool e in s.some n (pool_of (byte_of old) t.0) part (pool_from roots old n t.0 t.1) (part_was n pool part e h);
      held = λ n pool part e h d cv. let t = was_pool n pool e in ap (λ m. get m d) marks.held ∙ s.held n (pool_of (byte_of old) t.0) part (pool_from roots old n t.0 t.1) (part_was n pool part e h) d cv ∙ ap (λ q. Some q.subpool) t.2;
      within = λ n pool e. let t = was_pool n pool e in subst (λ ps. Disjoint (map (λ part. part.place) ps)) (sym (parts_are n t.0 t.1) ∙ ap (λ q. q.parts) t.2) (s.within n (pool_of (byte_of old) t.0) (pool_from roots old n t.0 t.1));
      between = λ m n p q x y ne em en hx hy. let t = was_pool m p em in let u = was_pool n q en in
          s.between m n (pool_of (byte_of old) t.0) (pool_of (byte_of old) u.0) x y ne (pool_from roots old m t.0 t.1) (pool_from roots old n u.0 u.1) (part_was m p x em hx) (part_was n q y en hy);
      cells = λ n pool x e h. let t = was_pool n pool e in subst (λ q. IsCell q x) t.2 (taken_cell (byte_of new) t.0 x (set_found (byte_of new) t.0 x (ap (λ q. set.contains q.taken x) t.2 ∙ h)));
    } where
      s : Stand old (pools_of roots old)
      s = stands roots old agree

      was_pool : (n : Name) (pool : Pool) → get (pools_of roots new) n ≡ Some pool → (t : Root) × (get roots n ≡ Some t) × (pool_of (byte_of new) t ≡ pool)
      was_pool n pool e = root_found roots new n pool e

      part_was : (n : Name) (pool : Pool) (part : Part) (e : get (pools_of roots new) n ≡ Some pool) → Contains pool.parts part → Contains (parts_of (byte_of old) (was_pool n pool e).0) part
      part_was n pool part e h = let t = was_pool n pool e in subst (λ ps. Contains ps part) (sym (ap (λ q. q.parts) t.2) ∙ parts_are n t.0 t.1) h

    pub apart_now : (o : Owners) → Apart (state_of new o (pools_of roots new))
    apart_now o = apart_from new o (pools_of roots new) marks.storage stands_now

    -- what holds a doubleword is as before
    pub holding_now : (d : ℕ) → holding new (pools_of roots new) d ≡ holding old (pools_of roots old) d
    holding_now d = λ k. option_map (λ s. record { subpool = s; pooled = same_in_pools roots old new (λ n q iq. parts_are n q iq) d k }) (get (marks.held k) d)

    module _ (o : Owners) where
      -- a cell is given back
      module _ (free : v ≡ false) (was : flag (byte_of old) (part_addr (byte_of old) r.first p) i ≡ true) where
        given : State
        given = record (state_of old o (pools_of roots old)) { bytes = retain_keys (state_of old o (pools_of roots old)).bytes (λ x. not (has_address (cell_at (pool_of (byte_of old) r) c) x)); pools = pools_of roots new }

        gives : GivesCell (state_of old o (pools_of roots old)) name (pool_of (byte_of old) r) c given
        unfolding given
        gives = record {
          regions = refl;
          held = refl;
          bytes = λ x. get-retained nat_cmp-IsAntisymmetric (state_of old o (pools_of roots old)).bytes (λ x. not (has_address (cell_at (pool_of (byte_of old) r) c) x)) x ∙ turned (has_address (cell_at (pool_of (byte_of old) r) c) x) (get (state_of old o (pools_of roots old)).bytes x);
          owners = refl;
          pools = pools_now (set.remove (taken_of (byte_of old) r) c) (removed free);
        } where
          turned : (b : Bool) (w : Option ℕ) → cond (not b) w None ≡ cond b None w
          turned true w = refl
          turned false w = refl

        given_is_apart : Apart given
        given_is_apart = given_apart (state_of old o (pools_of roots old)) given name (pool_of (byte_of old) r) c (pool_from roots old name r is) (set_from (byte_of old) r c cell_small (record { part = p; cell = i; is_part = lp; is_cell = li; at = at; set = was })) gives (agree.apart o)

        given_bytes : (x b : ℕ) → get given.bytes x ≡ Some b → get new.bytes x ≡ Some b
        given_bytes x b e = by (has_address (cell_at (pool_of (byte_of old) r) c) x) (sym (gives.bytes x) ∙ e) where
          here : (g : Bool) → granted (state_of old o (pools_of roots old)) x ≡ g → cond g (get old.bytes x) None ≡ Some b → get new.bytes x ≡ Some b
          here true f h = granted_same o x f ∙ h
          here false f h = absurd (let k : None ≡ Some b = h in cc)

          by : (t : Bool) → cond t None (get (state_of old o (pools_of roots old)).bytes x) ≡ Some b → get new.bytes x ≡ Some b
          by true f = absurd (let k : None ≡ Some b = f in cc)
          by false f = here (granted (state_of old o (pools_of roots old)) x) refl (sym (bytes_state old o (pools_of roots old) agree.storage x) ∙ f)

        given_regions : given.regions ≡ new.regions
        unfolding given
        given_regions = sym marks.regions

        given_owners : given.owners ≡ o
        unfolding given
        given_owners = refl

        given_pools : given.pools ≡ pools_of roots new
        unfolding given
        given_pools = refl

        given_held : (d : ℕ) → get given.held d ≡ holding new (pools_of roots new) d
        unfolding given
        given_held d = held_state old o (pools_of roots old) agree.storage d ∙ sym (holding_now d)

        given_is : given ≡ state_of new o (pools_of roots new)
        given_is = same_state new o (pools_of roots new) marks.storage given given_is_apart.bytes given_regions given_owners given_pools given_held given_bytes

        pub gives_seen : GivesCell (state_of old o (pools_of roots old)) name (pool_of (byte_of old) r) c (state_of new o (pools_of roots new))
        gives_seen = subst (GivesCell (state_of old o (pools_of roots old)) name (pool_of (byte_of old) r) c) given_is gives

        pub apart_given : Apart (state_of new o (pools_of roots new))
        apart_given = subst Apart given_is given_is_apart
