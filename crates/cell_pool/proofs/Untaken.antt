-- A cell that begins at an address, taken or free.
use Rattle.std.proofs.Common.{◌≡◌, ℕ, ◌+◌, ◌*◌, ◌<◌, ◌≤◌, Bool, false, true, refl, sym, ap, ◌∙◌, subst, arith}
use Rattle.std.proofs.lemmas.Bool.Decides.{nat_tests}
use Rattle.mvs_model.specs.Place.{place_at}
use Rattle.mvs_model.specs.Storage.{Storage, has_address}
use Rattle.mvs_model.specs.Pools.{first_cell, part_length, IsCell, IsFreeCell}
use Rattle.mvs_model.proofs.TakenCells.{never}
use Rattle.cell_pool.specs.Layout.{byte_of, count_at, flag, head_length}
use Rattle.cell_pool.specs.Roots.{Root, part_addr, part_of, is_taken, pool_of}
use Rattle.cell_pool.specs.Agree.{IsCounted}
use Rattle.cell_pool.specs.Walk.{IsChain, IsFreeAt, IsPartAt, IsTakenAt}
use Rattle.cell_pool.proofs.Taken.{TakenAt, contains-taken, found, set_from, taken_cell}
use Rattle.cell_pool.proofs.Walking.{has_cell, not_set}
use Rattle.cell_pool.proofs.Chains.{part_contained}
use Rattle.std.proofs.lemmas.Bool.{and_right}
use Rattle.cell_pool.proofs.Within.{no_cell}

module _ (st : Storage) (r : Root) (ch : IsChain st r) (c : ℕ) where
  -- no cell begins where no part is
  pub none_there : ((j : ℕ) → j < r.count → has_address (part_of (byte_of st) r j).place c ≡ false) → IsCell (pool_of (byte_of st) r) c → ⊥
  none_there none is = let s = ch.size in no_cell st r ch c none c is (omega arith) (omega arith)

  -- where no cell begins none is taken
  pub untaken : (IsCell (pool_of (byte_of st) r) c → ⊥) → is_taken (byte_of st) r c ≡ false
  untaken none = never _ (λ e. none (taken_cell (byte_of st) r c (found (byte_of st) r c e)))

  -- a cell of a part
  module _ (a count taken i : ℕ) {past : Bool} (p : IsPartAt st r a count taken past) (l : i < count) (at : c ≡ a + head_length count + i * r.cell_size) where
    low : i < count_at (byte_of st) (part_addr (byte_of st) r.first p.number)
    low = subst (λ n. i < n) (p.cells ∙ ap (count_at (byte_of st)) p.addr) l

    here : c ≡ first_cell r.cell_size (part_of (byte_of st) r p.number) + i * r.cell_size
    here = at ∙ (λ k. p.addr k + head_length ((p.cells ∙ ap (count_at (byte_of st)) p.addr) k) + i * r.cell_size) ∙ first (part_addr (byte_of st) r.first p.number) (count_at (byte_of st) (part_addr (byte_of st) r.first p.number)) r.cell_size (i * r.cell_size) where
      first : (b n size k : ℕ) → b + head_length n + k ≡ first_cell size (record { place = place_at b (part_length size n); count = n }) + k
      first b n size k = omega arith

    -- it is taken where its flag is set
    pub taken_there : flag (byte_of st) a i ≡ true → IsTakenAt st r a i taken past c
    taken_there set = record { number = p.number; is_part = p.is_part; addr = p.addr; is_cell = subst (λ n. i < n) p.cells l; at = here; set = set; of_taken = p.of_taken; of_past = p.of_past }

    pub no_free : flag (byte_of st) a i ≡ true → IsFreeCell (pool_of (byte_of st) r) c → ⊥
    no_free is_set f =
        let has : has_address (part_of (byte_of st) r p.number).place c ≡ true = has_cell st r ch p.number i c p.is_part low here in
        let t : TakenAt (byte_of st) r c = record { part = p.number; cell = i; is_part = p.is_part; is_cell = low; at = here; set = subst (λ b. flag (byte_of st) b i ≡ true) p.addr is_set } in
        let g : true ≡ false = sym (set_from (byte_of st) r c (small c _ _ has (ch.low p.number p.is_part)) t) ∙ f.1 in absurd (cc) where
          small : (c a n : ℕ) → has_address (place_at a n) c ≡ true → a + n ≤ 0x3000000 → c < 2147483648
          small c a n e l = let h : c < a + n = grind (arith, nat_tests) in omega arith

    -- and free where it is not
    pub is_free : flag (byte_of st) a i ≡ false → IsFreeCell (pool_of (byte_of st) r) c
    is_free clear =
        let m = byte_of st in
        let has : has_address (place_at a (part_length r.cell_size count)) c ≡ true =
        subst (λ n. has_address (place_at a (part_length r.cell_size n)) c ≡ true) (sym p.cells)
        (subst (λ b. has_address (place_at b (part_length r.cell_size (count_at m b))) c ≡ true) (sym p.addr) (has_cell st r ch p.number i c p.is_part low here)) in
        ((part_of m r p.number, part_contained m r p.number p.is_part, (i, low, here)), contains-taken m r c ∙ and_right _ _ (not_set st r ch a count taken c p has _ _ i refl refl at clear))

    pub free_there : IsCounted (byte_of st) r → (open_part : ℕ) → open_part ≡ r.open_part → flag (byte_of st) a i ≡ false → IsFreeAt st r a i taken open_part
    free_there counted open_part e clear = record {
      number = p.number;
      is_part = p.is_part;
      addr = p.addr;
      is_cell = subst (λ n. i < n) p.cells l;
      clear = clear;
      of_taken = p.of_taken;
      open_number = counted.number;
      is_open = counted.is_part;
      open_addr = e ∙ counted.open_part;
      full = counted.full;
    }
