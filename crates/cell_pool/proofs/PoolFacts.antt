-- What is known of a pool.
use Rattle.std.proofs.Common.{◌≡◌, ℕ, zero, suc, ◌+◌, ◌-◌, ◌*◌, ◌<◌, ◌≤◌, inl, inr, Bool, true, false, Option, Some, None, get_or, refl, sym, ap, ◌∙◌, subst, arith, is_some}
use Rattle.std.specs.Prelude.{MatchBool, MatchOption}
use Rattle.std.specs.Option.{option_map}
use Rattle.std.proofs.lemmas.Bool.{cases_lt, and_right, true_from_ne_false}
use Rattle.std.proofs.lemmas.Bool.Decides.{nat_tests}
use Rattle.std.proofs.lemmas.Option.{slice_get-get_or}
use Rattle.std.specs.FinMap.{FinMap, get}
use Rattle.std.specs.FinSet as set
use Rattle.mvs_model.specs.declared.name.Name.{Name}
use Rattle.mvs_model.specs.Name.{name_cmp}
use Rattle.mvs_model.specs.Finite.{count_below}
use Rattle.mvs_model.specs.Place.{place_at}
use Rattle.mvs_model.specs.Storage.{Storage, has_address}
use Rattle.mvs_model.specs.Pools.{Pool, first_cell, IsFreeCell}
use Rattle.mvs_model.proofs.Decide.{found_below}
use Rattle.mvs_model.proofs.Stuck.{decided_false}
use Rattle.cell_pool.specs.Layout.{byte_of, count_at, taken_at, flag}
use Rattle.cell_pool.specs.Roots.{Root, free_in, part_addr, part_of, parts_of, is_taken, taken_of, pool_of, pools_of}
use Rattle.cell_pool.specs.Agree.{AgreeParts, IsCounted}
use Rattle.cell_pool.specs.Walk.{IsChain, IsTakenAt}
use Rattle.mvs_model.specs.declared.reason.CellPosition.{CellPosition}
use Rattle.mvs_model.specs.Reasons.{IsSpot}
use Rattle.cell_pool.specs.Cells.{IsSupply}
use Rattle.mvs_model.specs.LastPart.{IsNewest}
use Rattle.mvs_model.specs.declared.report.LastPart.{LastPart}
use Rattle.cell_pool.specs.declared.walk.TakenCell.{TakenCell}
use Rattle.cell_pool.proofs.Chains.{part_contained, part_in_list, parts_len}
use Rattle.cell_pool.proofs.Frame.{get-pools_of, pool_from}
use Rattle.cell_pool.proofs.Getting.{none_free}
use Rattle.cell_pool.proofs.Opening.{all_taken, counts, not_all}
use Rattle.cell_pool.proofs.Taken.{contains-taken, set_from}
use Rattle.cell_pool.proofs.Walking.{chain_of, has_cell, not_set}

-- where some cell is free, a part has more cells than are taken
some_part : (m : ℕ → ℕ) (first n : ℕ) → 1 ≤ free_in m first n → (j : ℕ) × (j < n) × (taken_at m (part_addr m first j) < count_at m (part_addr m first j))
unfolding free_in
some_part m first zero l = absurd (omega arith)
some_part m first (suc n) l = elim (cases_lt (taken_at m (part_addr m first n)) (count_at m (part_addr m first n))) [
  | inl k ↦ (n, omega arith, k)
  | inr k ↦ (let r = some_part m first n (omega arith) in (r.0, (let h : r.0 < n = r.1 in omega arith), r.2))
]

-- and a cell of it is free
clear_flag : (count : ℕ) (f : ℕ → Bool) → count_below count f < count → (i : ℕ) × (i < count) × (f i ≡ false)
clear_flag count f l = elim (found_below (λ i. f i ≡ false) (λ i. decided_false (f i)) count) [ inl g ↦ g | inr none ↦ absurd (not_all count f l (λ i k. true_from_ne_false (f i) (none i k))) ]

module _ (roots : FinMap name_cmp Root) (st : Storage) (agree : AgreeParts roots st) (name : Name) where
  pub no_pool : get roots name ≡ None → get (pools_of roots st) name ≡ None
  no_pool e = get-pools_of roots st name ∙ ap (option_map (pool_of (byte_of st))) e

  module _ (r : Root) (is : get roots name ≡ Some r) where
    ch : IsChain st r
    ch = chain_of roots st name r agree is

    some_cell : IsCounted (byte_of st) r → 1 ≤ r.free → (c : ℕ) × IsFreeCell (pool_of (byte_of st) r) c
    some_cell counted l =
        let m = byte_of st in
        let free = counted.free in
        let j = some_part m r.first r.count (omega arith) in
        let a = part_addr m r.first j.0 in
        let taken = counts st r ch j.0 j.1 a refl in
        let few : taken_at m a < count_at m a = j.2 in
        let i = clear_flag (count_at m a) (flag m a) (omega arith) in
        let c = first_cell r.cell_size (part_of m r j.0) + i.0 * r.cell_size in (
          c,
          (
            (part_of m r j.0, part_contained m r j.0 j.1, (i.0, i.1, refl)),
            contains-taken m r c ∙ and_right _ _
                (not_set st r ch a (count_at m a) (taken_at m a) c (record { number = j.0; is_part = j.1; addr = refl; cells = refl; of_taken = refl; of_past = refl }) (has_cell st r ch j.0 i.0 c j.1 i.1 refl)
                (first_cell r.cell_size (part_of m r j.0)) r.cell_size i.0 (omega arith) refl refl i.2),
          ),
        )

    -- whether a cell is free
    free_correct : IsCounted (byte_of st) r → (b : Bool) → MatchBool b (1 ≤ r.free) (r.free ≡ 0) → MatchBool b ((c : ℕ) × IsFreeCell (pool_of (byte_of st) r) c) ((c : ℕ) → IsFreeCell (pool_of (byte_of st) r) c → ⊥)
    free_correct counted true l = some_cell counted l
    free_correct counted false e = none_free roots st agree name true r is (all_taken st r ch counted e)

    -- what the pool has for a request for a cell
    pub supply_correct : IsCounted (byte_of st) r → (b : Bool) → MatchBool b (1 ≤ r.free) (r.free ≡ 0)
        → (pool : Pool) × (get (pools_of roots st) name ≡ Some pool) × IsSupply pool (record { has_free = b; subpool = r.subpool; cell_size = r.cell_size; secondary = r.secondary; side = r.side })
    supply_correct counted b h = (pool_of (byte_of st) r, pool_from roots st name r is, record { free = free_correct counted b h; subpool = refl; cell_size = refl; secondary = refl; side = refl })

    -- where the address lies at which no taken cell begins
    pub spot_correct : (c : ℕ) (spot : CellPosition) → IsSpot (pool_of (byte_of st) r) c spot → (pool : Pool) → get (pools_of roots st) name ≡ Some pool → IsSpot pool c spot
    spot_correct c spot h pool found =
        let e : Some (pool_of (byte_of st) r) ≡ Some pool = sym (pool_from roots st name r is) ∙ found in
        let same : pool_of (byte_of st) r ≡ pool = cc in
        subst (λ p. IsSpot p c spot) same h

    -- and none does
    pub untaken : (c : ℕ) → ((pool : Pool) × (get (pools_of roots st) name ≡ Some pool) × (set.contains pool.taken c ≡ false)) → set.contains (taken_of (byte_of st) r) c ≡ false
    untaken c h = let same : Some (pool_of (byte_of st) r) ≡ Some h.0 = sym (pool_from roots st name r is) ∙ h.1 in let p : pool_of (byte_of st) r ≡ h.0 = cc in ap (λ (q : Pool). set.contains q.taken c) p ∙ h.2

    cell_set : (a i taken : ℕ) {past : Bool} (c : ℕ) → IsTakenAt st r a i taken past c → set.contains (taken_of (byte_of st) r) c ≡ true
    cell_set a i taken c spot =
        let low : i < count_at (byte_of st) (part_addr (byte_of st) r.first spot.number) = subst (λ b. i < count_at (byte_of st) b) spot.addr spot.is_cell in
        let has : has_address (part_of (byte_of st) r spot.number).place c ≡ true = has_cell st r ch spot.number i c spot.is_part low spot.at in
        set_from (byte_of st) r c (small c _ _ has (ch.low spot.number spot.is_part))
        (record { part = spot.number; cell = i; is_part = spot.is_part; is_cell = low; at = spot.at; set = subst (λ b. flag (byte_of st) b i ≡ true) spot.addr spot.set }) where
          small : (c a n : ℕ) → has_address (place_at a n) c ≡ true → a + n ≤ 0x3000000 → c < 2147483648
          small c a n e l = let h : c < a + n = grind (arith, nat_tests) in omega arith

    -- whether a taken cell begins at an address
    pub taken_correct : (x c : ℕ) (v : Option TakenCell) (b : Bool) → x ≡ c → b ≡ is_some v → MatchOption v (is_taken (byte_of st) r x ≡ false) (λ s. IsTakenAt st r s.part s.cell s.taken s.past x)
        → (pool : Pool) × (get (pools_of roots st) name ≡ Some pool) × (b ≡ set.contains pool.taken c)
    taken_correct x c None b same e h = (pool_of (byte_of st) r, pool_from roots st name r is, e ∙ sym (ap (set.contains (taken_of (byte_of st) r)) (sym same) ∙ contains-taken (byte_of st) r x ∙ and_right _ _ h))
    taken_correct x c (Some s) b same e h = (pool_of (byte_of st) r, pool_from roots st name r is, e ∙ sym (ap (set.contains (taken_of (byte_of st) r)) (sym same) ∙ cell_set s.part s.cell s.taken x h))

    -- the part that was put to it last
    pub newest_correct : (newest : LastPart) → newest.parts ≡ r.count → part_of (byte_of st) r (r.count - 1) ≡ record { place = newest.place; count = newest.cells } → newest.cell_size ≡ r.cell_size
        → (pool : Pool) × (get (pools_of roots st) name ≡ Some pool) × IsNewest pool newest
    newest_correct newest parts part size = (
      pool_of (byte_of st) r,
      pool_from roots st name r is,
      record {
        parts = parts ∙ sym (parts_len (byte_of st) r);
        last = slice_get-get_or (parts_of (byte_of st) r) (newest.parts - 1) (record { place = newest.place; count = newest.cells }) (let some = ch.some in let l = parts_len (byte_of st) r in omega arith)
            ∙ ap Some (ap (λ n. get_or (parts_of (byte_of st) r) (n - 1) (record { place = newest.place; count = newest.cells })) parts ∙ part_in_list (byte_of st) r (r.count - 1) (record { place = newest.place; count = newest.cells }) (let some = ch.some in omega arith) ∙ part);
        cell_size = size;
      },
    )

    -- where it is
    pub last_is : IsCounted (byte_of st) r → r.last ≡ part_addr (byte_of st) r.first (r.count - 1)
    last_is counted = counted.last (r.count - 1) (let some = ch.some in omega arith)
