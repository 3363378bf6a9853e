-- What the methods of a region owe, over its parts.
use Rattle.std.proofs.Common.{◌≡◌, ℕ, ◌+◌, ◌-◌, ◌*◌, ◌/◌, ◌%◌, ◌^◌, ◌<◌, ◌≤◌, Bool, true, false, cond, Option, Some, None, is_some, IsSome, IfSome, List, length, get_or, replicate, ◌⊎◌, refl, sym, ap, ◌∙◌, subst, inl, inr, arith}
use Rattle.std.proofs.lemmas.Bool.{and_parts, not-true, cases_lt, cond-true, false≢true}
use Rattle.std.proofs.lemmas.List.{get_or_past, get_or-replicate, length-replicate}
use Rattle.std.proofs.lemmas.Option.{none-some, same_Some}
use Rattle.std.specs.Ordering.{nat_cmp}
use Rattle.std.specs.FinMap.{get, empty, get-empty}
use Rattle.mvs_model.specs.Place.{PlaceValue}
use Rattle.mvs_model.specs.Storage.{Covers, IsWhole, IsBetween}
use Rattle.mvs_model.specs.Want.{WantValue, IsWant}
use Rattle.mvs_model.proofs.Tables.{same_maps}
use Rattle.page_map.specs.Owners.{owner_of, is_usable}
use Rattle.subpool_store.specs.Edits.{IsClear, IsMarked, IsAssigned, IsGivenUp, IsDropped}
use Rattle.subpool_store.specs.Bits.{in_range}
use Rattle.subpool_store.specs.Region.{RegionState, cell, shifted, IsRegion, IsSound, held_of, bytes_of, region_of, OpenIn, HeldIn, BestIn, ChangedIn, DroppedIn, AllHeldIn, OwnsPage}
use Rattle.subpool_store.specs.Search.{Beats, IsCandidate, IsExact, may_take}
use Rattle.subpool_store.proofs.Bytes.{get-bytes_of, cells_change, holders_change, taken_bytes, given_bytes, dropped_holders, dropped_bytes}
use Rattle.subpool_store.proofs.Change.{page_index, pages_usable, taken_cell, taken_exact, given_cell, given_exact, dropped_cell, dropped_exact}
use Rattle.subpool_store.proofs.Exact.{bit_clear, holder_at, holder_some, holder_index, shifted_at, shifted_none, cell_at, cell_none, cell_some, open_from, open_of}

pub set_within : (bits : List Bool) (i : ℕ) → get_or bits i false ≡ true → i < length bits
set_within bits i set = elim (cases_lt i (length bits)) [ inl low ↦ low | inr high ↦ absurd (let e : false ≡ true = sym (get_or_past bits i false high) ∙ set in cc) ]

-- an empty region
pub nothing_kept : (first n : ℕ) (bits : List Bool) (pages : List (Option ℕ)) → n ≤ 8192 → first % 512 ≡ 0 → 8 * (first + 512 * n) ≤ 2147483648 →
    (first < 2097152 → first + 512 * n ≤ 2097152) → IsClear (512 * n) bits → pages ≡ replicate n None → IsRegion first bits pages
nothing_kept first n bits pages few aligned end one_side clear none = record {
  exact = record {
    sizes = clear.sizes ∙ ap (λ k. 512 * k) (sym count);
    most = let same : length pages ≡ n = count in omega arith;
    free = λ i _. clear.each i;
    used = λ p s owned. absurd (none-some s (sym (nobody p (cases_lt p n)) ∙ owned));
  };
  aligned = aligned;
  end = subst (λ k. 8 * (first + k) ≤ 2147483648) (sym clear.sizes) end;
  one_side = subst (λ k. first < 2097152 → first + k ≤ 2097152) (sym clear.sizes) one_side;
} where
  count : length pages ≡ n
  count = ap length none ∙ length-replicate n None

  nobody : (p : ℕ) → (p < n) ⊎ (n ≤ p) → owner_of pages p ≡ None
  nobody p (inl low) = ap (λ l. owner_of l p) none ∙ get_or-replicate n p None None low
  nobody p (inr past) = get_or_past pages p None (let c : length pages ≡ n = count in omega (arith, c))

pub nothing_region : (first n : ℕ) (bits : List Bool) (pages : List (Option ℕ)) (bytes : ℕ → ℕ) → IsClear (512 * n) bits → length pages ≡ n →
    region_of first bits pages bytes ≡ record { first = first; pages = n; held = empty; bytes = empty }
nothing_region first n bits pages bytes clear count =
    let held : held_of first bits pages ≡ empty = same_maps _ _ (λ d. holder_at first bits pages d ∙ nobody d ∙ sym (get-empty nat_cmp d)) in
    let none : bytes_of first bits pages bytes ≡ empty = same_maps _ _ (λ a. get-bytes_of first bits pages bytes a ∙ ap (λ o. cond (is_some o) (Some (bytes (a - 8 * first))) None) (nobody (a / 8)) ∙ sym (get-empty nat_cmp a)) in
    λ i. record { first = first; pages = count i; held = held i; bytes = none i } where
      nobody : (d : ℕ) → shifted first (cell bits pages) d ≡ None
      nobody d = shifted_none first (cell bits pages) d (λ _. cell_none bits pages (d - first) (clear.each (d - first)))

-- what is kept of a region makes what is seen of it sound
pub region_sound : (first : ℕ) (bits : List Bool) (pages : List (Option ℕ)) (bytes : ℕ → ℕ) → IsRegion first bits pages → IsSound (region_of first bits pages bytes)
region_sound first bits pages bytes region = record {
  bounded = λ d t held.
      let at = holder_some first bits pages d t held in
      let low : first ≤ d = at.0 in
      let sizes : length bits ≡ 512 * length pages = region.exact.sizes in
      let within : d - first < length bits = set_within bits (d - first) at.1 in
      (low, omega arith);
  rule = λ d e s t same at_d at_e.
      let here = holder_some first bits pages d s at_d in
      let there = holder_some first bits pages e t at_e in
      let on : first % 512 ≡ 0 = region.aligned in
      let low : first ≤ d = here.0 in
      let low_e : first ≤ e = there.0 in
      let page : (d - first) / 512 ≡ (e - first) / 512 = omega arith in
      same_Some s t (sym here.2 ∙ ap (owner_of pages) page ∙ there.2);
  bytes = λ a. ap is_some (get-bytes_of first bits pages bytes a) ∙ both (shifted first (cell bits pages) (a / 8)) (bytes (a - 8 * first)) ∙ sym (ap is_some (holder_at first bits pages (a / 8)));
} where
  both : (o : Option ℕ) (x : ℕ) → is_some (cond (is_some o) (Some x) None) ≡ is_some o
  both None x = refl
  both (Some t) x = refl

module _ (first : ℕ) (bits : List Bool) (pages : List (Option ℕ)) (bytes : ℕ → ℕ) (h : RegionState) (region : IsRegion first bits pages) (is : region_of first bits pages bytes ≡ h) (s : ℕ) where
  -- the search finds the open places
  pub finds_best : (want : WantValue) (r : Option PlaceValue) → IsWant want → IfSome r (IsCandidate (may_take bits pages s) first want) →
      ((q : PlaceValue) → IsCandidate (may_take bits pages s) first want q → Beats r q.len) → BestIn h s want r
  finds_best want None ok found longest = λ q len is_open meets. longest q (record { length = len; meets = meets; pass = open_of first bits pages bytes s q region (subst (λ g. OpenIn g s q) (sym is) is_open) })
  finds_best want (Some p) ok found longest =
      let low : 8 ≤ want.least = ok.some in
      let least : want.least ≤ p.len = found.length.least in record {
        length = found.length;
        is_open = subst (λ g. OpenIn g s p) is (open_from first bits pages bytes s p region (omega arith) found.pass);
        meets = found.meets;
        longest = λ q len is_open meets. longest q (record { length = len; meets = meets; pass = open_of first bits pages bytes s q region (subst (λ g. OpenIn g s q) (sym is) is_open) });
      }

  module _ (p : PlaceValue) (start end : ℕ) (whole : IsWhole p) (some : 8 ≤ p.len) (start_is : start ≡ p.addr / 8 - first) (end_is : end ≡ start + p.len / 8) where
    on : p.addr % 8 ≡ 0
    on = whole.0

    full : p.len % 8 ≡ 0
    full = whole.1

    at_start : 8 * first ≤ p.addr → p.addr ≡ 8 * (first + start)
    at_start low = let e : p.addr % 8 ≡ 0 = on in omega arith

    long_is : p.len ≡ 8 * (end - start)
    long_is = let e : p.len % 8 ≡ 0 = full in omega arith

    ordered : start < end
    ordered = omega arith

    -- the doublewords of an open place pass
    pub open_pass : OpenIn h s p → (i : ℕ) → start ≤ i → i < end → may_take bits pages s i ≡ true
    open_pass is_open i low high =
        let e8 : p.addr % 8 ≡ 0 = on in
        let l8 : p.len % 8 ≡ 0 = full in
        let there : OpenIn (region_of first bits pages bytes) s p = subst (λ g. OpenIn g s p) (sym is) is_open in
        let inside : 8 * first ≤ p.addr = there.inside.0 in
        let at = open_of first bits pages bytes s p region there (first + i) (omega arith, omega arith) in
        let e : i ≡ first + i - first = omega arith in
        ap (may_take bits pages s) e ∙ at.1

    -- and a place is open whose doublewords pass
    pub open_passing : 8 * first ≤ p.addr → ((i : ℕ) → start ≤ i → i < end → may_take bits pages s i ≡ true) → OpenIn h s p
    open_passing low pass =
        let e8 : p.addr % 8 ≡ 0 = on in
        let l8 : p.len % 8 ≡ 0 = full in
        subst (λ g. OpenIn g s p) is (open_from first bits pages bytes s p region some (λ d c. (
          (let m : p.addr < 8 * d + 8 = c.0 in omega arith),
          pass (d - first) (let m : p.addr < 8 * d + 8 = c.0 in omega arith) (let m : p.addr < 8 * d + 8 = c.0 in let n : 8 * d < p.addr + p.len = c.1 in omega arith),
        )))

    pub open_free : OpenIn h s p → (i : ℕ) → start ≤ i → i < end → get_or bits i false ≡ false
    open_free is_open i low high = (bit_clear bits i (not-true _ (and_parts _ _ (open_pass is_open i low high)).0)).1

    pub open_usable : OpenIn h s p → (q : ℕ) → start / 512 ≤ q → q < (end - 1) / 512 + 1 → is_usable s (owner_of pages q) ≡ true
    open_usable is_open = pages_usable bits pages s start end ordered (open_pass is_open)

    -- an open place lies in the region
    pub open_inside : OpenIn h s p → IsBetween (8 * first) (8 * first + 8 * length bits) p
    open_inside is_open =
        let there : OpenIn (region_of first bits pages bytes) s p = subst (λ g. OpenIn g s p) (sym is) is_open in
        let sizes : length bits ≡ 512 * length pages = region.exact.sizes in
        let inside : IsBetween (8 * first) (8 * first + 4096 * length pages) p = there.inside in
        (inside.0, let high : p.addr + p.len ≤ 8 * first + 4096 * length pages = inside.1 in omega arith)

    module _ (bits' : List Bool) (pages' : List (Option ℕ)) (is_open : OpenIn h s p) (marked : IsMarked bits start end true bits') (assigned : IsAssigned pages (start / 512) ((end - 1) / 512 + 1) s pages') where
      pub take_region : IsRegion first bits' pages'
      take_region = record {
        exact = taken_exact start end s bits bits' pages pages' region.exact ordered (open_pass is_open) marked assigned;
        aligned = region.aligned;
        end = subst (λ n. 8 * (first + n) ≤ 2 ^ 31) (sym marked.sizes) region.end;
        one_side = subst (λ n. first < 2097152 → first + n ≤ 2097152) (sym marked.sizes) region.one_side;
      }

      pub take_changes : (fill : ℕ) (bytes' : ℕ → ℕ) → ((k : ℕ) → in_range (8 * start) (8 * end) k ≡ true → bytes' k ≡ fill) →
          ((k t : ℕ) → in_range (8 * start) (8 * end) k ≡ false → cell bits pages (k / 8) ≡ Some t → bytes' k ≡ bytes k) → ChangedIn h p (Some s) (Some fill) (region_of first bits' pages' bytes')
      take_changes fill bytes' inside outside =
          let low : 8 * first ≤ p.addr = (open_inside is_open).0 in
          let holders = cells_change first start end p (cell bits pages) (cell bits' pages') (Some s) (at_start low) long_is ordered (taken_cell start end s bits bits' pages pages' region.exact ordered (open_pass is_open) marked assigned) in
          subst (λ g. ChangedIn g p (Some s) (Some fill) (region_of first bits' pages' bytes')) is (record {
            first = refl;
            pages = assigned.sizes;
            held = holders_change first bits bits' pages pages' p (Some s) holders;
            bytes = taken_bytes first bits bits' pages pages' start end s fill p bytes bytes' (at_start low) long_is ordered holders inside outside;
          })

    -- a place that is held lies in the region
    pub held_inside : HeldIn h s p → IsBetween (8 * first) (8 * first + 8 * length bits) p
    held_inside held =
        let each : (d : ℕ) → Covers p d → get (held_of first bits pages) d ≡ Some s = λ d covered. ap (λ g. get g.held d) is ∙ held d covered in
        let begin = holder_some first bits pages (p.addr / 8) s (each (p.addr / 8) (omega arith, omega arith)) in
        let last = holder_some first bits pages ((p.addr + p.len - 1) / 8) s (each ((p.addr + p.len - 1) / 8) (omega arith, omega arith)) in
        let low : first ≤ p.addr / 8 = begin.0 in
        let last_low : first ≤ (p.addr + p.len - 1) / 8 = last.0 in
        let last_in : (p.addr + p.len - 1) / 8 - first < length bits = set_within bits ((p.addr + p.len - 1) / 8 - first) last.1 in
        (omega arith, omega arith)

    module _ (bits' : List Bool) (pages' : List (Option ℕ)) (marked : IsMarked bits start end false bits') (given : IsGivenUp bits' pages (start / 512) ((end - 1) / 512 + 1) pages') where
      pub give_region : IsRegion first bits' pages'
      give_region = record {
        exact = given_exact start end bits bits' pages pages' region.exact ordered marked given;
        aligned = region.aligned;
        end = subst (λ n. 8 * (first + n) ≤ 2 ^ 31) (sym marked.sizes) region.end;
        one_side = subst (λ n. first < 2097152 → first + n ≤ 2097152) (sym marked.sizes) region.one_side;
      }

      pub give_changes : (bytes' : ℕ → ℕ) → ((k t : ℕ) → cell bits' pages' (k / 8) ≡ Some t → bytes' k ≡ bytes k) → 8 * first ≤ p.addr → ChangedIn h p None None (region_of first bits' pages' bytes')
      give_changes bytes' stays low =
          let holders = cells_change first start end p (cell bits pages) (cell bits' pages') None (at_start low) long_is ordered (given_cell start end bits bits' pages pages' region.exact ordered marked given) in
          subst (λ g. ChangedIn g p None None (region_of first bits' pages' bytes')) is (record {
            first = refl;
            pages = given.sizes;
            held = holders_change first bits bits' pages pages' p None holders;
            bytes = given_bytes first bits bits' pages pages' p bytes bytes' on full stays holders;
          })

    -- the cells of the place are those of its doublewords
    pub holds_cells : 8 * first ≤ p.addr → ((i : ℕ) → start ≤ i → i < end → cell bits pages i ≡ Some s) → HeldIn h s p
    holds_cells low cells d covered =
        let e8 : p.addr % 8 ≡ 0 = on in
        let l8 : p.len % 8 ≡ 0 = full in
        let e : d ≡ first + (d - first) = omega arith in
        ap (λ g. get g.held d) (sym is) ∙ ap (get (held_of first bits pages)) e ∙ holder_index first bits pages (d - first) ∙ cells (d - first) (omega arith) (omega arith)

    pub cells_held : 8 * first ≤ p.addr → HeldIn h s p → (i : ℕ) → start ≤ i → i < end → cell bits pages i ≡ Some s
    cells_held low held i from to =
        let e8 : p.addr % 8 ≡ 0 = on in
        let l8 : p.len % 8 ≡ 0 = full in
        sym (holder_index first bits pages i) ∙ ap (λ g. get g.held (first + i)) is ∙ held (first + i) (omega arith, omega arith)

-- all that the subpools of a test hold goes
module _ (first : ℕ) (bits : List Bool) (pages : List (Option ℕ)) (bytes : ℕ → ℕ) (h : RegionState) (region : IsRegion first bits pages) (is : region_of first bits pages bytes ≡ h) (test : ℕ → Bool)
    (bits' : List Bool) (pages' : List (Option ℕ)) (dropped : IsDropped test bits pages (length pages) bits' pages') where
  pub drop_region : IsRegion first bits' pages'
  drop_region = record {
    exact = dropped_exact test bits bits' pages pages' region.exact dropped;
    aligned = region.aligned;
    end = subst (λ n. 8 * (first + n) ≤ 2 ^ 31) (sym dropped.bits_size) region.end;
    one_side = subst (λ n. first < 2097152 → first + n ≤ 2097152) (sym dropped.bits_size) region.one_side;
  }

  pub drop_changes : (bytes' : ℕ → ℕ) → ((k t : ℕ) → cell bits' pages' (k / 8) ≡ Some t → bytes' k ≡ bytes k) → DroppedIn h test (region_of first bits' pages' bytes')
  drop_changes bytes' stays =
      let cells = dropped_cell test bits bits' pages pages' region.exact dropped in
      subst (λ g. DroppedIn g test (region_of first bits' pages' bytes')) is (record {
        first = refl;
        pages = dropped.pages_size;
        held = dropped_holders first bits bits' pages pages' test cells;
        bytes = dropped_bytes first bits bits' pages pages' test bytes bytes' stays cells;
      })

module _ (first : ℕ) (bits : List Bool) (pages : List (Option ℕ)) (bytes : ℕ → ℕ) (h : RegionState) (is : region_of first bits pages bytes ≡ h) where
  -- who holds a doubleword, in the region and outside it
  pub holder_inside : (d : ℕ) → first ≤ d → cell bits pages (d - first) ≡ get h.held d
  holder_inside d low = sym (shifted_at first (cell bits pages) d low) ∙ sym (holder_at first bits pages d) ∙ ap (λ g. get g.held d) is

  pub holder_outside : (d : ℕ) → (first ≤ d → length bits ≤ d - first) → None ≡ get h.held d
  holder_outside d out =
      sym (shifted_none first (cell bits pages) d (λ low. cell_none bits pages (d - first) (get_or_past bits (d - first) false (out low)))) ∙ sym (holder_at first bits pages d) ∙ ap (λ g. get g.held d) is

  -- the byte at an address whose doubleword is held
  pub byte_held : (a : ℕ) → IsSome (get h.held (a / 8)) → get h.bytes a ≡ Some (bytes (a - 8 * first))
  byte_held a held =
      sym (ap (λ g. get g.bytes a) is) ∙ get-bytes_of first bits pages bytes a
      ∙ cond-true _ _ _ (ap is_some (sym (holder_at first bits pages (a / 8)) ∙ ap (λ g. get g.held (a / 8)) is) ∙ held)

  -- a place that is held by some subpools lies in the region
  pub all_inside : (p : PlaceValue) → 1 ≤ p.len → AllHeldIn h p → IsBetween (8 * first) (8 * first + 8 * length bits) p
  all_inside p some held =
      let begin = at (p.addr / 8) (held (p.addr / 8) (omega arith, omega arith)) in
      let last = at ((p.addr + p.len - 1) / 8) (held ((p.addr + p.len - 1) / 8) (omega arith, omega arith)) in
      let low : first ≤ p.addr / 8 = begin.0 in
      let last_low : first ≤ (p.addr + p.len - 1) / 8 = last.0 in
      let last_in : (p.addr + p.len - 1) / 8 - first < length bits = last.1 in
      (omega arith, omega arith) where
        at : (d : ℕ) → IsSome (get h.held d) → (first ≤ d) × (d - first < length bits)
        at d held = by (get h.held d) refl held where
          by : (o : Option ℕ) → get h.held d ≡ o → IsSome o → (first ≤ d) × (d - first < length bits)
          by None e none = absurd (false≢true none)
          by (Some t) e _ = let there = holder_some first bits pages d t (ap (λ g. get g.held d) is ∙ e) in (there.0, set_within bits (d - first) there.1)

  -- the bytes of a place are read off the part of the bytes that is its own
  pub part_bytes : (p : PlaceValue) (part : List ℕ) → 1 ≤ p.len → AllHeldIn h p → ((k : ℕ) → k < p.len → get_or part k 0 ≡ bytes (p.addr - 8 * first + k)) →
      (k : ℕ) → k < p.len → get h.bytes (p.addr + k) ≡ Some (get_or part k 0)
  part_bytes p part some held each k low =
      let inside : 8 * first ≤ p.addr = (all_inside p some held).0 in
      let at : p.addr + k - 8 * first ≡ p.addr - 8 * first + k = omega arith in
      byte_held (p.addr + k) (held ((p.addr + k) / 8) (omega arith, omega arith)) ∙ ap Some (ap bytes at ∙ sym (each k low))

  -- the owner of a page
  pub no_page : (p : ℕ) → first % 512 ≡ 0 → length bits ≡ 512 * length pages → (first / 512 ≤ p → length pages ≤ p - first / 512) → OwnsPage h p None
  no_page p aligned sizes out d on = sym (holder_outside d (λ low. let past : length pages ≤ p - first / 512 = out (omega arith) in omega arith))

  pub page_owner : (p : ℕ) → first % 512 ≡ 0 → IsExact bits pages → first / 512 ≤ p → OwnsPage h p (owner_of pages (p - first / 512))
  page_owner p aligned exact low = by (owner_of pages (p - first / 512)) refl where
    by : (o : Option ℕ) → owner_of pages (p - first / 512) ≡ o → OwnsPage h p o
    by None e = λ d on.
        let from : first ≤ d = omega arith in
        let page : (d - first) / 512 ≡ p - first / 512 = omega arith in
        sym (holder_inside d from) ∙ cell_none bits pages (d - first) (exact.free (d - first) (ap (owner_of pages) page ∙ e))
    by (Some s) e =
        let used = exact.used (p - first / 512) s e in
        let on : used.0 / 512 ≡ p - first / 512 = used.1 in
        let is_index : first + used.0 - first ≡ used.0 = omega arith in (
          first + used.0,
          omega arith,
          sym (holder_inside (first + used.0) (omega arith)) ∙ ap (cell bits pages) is_index ∙ cell_at bits pages used.0 used.2 ∙ ap (owner_of pages) on ∙ e,
        )

-- the cells of a run are all of s where its pages are and its bits are set
pub run_of_cells : (bits : List Bool) (pages : List (Option ℕ)) (s start end : ℕ) → ((p : ℕ) → start / 512 ≤ p → p < (end - 1) / 512 + 1 → owner_of pages p ≡ Some s) →
    ((i : ℕ) → start ≤ i → i < end → get_or bits i false ≡ true) → (i : ℕ) → start ≤ i → i < end → cell bits pages i ≡ Some s
run_of_cells bits pages s start end owned set i low high = cell_at bits pages i (set i low high) ∙ owned (i / 512) (omega arith) (omega arith)

pub cells_of_run : (bits : List Bool) (pages : List (Option ℕ)) (s start end : ℕ) → start < end → ((i : ℕ) → start ≤ i → i < end → cell bits pages i ≡ Some s) →
    (p : ℕ) → start / 512 ≤ p → p < (end - 1) / 512 + 1 → owner_of pages p ≡ Some s
cells_of_run bits pages s start end some cells p low high =
    let at = page_index start end p some low high in
    ap (owner_of pages) (sym at.1) ∙ (cell_some bits pages at.0 s (cells at.0 at.2 at.3)).1

pub bits_of_run : (bits : List Bool) (pages : List (Option ℕ)) (s start end : ℕ) → ((i : ℕ) → start ≤ i → i < end → cell bits pages i ≡ Some s) →
    (i : ℕ) → start ≤ i → i < end → get_or bits i false ≡ true
bits_of_run bits pages s start end cells i low high = (cell_some bits pages i s (cells i low high)).0
