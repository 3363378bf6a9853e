-- What CPOOL GET is answered.
use Rattle.std.proofs.Common.{◌≡◌, ◌≢◌, cond, ℕ, ◌+◌, ◌-◌, ◌*◌, ◌<◌, ◌≤◌, inl, inr, Bool, true, false, Some, None, Err, refl, sym, ap, ◌∙◌, subst, arith}
use Rattle.std.specs.Option.{option_map}
use Rattle.std.proofs.lemmas.Bool.Decides.{nat_tests}
use Rattle.std.specs.FinMap.{FinMap, get}
use Rattle.mvs_model.specs.declared.name.Name.{Name}
use Rattle.mvs_model.specs.declared.request.Reply.TheVariants.{Cell}
use Rattle.mvs_model.specs.Name.{name_cmp}
use Rattle.mvs_model.specs.Place.{PlaceValue, place_at}
use Rattle.mvs_model.specs.Storage.{Storage, NoPlace, has_address}
use Rattle.mvs_model.specs.Owners.{Owners}
use Rattle.mvs_model.specs.Pools.{Part, part_length, part_want, first_cell, IsFreeCell, IsCellOf}
use Rattle.mvs_model.specs.View.{state_of}
use Rattle.mvs_model.specs.Changes.{TakesCell, with_part}
use Rattle.mvs_model.specs.Causes.{NoneFree, Passed, Refused, causes_of, cell_causes}
use Rattle.mvs_model.specs.Steps.{Does, TakesSome, Tries}
use Rattle.mvs_model.specs.declared.refusal.Refusal.TheVariants.{NoFreeCell, NoPart, NoPool}
use Rattle.mvs_model.specs.declared.request.Request.TheVariants as request
use Rattle.mvs_model.proofs.StepCases.{more_not_short}
use Rattle.mvs_model.proofs.Tests.{true_false}
use Rattle.std.specs.Prelude.{IsTrue, is_some, not}
use Rattle.mvs_model.specs.Requests.{GetsMore}
use Rattle.mvs_model.proofs.PoolPut.{put_here}
use Rattle.cell_pool.specs.Layout.{byte_of, count_at, taken_at, flag, head_length}
use Rattle.cell_pool.specs.Roots.{Root, extended, free_in, part_addr, part_of, pool_of, pools_of}
use Rattle.cell_pool.specs.Agree.{IsCounted, AgreeParts, Agree}
use Rattle.cell_pool.specs.Marks.{Marks}
use Rattle.cell_pool.specs.Walk.{IsChain, IsFreeAt, AllTaken, Fills}
use Rattle.cell_pool.specs.Extended.{Extended, NoRoom}
use Rattle.cell_pool.proofs.Chains.{contained_part}
use Rattle.cell_pool.proofs.Taken.{TakenAt, set_from}
use Rattle.mvs_model.proofs.Stand.{holder_state}
use Rattle.cell_pool.proofs.Frame.{get-pools_of, pool_from}
use Rattle.cell_pool.proofs.Walking.{chain_of, has_cell}
use Rattle.cell_pool.proofs.Taking.{agree_mid, keeps_new, takes_agrees, was_free, takes_seen}
use Rattle.cell_pool.proofs.Counts.{count_full, count_some}
use Rattle.cell_pool.proofs.Counted.{some_free, counted_kept, booked_kept, booked_pools, booked_agrees}
use Rattle.cell_pool.proofs.Recounted.{counted_other, counted_taken, one_number}
use Rattle.cell_pool.proofs.Opening.{all_set, counts}
use Rattle.cell_pool.proofs.Untaken.{is_free}
use Rattle.mvs_model.proofs.TakenCells.{never}
use Rattle.std.proofs.lemmas.Bool.{cases_lt}
use Rattle.mvs_model.specs.Name.{same_name}

-- what was taken, by a spot
module _ (roots : FinMap name_cmp Root) (old : Storage) (agree : AgreeParts roots old) (name : Name) (r : Root) (is : get roots name ≡ Some r) (a i taken open_part : ℕ) (new : Storage) (p : PlaceValue) (spot : IsFreeAt old r a i taken open_part)
    (done : (mid : Storage) × Marks old a i true (taken + 1) mid × Fills mid p r.fill new) (place : p ≡ place_at (a + head_length (count_at (byte_of old) a) + i * r.cell_size) r.cell_size) where
  low : i < count_at (byte_of old) (part_addr (byte_of old) r.first spot.number)
  low = subst (λ b. i < count_at (byte_of old) b) spot.addr spot.is_cell

  marks : Marks old (part_addr (byte_of old) r.first spot.number) i true (taken + 1) done.0
  marks = subst (λ b. Marks old b i true (taken + 1) done.0) spot.addr done.1

  clear : flag (byte_of old) (part_addr (byte_of old) r.first spot.number) i ≡ false
  clear = subst (λ b. flag (byte_of old) b i ≡ false) spot.addr spot.clear

  more : taken + 1 ≡ taken_at (byte_of old) (part_addr (byte_of old) r.first spot.number) + 1
  more = ap (λ k. k + 1) (spot.of_taken ∙ ap (taken_at (byte_of old)) spot.addr)

  c : ℕ
  c = first_cell r.cell_size (part_of (byte_of old) r spot.number) + i * r.cell_size

  place_is : p ≡ place_at (first_cell r.cell_size (part_of (byte_of old) r spot.number) + i * r.cell_size) r.cell_size
  place_is = place ∙ ap (λ b. place_at (b + head_length (count_at (byte_of old) b) + i * r.cell_size) r.cell_size) spot.addr ∙ ap (λ x. place_at x r.cell_size) (first (part_addr (byte_of old) r.first spot.number) (count_at (byte_of old) (part_addr (byte_of old) r.first spot.number)) r.cell_size (i * r.cell_size)) where
    first : (b n size k : ℕ) → b + head_length n + k ≡ first_cell size (record { place = place_at b (part_length size n); count = n }) + k
    first b n size k = omega arith

  fills : Fills done.0 (place_at (first_cell r.cell_size (part_of (byte_of old) r spot.number) + i * r.cell_size) r.cell_size) r.fill new
  fills = subst (λ q. Fills done.0 q r.fill new) place_is done.2

  pub got_agrees : AgreeParts roots new
  got_agrees = takes_agrees roots old done.0 new agree name r is spot.number spot.is_part i low (taken + 1) marks _ refl clear more fills

  pub got_free : IsFreeCell (pool_of (byte_of old) r) (first_cell r.cell_size (part_of (byte_of old) r spot.number) + i * r.cell_size)
  got_free = was_free roots old done.0 new agree name r is spot.number spot.is_part i low (taken + 1) marks _ refl clear more fills

  pub got_cell : (o : Owners) → TakesCell (state_of old o (pools_of roots old)) name (pool_of (byte_of old) r) (first_cell r.cell_size (part_of (byte_of old) r spot.number) + i * r.cell_size) (state_of new o (pools_of roots new))
  got_cell o = takes_seen roots old done.0 new agree name r is spot.number spot.is_part i low (taken + 1) marks _ refl clear more fills o

  pub got : (conditional : Bool) (o : Owners) (t : Name) → Passed (causes_of (state_of old o (pools_of roots old)) t (request.Get name conditional)) × Does (state_of old o (pools_of roots old)) t (request.Get name conditional) (Cell p) (state_of new o (pools_of roots new))
  got conditional o t = (
    (
      ap (λ v. not (is_some v)) (pool_from roots old name r is),
      subst (λ v. Passed (cell_causes (state_of old o (pools_of roots old)) conditional v)) (sym (pool_from roots old name r is))
          (λ h. h.1 _ got_free, (λ h. h.0 _ got_free, tt)),
    ),
    subst (λ v. TakesSome (state_of old o (pools_of roots old)) name v (Cell p) (state_of new o (pools_of roots new))) (sym (pool_from roots old name r is))
        (inl (_, got_free, (got_cell o, ap Cell place_is))),
  )

  -- the part was not full
  pub room : taken_at (byte_of old) (part_addr (byte_of old) r.first spot.number) + 1 ≤ count_at (byte_of old) (part_addr (byte_of old) r.first spot.number)
  room = elim (cases_lt (taken_at (byte_of old) (part_addr (byte_of old) r.first spot.number)) (count_at (byte_of old) (part_addr (byte_of old) r.first spot.number))) [
    | inl l ↦ (let h = l in omega arith)
    | inr l ↦
        let laid = ((agree.chained name r is).parts spot.number spot.is_part).taken in
        let f : true ≡ false = sym (count_full (count_at (byte_of old) (part_addr (byte_of old) r.first spot.number)) i (flag (byte_of old) (part_addr (byte_of old) r.first spot.number)) low (omega arith)) ∙ clear in absurd (cc)
  ]

  -- what is kept of the pools
  module _ (counted : (n : Name) (q : Root) → get roots n ≡ Some q → IsCounted (byte_of old) q) where
    got_others : (n : Name) (q : Root) → get roots n ≡ Some q → n ≢ name → IsCounted (byte_of new) q
    got_others n q e ne =
        counted_kept roots done.0 new (agree_mid roots old done.0 new agree name r is spot.number spot.is_part i low (taken + 1) marks _ refl clear more fills) (keeps_new roots old done.0 new agree name r is spot.number spot.is_part i low (taken + 1) marks _ refl clear more fills) n q e
        (counted_other roots old done.0 agree name r is spot.number spot.is_part i low true (taken + 1) marks n q e ne (counted n q e))

    got_here : IsCounted (byte_of new) (record r { free = r.free - 1; open_part = open_part })
    got_here = subst (λ b. IsCounted (byte_of new) (record r { free = r.free - 1; open_part = b })) (sym spot.open_addr)
        (booked_kept roots done.0 new (agree_mid roots old done.0 new agree name r is spot.number spot.is_part i low (taken + 1) marks _ refl clear more fills) (keeps_new roots old done.0 new agree name r is spot.number spot.is_part i low (taken + 1) marks _ refl clear more fills) name r is _ _
        (counted_taken roots old done.0 agree name r is spot.number spot.is_part i low true (taken + 1) marks more room spot.open_number spot.is_open spot.full (counted name r is)))

    pub got_some : 1 ≤ r.free
    got_some = let c = (counted name r is).free in let h : 1 ≤ free_in (byte_of old) r.first r.count = some_free (byte_of old) r.first r.count spot.number spot.is_part room in omega arith

    module _ (new_roots : FinMap name_cmp Root) (now : (n : Name) → get new_roots n ≡ cond (same_name n name) (Some (record r { free = r.free - 1; open_part = open_part })) (get roots n)) where
      pub got_pools : pools_of new_roots new ≡ pools_of roots new
      got_pools = booked_pools roots new_roots new name r is _ _ now

      pub got_all : Agree new_roots new
      got_all = booked_agrees roots new_roots new name r is _ _ now got_agrees got_here got_others

module _ (roots : FinMap name_cmp Root) (old : Storage) (agree : AgreeParts roots old) (name : Name) (conditional : Bool) where
  pub no_pool : get roots name ≡ None → (o : Owners) (t : Name) → Tries Cell (state_of old o (pools_of roots old)) t (request.Get name conditional) (Err NoPool) (state_of old o (pools_of roots old))
  no_pool e o t = (inl (ap (λ v. not (is_some v)) (get-pools_of roots old name ∙ ap (option_map (pool_of (byte_of old))) e), refl), refl)

  module _ (r : Root) (is : get roots name ≡ Some r) (all : AllTaken old r) where
    pub none_free : (c : ℕ) → IsFreeCell (pool_of (byte_of old) r) c → ⊥
    none_free c f =
        let ch = chain_of roots old name r agree is in
        let j = contained_part (byte_of old) r f.0.0 f.0.1 in
        let cell : IsCellOf r.cell_size (part_of (byte_of old) r j.0) c = subst (λ part. IsCellOf r.cell_size part c) (sym j.2) f.0.2 in
        let has : has_address (part_of (byte_of old) r j.0).place c ≡ true = has_cell old r ch j.0 cell.0 c j.1 cell.1 cell.2 in
        let low = ch.low j.0 j.1 in
        let t : TakenAt (byte_of old) r c = record { part = j.0; cell = cell.0; is_part = j.1; is_cell = cell.1; at = cell.2; set = all j.0 cell.0 j.1 cell.1 } in
        let g : true ≡ false = sym (set_from (byte_of old) r c (small c _ _ has low) t) ∙ f.1 in absurd (cc) where
          small : (c a n : ℕ) → has_address (place_at a n) c ≡ true → a + n ≤ 0x3000000 → c < 2147483648
          small c a n e l = let h : c < a + n = grind (arith, nat_tests) in omega arith

    there : (o : Owners) → not (is_some (get (pools_of roots old) name)) ≡ false
    there o = ap (λ v. not (is_some v)) (pool_from roots old name r is)

    pub no_cell : conditional ≡ true → (o : Owners) (t : Name) → Tries Cell (state_of old o (pools_of roots old)) t (request.Get name conditional) (Err NoFreeCell) (state_of old o (pools_of roots old))
    no_cell e o t = (
      inr (
        there o,
        subst (λ v. Refused (cell_causes (state_of old o (pools_of roots old)) conditional v) NoFreeCell) (sym (pool_from roots old name r is)) (inl ((e, none_free), refl)),
      ),
      refl,
    )

    may_extend : conditional ≡ false → (IsTrue conditional × NoneFree (pool_of (byte_of old) r)) → ⊥
    may_extend e h = true_false (sym h.0 ∙ e)

    pub short : conditional ≡ false → NoRoom old r → (o : Owners) (t : Name) → Tries Cell (state_of old o (pools_of roots old)) t (request.Get name conditional) (Err NoPart) (state_of old o (pools_of roots old))
    short e none o t = (
      inr (
        there o,
        subst (λ v. Refused (cell_causes (state_of old o (pools_of roots old)) conditional v) NoPart) (sym (pool_from roots old name r is))
            (inr (may_extend e, inl ((none_free, subst (λ h. NoPlace old.regions h r.subpool (part_want r.cell_size r.secondary r.side)) (λ k d. sym (holder_state old o (pools_of roots old) agree.storage d) k) none), refl))),
      ),
      refl,
    )

    -- a further part, and a cell of it
    module _ (a : ℕ) (new_roots : FinMap name_cmp Root) (mid : Storage) (e : Extended roots old name r a new_roots mid) (agree_mid : AgreeParts new_roots mid) where
      ch : IsChain mid (extended r a)
      ch = chain_of new_roots mid name (extended r a) agree_mid e.root

      pool_is : (o : Owners) → pool_of (byte_of mid) (extended r a) ≡ with_part (pool_of (byte_of old) r) r.secondary e.place
      pool_is o =
          let f : Some (pool_of (byte_of mid) (extended r a)) ≡ Some (with_part (pool_of (byte_of old) r) r.secondary e.place) =
          sym (pool_from new_roots mid name (extended r a) e.root) ∙ put_here (state_of old o (pools_of roots old)) (state_of mid o (pools_of new_roots mid)) name (Some (with_part (pool_of (byte_of old) r) r.secondary e.place)) (e.extends o).pools in
          cc

      pub last_count : count_at (byte_of mid) a ≡ r.secondary
      last_count = ap (count_at (byte_of mid)) (e.free.addr ∙ ap (part_addr (byte_of mid) r.first) e.is_last) ∙ ap (λ (q : Part). q.count) e.part

      in_last : (j k : ℕ) → j ≡ r.count → IsCellOf r.cell_size (part_of (byte_of mid) (extended r a) j) k → IsCellOf r.cell_size (record { place = e.place; count = r.secondary }) k
      in_last j k f h = subst (λ part. IsCellOf r.cell_size part k) (ap (part_of (byte_of mid) (extended r a)) f ∙ e.part) h

      -- each cell of the part is free
      pub fresh : (i c : ℕ) → i < r.secondary → c ≡ a + head_length r.secondary + i * r.cell_size → IsFreeCell (pool_of (byte_of mid) (extended r a)) c
      fresh i c l at =
          let m = byte_of mid in
          let n = last_count in
          let taken = counts mid (extended r a) ch e.free.number e.free.is_part a e.free.addr in
          let none = e.free.of_taken in
          let low : i < count_at m a = omega arith in
          is_free mid (extended r a) ch c a (count_at m a) (taken_at m a) i
          (record { number = e.free.number; is_part = e.free.is_part; addr = e.free.addr; cells = refl; of_taken = refl; of_past = refl }) low
          (at ∙ ap (λ k. a + head_length k + i * r.cell_size) (sym n)) (never _ (λ t. let some = count_some (count_at m a) i (flag m a) low t in absurd (omega arith)))

      -- and a free one is of the part
      module _ (b i taken open_part : ℕ) (spot : IsFreeAt mid (extended r a) b i taken open_part) (new : Storage) (p : PlaceValue)
          (done : (last : Storage) × Marks mid b i true (taken + 1) last × Fills last p r.fill new) (place : p ≡ place_at (b + head_length (count_at (byte_of mid) b) + i * r.cell_size) r.cell_size) where
        spot_last : spot.number ≡ r.count
        spot_last = elim (cases_lt spot.number r.count) [
          | inl l ↦
              let m = byte_of mid in
              let f = e.free in
              let same : f.open_number ≡ f.number = one_number new_roots mid agree_mid name (extended r a) e.root f.open_number f.number f.is_open f.is_part (sym f.open_addr ∙ f.addr) in
              let here = e.is_last in
              let full : count_at m (part_addr m r.first spot.number) ≤ taken_at m (part_addr m r.first spot.number) = f.full spot.number (omega arith) in
              let set : flag m (part_addr m r.first spot.number) i ≡ true = all_set mid (extended r a) ch spot.number spot.is_part (part_addr m r.first spot.number) refl _ _ refl refl full i (subst (λ k. i < count_at m k) spot.addr spot.is_cell) in
              let never : true ≡ false = sym set ∙ ap (λ k. flag m k i) (sym spot.addr) ∙ spot.clear in absurd (cc)
          | inr l ↦ (let h = spot.is_part in omega arith)
        ]

        cell : ℕ
        cell = first_cell r.cell_size (part_of (byte_of mid) (extended r a) spot.number) + i * r.cell_size

        gets_more : (o : Owners) → GetsMore (state_of old o (pools_of roots old)) name (pool_of (byte_of old) r) (Cell p) (state_of new o (pools_of new_roots new))
        unfolding cell
        gets_more o = (
          e.place,
          state_of mid o (pools_of new_roots mid),
          e.extends o,
          (
            cell,
            in_last spot.number cell spot_last (i, subst (λ k. i < count_at (byte_of mid) k) spot.addr spot.is_cell, refl),
            (
              subst (λ q. TakesCell (state_of mid o (pools_of new_roots mid)) name q cell (state_of new o (pools_of new_roots new))) (pool_is o) (got_cell new_roots mid agree_mid name (extended r a) e.root b i taken open_part new p spot done place o),
              ap Cell (place_is new_roots mid agree_mid name (extended r a) e.root b i taken open_part new p spot done place),
            ),
          ),
        )

        pub got_more : conditional ≡ false → (o : Owners) (t : Name) → Passed (causes_of (state_of old o (pools_of roots old)) t (request.Get name conditional)) × Does (state_of old o (pools_of roots old)) t (request.Get name conditional) (Cell p) (state_of new o (pools_of new_roots new))
        got_more f o t = (
          (
            there o,
            subst (λ v. Passed (cell_causes (state_of old o (pools_of roots old)) conditional v)) (sym (pool_from roots old name r is))
                (may_extend f, (λ h. more_not_short (state_of old o (pools_of roots old)) (state_of new o (pools_of new_roots new)) name (pool_of (byte_of old) r) (Cell p) (gets_more o) h.1, tt)),
          ),
          subst (λ v. TakesSome (state_of old o (pools_of roots old)) name v (Cell p) (state_of new o (pools_of new_roots new))) (sym (pool_from roots old name r is)) (inr (none_free, gets_more o)),
        )
