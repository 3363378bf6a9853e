-- What CPOOL FREE is answered.
use Rattle.std.proofs.Common.{inl, inr, ◌≡◌, ◌≢◌, ℕ, ◌+◌, ◌/◌, ◌<◌, ◌≤◌, Bool, true, false, cond, Some, None, Err, refl, sym, ap, ◌∙◌, subst, arith}
use Rattle.std.specs.Prelude.{◌==◌, not, is_some}
use Rattle.std.specs.Option.{option_map}
use Rattle.std.proofs.lemmas.Bool.Decides.{nat_tests}
use Rattle.std.specs.FinMap.{FinMap, get}
use Rattle.std.proofs.lemmas.Bool.{and_right}
use Rattle.mvs_model.specs.declared.name.Name.{Name}
use Rattle.mvs_model.specs.declared.refusal.Refusal.TheVariants.{NoPool, NoTakenCell}
use Rattle.mvs_model.specs.declared.request.Request.TheVariants as request
use Rattle.mvs_model.specs.declared.request.Reply.TheVariants.{Rc0}
use Rattle.mvs_model.specs.Name.{name_cmp, same_name}
use Rattle.mvs_model.specs.Place.{place_at}
use Rattle.mvs_model.specs.Finite.{count_below}
use Rattle.mvs_model.specs.Storage.{Storage, AllHeld}
use Rattle.mvs_model.specs.Owners.{Owners}
use Rattle.mvs_model.specs.View.{state_of}
use Rattle.mvs_model.specs.Causes.{Passed, Refused, causes_of, free_causes}
use Rattle.mvs_model.specs.Steps.{Does, GivesBack, Tries}
use Rattle.cell_pool.specs.Layout.{byte_of, count_at, taken_at, flag}
use Rattle.cell_pool.specs.Roots.{Root, part_addr, is_taken, pool_of, pools_of}
use Rattle.cell_pool.specs.Agree.{IsCounted, AgreeParts, Agree}
use Rattle.cell_pool.specs.Marks.{Marks}
use Rattle.cell_pool.specs.Walk.{IsTakenAt}
use Rattle.cell_pool.proofs.Counts.{count_one_more, count_some}
use Rattle.subpool_store.proofs.Counts.{count_most}
use Rattle.cell_pool.proofs.Counted.{booked_pools, booked_agrees}
use Rattle.cell_pool.proofs.Recounted.{counted_other, counted_freed}
use Rattle.cell_pool.proofs.Taken.{contains-taken, set_from}
use Rattle.cell_pool.proofs.Frame.{get-pools_of, pool_from}
use Rattle.cell_pool.proofs.Marked.{cell_small, agrees, gives_seen, apart_given}
use Rattle.cell_pool.proofs.Walking.{chain_of, held_in}

module _ (roots : FinMap name_cmp Root) (old : Storage) (agree : AgreeParts roots old) (name : Name) (c : ℕ) where
  pub no_pool : get roots name ≡ None → (o : Owners) (t : Name) → Tries {A = Unit {0}} (λ _. Rc0) (state_of old o (pools_of roots old)) t (request.Free name c) (Err NoPool) (state_of old o (pools_of roots old))
  no_pool e o t = (inl (ap (λ v. not (is_some v)) (get-pools_of roots old name ∙ ap (option_map (pool_of (byte_of old))) e), refl), refl)

  module _ (r : Root) (is : get roots name ≡ Some r) where
    pub there : not (is_some (get (pools_of roots old) name)) ≡ false
    there = ap (λ v. not (is_some v)) (pool_from roots old name r is)

    pub no_cell : is_taken (byte_of old) r c ≡ false → (o : Owners) (t : Name) → Tries {A = Unit {0}} (λ _. Rc0) (state_of old o (pools_of roots old)) t (request.Free name c) (Err NoTakenCell) (state_of old o (pools_of roots old))
    no_cell e o t = (
      inr (
        there,
        subst (λ v. Refused (free_causes c v) NoTakenCell) (sym (pool_from roots old name r is))
            (inl (ap not (contains-taken (byte_of old) r c ∙ and_right _ _ e), refl)),
      ),
      refl,
    )

    module _ (a i taken k : ℕ) (new : Storage) {past : Bool} (spot : IsTakenAt old r a i taken past c) (marks : Marks old a i false k new) (one_fewer : k + 1 ≡ taken) where
      marks' : Marks old (part_addr (byte_of old) r.first spot.number) i false k new
      marks' = subst (λ b. Marks old b i false k new) spot.addr marks

      low : i < count_at (byte_of old) (part_addr (byte_of old) r.first spot.number)
      low = subst (λ b. i < count_at (byte_of old) b) spot.addr spot.is_cell

      was : flag (byte_of old) (part_addr (byte_of old) r.first spot.number) i ≡ true
      was = subst (λ b. flag (byte_of old) b i ≡ true) spot.addr spot.set

      counted : k ≡ count_below (count_at (byte_of old) (part_addr (byte_of old) r.first spot.number)) (flag (byte_of new) (part_addr (byte_of old) r.first spot.number))
      counted =
          let before : taken ≡ count_below (count_at (byte_of old) (part_addr (byte_of old) r.first spot.number)) (flag (byte_of old) (part_addr (byte_of old) r.first spot.number)) = spot.of_taken ∙ ap (taken_at (byte_of old)) spot.addr ∙ ((agree.chained name r is).parts spot.number spot.is_part).taken in
          let fewer : count_below (count_at (byte_of old) (part_addr (byte_of old) r.first spot.number)) (flag (byte_of old) (part_addr (byte_of old) r.first spot.number)) ≡ count_below (count_at (byte_of old) (part_addr (byte_of old) r.first spot.number)) (flag (byte_of new) (part_addr (byte_of old) r.first spot.number)) + 1 =
          count_one_more i _ (flag (byte_of new) (part_addr (byte_of old) r.first spot.number)) (flag (byte_of old) (part_addr (byte_of old) r.first spot.number)) low
          (marks'.flags i ∙ ap (λ b. cond b false (flag (byte_of old) (part_addr (byte_of old) r.first spot.number) i)) (let e : (i == i) ≡ true = grind (arith, nat_tests) in e)) was
          (λ j ne. sym (marks'.flags j ∙ ap (λ b. cond b false (flag (byte_of old) (part_addr (byte_of old) r.first spot.number) j)) (unequal j i ne))) in
          omega arith
        where
          unequal : (j i : ℕ) → j ≢ i → (j == i) ≡ false
          unequal j i h = grind (arith, nat_tests)

      pub freed : (o : Owners) (t : Name) → Passed (causes_of (state_of old o (pools_of roots old)) t (request.Free name c)) × Does (state_of old o (pools_of roots old)) t (request.Free name c) Rc0 (state_of new o (pools_of roots new))
      freed o t = (
        (
          there,
          subst (λ v. Passed (free_causes c v)) (sym (pool_from roots old name r is)) (
            ap not (set_from (byte_of old) r c (cell_small roots old new agree name r is spot.number spot.is_part i low false k marks' c spot.at) (record { part = spot.number; cell = i; is_part = spot.is_part; is_cell = low; at = spot.at; set = was })),
            tt,
          ),
        ),
        (
          refl,
          subst (λ v. GivesBack (state_of old o (pools_of roots old)) name c v (state_of new o (pools_of roots new))) (sym (pool_from roots old name r is))
              (gives_seen roots old new agree name r is spot.number spot.is_part i low false k marks' c spot.at o refl was),
        ),
      )

      pub still_agrees : AgreeParts roots new
      still_agrees = agrees roots old new agree name r is spot.number spot.is_part i low false k marks' c spot.at counted (λ o. apart_given roots old new agree name r is spot.number spot.is_part i low false k marks' c spot.at o refl was)

      -- what is kept of the pools
      module _ (counted : (n : Name) (q : Root) → get roots n ≡ Some q → IsCounted (byte_of old) q) where
        room : taken_at (byte_of old) (part_addr (byte_of old) r.first spot.number) ≤ count_at (byte_of old) (part_addr (byte_of old) r.first spot.number)
        room =
            let e = ((agree.chained name r is).parts spot.number spot.is_part).taken in
            let h = count_most (count_at (byte_of old) (part_addr (byte_of old) r.first spot.number)) (flag (byte_of old) (part_addr (byte_of old) r.first spot.number)) in omega arith

        freed_here : IsCounted (byte_of new) (record r { free = r.free + 1; open_part = cond past r.open_part a })
        freed_here = subst (λ b. IsCounted (byte_of new) (record r { free = r.free + 1; open_part = cond past r.open_part b })) (sym spot.addr)
            (counted_freed roots old new agree name r is spot.number spot.is_part i low false k marks' (one_fewer ∙ spot.of_taken ∙ ap (taken_at (byte_of old)) spot.addr) room past spot.of_past (counted name r is))

        module _ (new_roots : FinMap name_cmp Root) (now : (n : Name) → get new_roots n ≡ cond (same_name n name) (Some (record r { free = r.free + 1; open_part = cond past r.open_part a })) (get roots n)) where
          pub freed_pools : pools_of new_roots new ≡ pools_of roots new
          freed_pools = booked_pools roots new_roots new name r is _ _ now

          pub freed_all : Agree new_roots new
          freed_all = booked_agrees roots new_roots new name r is _ _ now still_agrees freed_here (λ n q e ne. counted_other roots old new agree name r is spot.number spot.is_part i low false k marks' n q e ne (counted n q e))

    -- the cell's part has a taken cell, and its flag is held
    pub some_taken : (a i taken : ℕ) {past : Bool} → IsTakenAt old r a i taken past c → 1 ≤ taken
    some_taken a i taken spot =
        let before : taken ≡ count_below (count_at (byte_of old) a) (flag (byte_of old) a) = spot.of_taken ∙ subst (λ b. taken_at (byte_of old) b ≡ count_below (count_at (byte_of old) b) (flag (byte_of old) b)) (sym spot.addr) ((agree.chained name r is).parts spot.number spot.is_part).taken in
        let one : 1 ≤ count_below (count_at (byte_of old) a) (flag (byte_of old) a) = count_some _ i (flag (byte_of old) a) spot.is_cell spot.set in
        omega arith

    pub mark_held : (a i taken : ℕ) {past : Bool} → IsTakenAt old r a i taken past c → AllHeld old (place_at a (16 + i / 8 + 1))
    mark_held a i taken spot =
        let low : i < count_at (byte_of old) (part_addr (byte_of old) r.first spot.number) = subst (λ b. i < count_at (byte_of old) b) spot.addr spot.is_cell in
        subst (λ b. AllHeld old (place_at b (16 + i / 8 + 1))) (sym spot.addr) (held_in old r (chain_of roots old name r agree is) spot.number spot.is_part _ _ (omega arith) (omega arith) (omega arith))

    pub mark_low : (a i taken : ℕ) {past : Bool} → IsTakenAt old r a i taken past c → a + 16 + i / 8 < 2147483648
    mark_low a i taken spot =
        let low : i < count_at (byte_of old) (part_addr (byte_of old) r.first spot.number) = subst (λ b. i < count_at (byte_of old) b) spot.addr spot.is_cell in
        let e = spot.addr in
        let l = (chain_of roots old name r agree is).low spot.number spot.is_part in
        omega arith
