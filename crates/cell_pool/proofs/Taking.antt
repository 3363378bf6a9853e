-- What CPOOL GET is answered where a cell is free.
use Rattle.std.proofs.Common.{◌≡◌, ◌≢◌, ℕ, ◌+◌, ◌*◌, ◌/◌, ◌<◌, ◌≤◌, Bool, true, false, cond, Some, None, refl, sym, ap, ◌∙◌, subst, arith}
use Rattle.std.specs.Prelude.{◌==◌, ◌||◌}
use Rattle.std.specs.Option.{option_map}
use Rattle.std.proofs.lemmas.Bool.Decides.{nat_tests}
use Rattle.std.specs.FinMap.{FinMap, get}
use Rattle.std.specs.FinSet as set
use Rattle.std.specs.Ordering.{nat_cmp}
use Rattle.std.specs.Cmp.{nat_cmp_total}
use Rattle.std.proofs.lemmas.Bool.{or_right}
use Rattle.mvs_model.specs.declared.name.Name.{Name}
use Rattle.mvs_model.specs.Name.{name_cmp}
use Rattle.mvs_model.specs.Place.{place_at}
use Rattle.mvs_model.specs.Finite.{Changes, count_below}
use Rattle.mvs_model.specs.Storage.{Storage, has_address}
use Rattle.mvs_model.specs.Owners.{Owners}
use Rattle.mvs_model.specs.Pools.{first_cell, cell_at, IsFreeCell}
use Rattle.mvs_model.specs.State.{State, is_plain, granted}
use Rattle.mvs_model.specs.View.{in_pools, holding, state_of}
use Rattle.mvs_model.specs.Changes.{Granted, TakesCell}
use Rattle.mvs_model.specs.WellFormed.{Apart}
use Rattle.mvs_model.proofs.Made.{made_changes}
use Rattle.mvs_model.proofs.TakenCells.{in_cell_from, never}
use Rattle.mvs_model.proofs.PartsTaken.{same_number, taken_apart}
use Rattle.cell_pool.specs.Layout.{byte_of, count_at, taken_at, flag}
use Rattle.cell_pool.specs.Roots.{Root, part_addr, part_of, taken_of, pool_of, pools_of}
use Rattle.cell_pool.specs.Agree.{AgreeParts}
use Rattle.cell_pool.specs.Laws.{KeepsParts}
use Rattle.cell_pool.specs.Marks.{Marks}
use Rattle.cell_pool.specs.Walk.{Fills}
use Rattle.cell_pool.proofs.Counts.{count_one_more}
use Rattle.cell_pool.proofs.Chains.{part_contained}
use Rattle.cell_pool.proofs.Taken.{set_found}
use Rattle.mvs_model.proofs.Stand.{held_state, bytes_state}
use Rattle.cell_pool.proofs.Frame.{pool_from, kept}
use Rattle.cell_pool.proofs.Keeping.{write_parts}
use Rattle.cell_pool.proofs.Only.{nobody}
use Rattle.cell_pool.proofs.SameState.{same_state}
use Rattle.cell_pool.proofs.Marked.{one_cell, inserted, pools_now, agrees, apart_now, holding_now, granted_same}

module _ (roots : FinMap name_cmp Root) (old mid new : Storage) (agree : AgreeParts roots old) (name : Name) (r : Root) (is : get roots name ≡ Some r) (p : ℕ) (lp : p < r.count) (i : ℕ) (li : i < count_at (byte_of old) (part_addr (byte_of old) r.first p))
    (k : ℕ) (marks : Marks old (part_addr (byte_of old) r.first p) i true k mid) (c : ℕ) (at : c ≡ first_cell r.cell_size (part_of (byte_of old) r p) + i * r.cell_size)
    (clear : flag (byte_of old) (part_addr (byte_of old) r.first p) i ≡ false) (one_more : k ≡ taken_at (byte_of old) (part_addr (byte_of old) r.first p) + 1) (fills : Fills mid (place_at c r.cell_size) r.fill new) where
  counted : k ≡ count_below (count_at (byte_of old) (part_addr (byte_of old) r.first p)) (flag (byte_of mid) (part_addr (byte_of old) r.first p))
  counted =
      let before : taken_at (byte_of old) (part_addr (byte_of old) r.first p) ≡ count_below (count_at (byte_of old) (part_addr (byte_of old) r.first p)) (flag (byte_of old) (part_addr (byte_of old) r.first p)) = ((agree.chained name r is).parts p lp).taken in
      let more : count_below (count_at (byte_of old) (part_addr (byte_of old) r.first p)) (flag (byte_of mid) (part_addr (byte_of old) r.first p)) ≡ count_below (count_at (byte_of old) (part_addr (byte_of old) r.first p)) (flag (byte_of old) (part_addr (byte_of old) r.first p)) + 1 =
      count_one_more i _ (flag (byte_of old) (part_addr (byte_of old) r.first p)) (flag (byte_of mid) (part_addr (byte_of old) r.first p)) li clear
      (marks.flags i ∙ ap (λ b. cond b true (flag (byte_of old) (part_addr (byte_of old) r.first p) i)) (let e : (i == i) ≡ true = grind (arith, nat_tests) in e))
      (λ j ne. marks.flags j ∙ ap (λ b. cond b true (flag (byte_of old) (part_addr (byte_of old) r.first p) j)) (unequal j i ne)) in
      omega arith
    where
      unequal : (j i : ℕ) → j ≢ i → (j == i) ≡ false
      unequal j i h = grind (arith, nat_tests)

  -- once the cell is marked
  pub agree_mid : AgreeParts roots mid
  agree_mid = agrees roots old mid agree name r is p lp i li true k marks c at counted (λ o. apart_now roots old mid agree name r is p lp i li true k marks c at o)

  pools_mid : taken_of (byte_of mid) r ≡ set.insert (taken_of (byte_of old) r) c
  pools_mid = inserted roots old mid agree name r is p lp i li true k marks c at refl

  has_it : set.contains (taken_of (byte_of mid) r) c ≡ true
  has_it = ap (λ s. set.contains s c) pools_mid ∙ set.contains-insert nat_cmp_total (taken_of (byte_of old) r) c c ∙ ap (λ b. b || set.contains (taken_of (byte_of old) r) c) (same_number c)

  -- its bytes may be written
  cell_granted : (o : Owners) → Granted (state_of mid o (pools_of roots mid)) (place_at c r.cell_size)
  cell_granted o x low high =
      or_right (is_plain (get (state_of mid o (pools_of roots mid)).held (x / 8))) _
      (in_cell_from (state_of mid o (pools_of roots mid)) x (record { name = name; pool = pool_of (byte_of mid) r; first = c; is_pool = pool_from roots mid name r is; taken = has_it; inside = inside })) where
        inside : has_address (place_at c r.cell_size) x ≡ true
        inside = let l : c ≤ x = low in let h : x < c + r.cell_size = high in grind (arith, nat_tests)

  pub keeps_new : KeepsParts roots mid new
  keeps_new = write_parts roots mid new (place_at c r.cell_size) (λ _. Some r.fill) nobody agree_mid fills.storage fills.regions fills.held fills.bytes (cell_granted nobody)

  agree_new : AgreeParts roots new × (pools_of roots new ≡ pools_of roots mid)
  agree_new = kept roots mid new agree_mid keeps_new

  pub takes_agrees : AgreeParts roots new
  takes_agrees = agree_new.0

  -- it was free
  pub was_free : IsFreeCell (pool_of (byte_of old) r) c
  was_free = (
    (part_of (byte_of old) r p, part_contained (byte_of old) r p lp, (i, li, at)),
    never _ (λ e.
        let t = set_found (byte_of old) r c e in
        let same = one_cell roots old mid agree name r is p lp i li true k marks c at t.part t.cell t.is_part t.is_cell t.at in
        let f : true ≡ false = sym t.set ∙ (λ q. flag (byte_of old) (same.0 q) (same.1 q)) ∙ clear in absurd (cc)),
  )

  module _ (o : Owners) where
    filled : (bytes : FinMap nat_cmp ℕ) × Changes (get (state_of old o (pools_of roots old)).bytes) (has_address (cell_at (pool_of (byte_of old) r) c)) (Some old.regions.fill) (get bytes)
    filled = made_changes (state_of old o (pools_of roots old)).bytes (c + r.cell_size) (has_address (cell_at (pool_of (byte_of old) r) c)) old.regions.fill (λ x e. below x e) where
      below : (x : ℕ) → has_address (place_at c r.cell_size) x ≡ true → x < c + r.cell_size
      below x e = grind (arith, nat_tests)

    taken_state : State
    taken_state = record (state_of old o (pools_of roots old)) { bytes = filled.0; pools = pools_of roots new }

    takes_one : TakesCell (state_of old o (pools_of roots old)) name (pool_of (byte_of old) r) c taken_state
    unfolding taken_state
    takes_one = record {
      regions = refl;
      held = refl;
      bytes = filled.1;
      owners = refl;
      pools = λ n. ap (λ m. get m n) agree_new.1 ∙ pools_now roots old mid agree name r is p lp i li true k marks c at (set.insert (taken_of (byte_of old) r) c) pools_mid n;
    }

    taken_is_apart : Apart taken_state
    taken_is_apart = taken_apart (state_of old o (pools_of roots old)) taken_state name (pool_of (byte_of old) r) c (pool_from roots old name r is) was_free.0 takes_one (agree.apart o)

    taken_bytes : (x b : ℕ) → get taken_state.bytes x ≡ Some b → get new.bytes x ≡ Some b
    taken_bytes x b e = by (has_address (place_at c r.cell_size) x) (fills.bytes x) (sym (takes_one.bytes x) ∙ e) where
      here : (g : Bool) → granted (state_of old o (pools_of roots old)) x ≡ g → cond g (get old.bytes x) None ≡ Some b → get mid.bytes x ≡ Some b
      here true f h = granted_same roots old mid agree name r is p lp i li true k marks o x f ∙ h
      here false f h = absurd (let g : None ≡ Some b = h in cc)

      by : (t : Bool) → get new.bytes x ≡ cond t (Some r.fill) (get mid.bytes x) → cond t (Some old.regions.fill) (get (state_of old o (pools_of roots old)).bytes x) ≡ Some b → get new.bytes x ≡ Some b
      by true f g = f ∙ ap Some (agree.chained name r is).fill ∙ g
      by false f g = f ∙ here (granted (state_of old o (pools_of roots old)) x) refl (sym (bytes_state old o (pools_of roots old) agree.storage x) ∙ g)

    taken_regions : taken_state.regions ≡ new.regions
    unfolding taken_state
    taken_regions = sym (fills.regions ∙ marks.regions)

    taken_owners : taken_state.owners ≡ o
    unfolding taken_state
    taken_owners = refl

    taken_pools : taken_state.pools ≡ pools_of roots new
    unfolding taken_state
    taken_pools = refl

    held_now : (d : ℕ) → holding new (pools_of roots new) d ≡ holding old (pools_of roots old) d
    held_now d = (λ q. option_map (λ s. record { subpool = s; pooled = in_pools (agree_new.1 q) d }) (get (fills.held q) d)) ∙ holding_now roots old mid agree name r is p lp i li true k marks c at d

    taken_held : (d : ℕ) → get taken_state.held d ≡ holding new (pools_of roots new) d
    unfolding taken_state
    taken_held d = held_state old o (pools_of roots old) agree.storage d ∙ sym (held_now d)

    pub takes_seen : TakesCell (state_of old o (pools_of roots old)) name (pool_of (byte_of old) r) c (state_of new o (pools_of roots new))
    takes_seen = subst (TakesCell (state_of old o (pools_of roots old)) name (pool_of (byte_of old) r) c)
        (same_state new o (pools_of roots new) fills.storage taken_state taken_is_apart.bytes taken_regions taken_owners taken_pools taken_held taken_bytes) takes_one
