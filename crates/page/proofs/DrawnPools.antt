-- The picture where cell pools change.
use Rattle.std.proofs.Common.{◌≡◌, ◌≢◌, ℕ, zero, suc, ◌-◌, ◌/◌, ◌≤◌, ◌==◌, ◌&&◌, ◌||◌, Bool, true, false, cond, not, List, [], ◌∷◌, ◌++◌, length, length-append, Option, Some, None, option_map, refl, sym, ap, ◌∙◌, subst, arith, eqb-true, nat_cmp}
use Rattle.std.specs.List.{list_any, slice_get}
use Rattle.std.specs.FinMap.{get}
use Rattle.std.specs.FinSet as set
use Rattle.std.specs.Cmp.{nat_cmp_total, unsigned_tied}
use Rattle.std.proofs.Math.Seq.{get_or-append_seam}
use Rattle.std.proofs.lemmas.Bool.{false_from_ne_true, or_left, or_right}
use Rattle.std.proofs.lemmas.Option.{slice_get-get_or}
use Rattle.mvs_model.specs.declared.name.Name.{Name}
use Rattle.mvs_model.specs.Changes.{DropsPool, Extends, GivesCell, TakesCell}
use Rattle.mvs_model.specs.Changes as model
use Rattle.mvs_model.specs.Finite.{Changes, has}
use Rattle.mvs_model.specs.Job.{JobValue}
use Rattle.mvs_model.specs.Name.{same_name}
use Rattle.mvs_model.specs.Owners.{entry}
use Rattle.mvs_model.specs.Place.{PlaceValue}
use Rattle.mvs_model.specs.Pools.{Part, Pool, cell_at, in_parts, in_taken, part_want}
use Rattle.mvs_model.specs.State.{State, holder, pooled}
use Rattle.mvs_model.specs.Storage.{Chosen, covers, has_address}
use Rattle.mvs_model.specs.WellFormed.{Apart}
use Rattle.mvs_model.proofs.Elements.{any_found}
use Rattle.mvs_model.proofs.PartsFewer.{none_held}
use Rattle.mvs_model.proofs.Tests.{none_some, same_self}
use Rattle.page.specs.Picture.{AreBytes, Both, DrawnPool, IsDrawn, IsMark, Label, Means, Picture, ShowsBy, changed, covered_by, filled, has_part_at, with_cell, with_part, with_pool}
use Rattle.page.proofs.Drawing.{both_changed, bytes_gone, bytes_same, bytes_set}

-- ---- lists

pub last_of : {X : Type 0} (xs : List X) (x : X) → slice_get (xs ++ x ∷ []) (length (xs ++ x ∷ []) - 1) ≡ Some x
last_of xs x =
    let e : length (xs ++ x ∷ []) - 1 ≡ length xs = omega (arith, length-append xs (x ∷ [])) in
    ap (slice_get (xs ++ x ∷ [])) e ∙ slice_get-get_or (xs ++ x ∷ []) (length xs) x (omega (arith, length-append xs (x ∷ []))) ∙ ap Some (get_or-append_seam xs x [] x)

any_at : {X : Type 0} (test : X → Bool) (xs : List X) (i : ℕ) (x : X) → slice_get xs i ≡ Some x → test x ≡ true → list_any test xs ≡ true
any_at test [] i x e t = none_some e
any_at test (y ∷ ys) zero x e t = let is : y ≡ x = (let f : Some y ≡ Some x = e in cc) in or_left (test y) _ (ap test is ∙ t)
any_at test (y ∷ ys) (suc i) x e t = or_right (test y) _ (any_at test ys i x e t)

-- ---- the drawn pool

-- what is drawn under a name that is a pool's
pub drawn_there : (means : Label → ℕ → Type 0) (a : Option DrawnPool) (b : Option Pool) (pool : Pool) → b ≡ Some pool → Both (IsDrawn means) a b → (q : DrawnPool) × (a ≡ Some q) × IsDrawn means q pool
drawn_there means None None pool e h = none_some e
drawn_there means None (Some x) pool e h = absurd h
drawn_there means (Some q) None pool e h = absurd h
drawn_there means (Some q) (Some x) pool e h = let is : x ≡ pool = (let f : Some x ≡ Some pool = e in cc) in (q, refl, subst (IsDrawn means q) is h)

-- a pool is put in another's place
pub put_shown : (means : Label → ℕ → Type 0) (f : Name → Option DrawnPool) (old new : Name → Option Pool) (name : Name) (a : Option DrawnPool) (b : Option Pool) → Both (IsDrawn means) a b → Changes old (λ n. same_name n name) b new
    → ((n : Name) → Both (IsDrawn means) (f n) (old n)) → (n : Name) → Both (IsDrawn means) (changed f (λ n. same_name n name) a n) (new n)
put_shown means f old new name a b h changes all = both_changed (IsDrawn means) f old new (λ n. same_name n name) a b h changes all

-- ---- a part more

-- a new part begins where none of the pool begins
pub no_part_there : (st : State) (name : Name) (pool : Pool) (count : ℕ) (p : PlaceValue) (q : DrawnPool) (means : Label → ℕ → Type 0) → Apart st → get st.pools name ≡ Some pool
    → Chosen st.regions (holder st) pool.subpool (part_want pool.cell_size count pool.side) p → IsDrawn means q pool → has_part_at p.addr q ≡ false
no_part_there st name pool count p q means apart is chosen drawn = false_from_ne_true (has_part_at p.addr q) there where
  there : has_part_at p.addr q ≢ true
  there e =
      let f = any_found (λ part. part.place.addr == p.addr) pool.parts (ap (list_any (λ part. part.place.addr == p.addr)) (sym drawn.parts) ∙ e) in
      let part = apart.parts name pool f.0 is f.1 in
      let same : f.0.place.addr ≡ p.addr = eqb-true f.0.place.addr p.addr f.2 in
      let size : 16 ≤ f.0.place.len = (let l = part.length in omega (arith, l)) in
      let long : 16 ≤ p.len = (let l = chosen.length.least in omega (arith, l)) in
      let held = part.held (p.addr / 8) (omega arith, omega arith) in
      let free = none_held (get st.held (p.addr / 8)) (chosen.placed.0.each (p.addr / 8) (omega arith, omega arith)).free in
      none_some (sym free ∙ held)

module _ (old new : JobValue) (name : Name) (pool : Pool) (count : ℕ) (place : PlaceValue) (p : Picture) (regions : new.state.regions ≡ old.state.regions) (bytes : new.state.bytes ≡ old.state.bytes) (owners : new.state.owners ≡ old.state.owners) (names : new.names ≡ old.names) where
  -- the pool is drawn, and the part is not
  pub part_shown : (q : DrawnPool) → p.pools name ≡ Some q → IsDrawn (Means old.state.owners) q pool → has_part_at place.addr q ≡ false
      → Changes (get old.state.held) (covers place) (Some (pooled pool.subpool)) (get new.state.held) → Changes (get old.state.pools) (λ n. same_name n name) (Some (model.with_part pool count place)) (get new.state.pools)
      → ShowsBy (Means old.state.owners) p old → ShowsBy (Means new.state.owners) (with_part name (record { place = place; count = count }) (p.pools name) p) new
  part_shown q is drawn fresh held pools shows =
      subst (λ o. ShowsBy (Means new.state.owners) (with_part name (record { place = place; count = count }) o p) new) (sym is)
      (subst (λ c. ShowsBy (Means new.state.owners) (cond c p grown) new) (sym fresh) done) where
        part : Part
        part = record { place = place; count = count }

        grown : Picture
        grown = with_pool name (Some (record q { parts = q.parts ++ part ∷ [] })) (record p { held = changed p.held (covers place) (Some (record { label = q.label; pooled = true })) })

        means : Means new.state.owners q.label pool.subpool
        means = subst (λ o. Means o q.label pool.subpool) (sym owners) drawn.label

        done : ShowsBy (Means new.state.owners) grown new
        done = record {
          regions = shows.regions ∙ sym regions;
          held = both_changed (IsMark (Means new.state.owners)) p.held (get old.state.held) (get new.state.held) (covers place) _ _ (record { label = means; pooled = refl }) held
              (λ d. subst (λ o. Both (IsMark (Means o)) (p.held d) (get old.state.held d)) (sym owners) (shows.held d));
          bytes = bytes_same p.bytes (get old.state.bytes) (get new.state.bytes) shows.bytes (λ a. ap (λ m. get m a) bytes);
          tasks = λ t. shows.tasks t ∙ sym (ap (λ o. get o.tasks t) owners);
          subpools = λ t n. subst (λ o. Both (Means o) (p.subpools t n) (entry o t n)) (sym owners) (shows.subpools t n);
          names = λ n. shows.names n ∙ sym (ap (λ m. get m n) names);
          pools = put_shown (Means new.state.owners) p.pools (get old.state.pools) (get new.state.pools) name _ _
              (record { label = means; cell_size = drawn.cell_size; parts = ap (λ x. x ++ part ∷ []) drawn.parts; taken = drawn.taken }) pools
              (λ n. subst (λ o. Both (IsDrawn (Means o)) (p.pools n) (get old.state.pools n)) (sym owners) (shows.pools n));
        }

-- a part that is drawn is drawn no second time
pub part_drawn : (means : Label → ℕ → Type 0) (name : Name) (pool : Pool) (place : PlaceValue) (cells : ℕ) (p : Picture) (q : DrawnPool) → p.pools name ≡ Some q → IsDrawn means q pool
    → (i : ℕ) → slice_get pool.parts i ≡ Some (record { place = place; count = cells }) → with_part name (record { place = place; count = cells }) (p.pools name) p ≡ p
part_drawn means name pool place cells p q is drawn i there =
    ap (λ o. with_part name (record { place = place; count = cells }) o p) is
    ∙ ap (λ c. cond c p (with_pool name (Some (record q { parts = q.parts ++ record { place = place; count = cells } ∷ [] })) (record p { held = changed p.held (covers place) (Some (record { label = q.label; pooled = true })) })))
    (ap (list_any (λ part. part.place.addr == place.addr)) drawn.parts ∙ any_at (λ part. part.place.addr == place.addr) pool.parts i (record { place = place; count = cells }) there (same_self place.addr))

-- ---- cells

taken_more : (q : DrawnPool) (pool : Pool) (c : ℕ) → ((x : ℕ) → q.taken x ≡ set.contains pool.taken x) → (x : ℕ) → (with_cell c true q).taken x ≡ set.contains (set.insert pool.taken c) x
taken_more q pool c all x = ap (cond (x == c) true) (all x) ∙ at (x == c) ∙ ap (λ b. b || set.contains pool.taken x) (sym (unsigned_tied x c)) ∙ sym (set.contains-insert nat_cmp_total pool.taken c x) where
  at : (b : Bool) → cond b true (set.contains pool.taken x) ≡ (b || set.contains pool.taken x)
  at true = refl
  at false = refl

taken_less : (q : DrawnPool) (pool : Pool) (c : ℕ) → ((x : ℕ) → q.taken x ≡ set.contains pool.taken x) → (x : ℕ) → (with_cell c false q).taken x ≡ set.contains (set.remove pool.taken c) x
taken_less q pool c all x = ap (cond (x == c) false) (all x) ∙ at (x == c) ∙ ap (λ b. not b && set.contains pool.taken x) (sym (unsigned_tied x c)) ∙ sym (set.contains-remove nat_cmp_total pool.taken c x) where
  at : (b : Bool) → cond b false (set.contains pool.taken x) ≡ (not b && set.contains pool.taken x)
  at true = refl
  at false = refl

-- the cells of a pool are others
module _ (old new : JobValue) (name : Name) (pool : Pool) (taken : set.FinSet nat_cmp) (p : Picture) (byte : ℕ → ℕ) (c : ℕ) (on : Bool) (is : get old.state.pools name ≡ Some pool)
    (changes_are : (q : DrawnPool) → ((x : ℕ) → q.taken x ≡ set.contains pool.taken x) → (x : ℕ) → (with_cell c on q).taken x ≡ set.contains taken x)
    (regions : new.state.regions ≡ old.state.regions) (held : new.state.held ≡ old.state.held) (owners : new.state.owners ≡ old.state.owners) (pools : Changes (get old.state.pools) (λ n. same_name n name) (Some (record pool { taken = taken })) (get new.state.pools)) where
  pub cells_shown : new.names ≡ old.names → ShowsBy (Means old.state.owners) p old → AreBytes byte (get new.state.bytes) → ShowsBy (Means new.state.owners) (record (with_pool name (option_map (with_cell c on) (p.pools name)) p) { bytes = byte }) new
  cells_shown names shows bytes = record {
    regions = shows.regions ∙ sym regions;
    held = λ d. subst (λ o. Both (IsMark (Means o)) (p.held d) (get new.state.held d)) (sym owners) (subst (λ m. Both (IsMark (Means old.state.owners)) (p.held d) (get m d)) (sym held) (shows.held d));
    bytes = bytes;
    tasks = λ t. shows.tasks t ∙ sym (ap (λ o. get o.tasks t) owners);
    subpools = λ t n. subst (λ o. Both (Means o) (p.subpools t n) (entry o t n)) (sym owners) (shows.subpools t n);
    names = λ n. shows.names n ∙ sym (ap (λ m. get m n) names);
    pools = put_shown (Means new.state.owners) p.pools (get old.state.pools) (get new.state.pools) name _ _ here pools (λ n. subst (λ o. Both (IsDrawn (Means o)) (p.pools n) (get old.state.pools n)) (sym owners) (shows.pools n));
  } where
    here : Both (IsDrawn (Means new.state.owners)) (option_map (with_cell c on) (p.pools name)) (Some (record pool { taken = taken }))
    here =
        let d = drawn_there (Means old.state.owners) (p.pools name) (get old.state.pools name) pool is (shows.pools name) in
        subst (λ o. Both (IsDrawn (Means new.state.owners)) (option_map (with_cell c on) o) (Some (record pool { taken = taken }))) (sym d.1)
        (record { label = subst (λ o. Means o d.0.label pool.subpool) (sym owners) d.2.label; cell_size = d.2.cell_size; parts = d.2.parts; taken = changes_are d.0 d.2.taken })

-- a cell is taken
pub taken_shown : (old new : JobValue) (name : Name) (pool : Pool) (c : ℕ) (p : Picture) → get old.state.pools name ≡ Some pool → TakesCell old.state name pool c new.state → new.names ≡ old.names
    → ShowsBy (Means old.state.owners) p old → ShowsBy (Means new.state.owners) (filled (cell_at pool c) (with_pool name (option_map (with_cell c true) (p.pools name)) p)) new
taken_shown old new name pool c p is g names shows =
    cells_shown old new name pool (set.insert pool.taken c) p _ c true is (λ q all. taken_more q pool c all) g.regions g.held g.owners g.pools names shows
    (bytes_set p.bytes (get old.state.bytes) (get new.state.bytes) shows.bytes (has_address (cell_at pool c)) (λ a. p.regions.fill) (λ a. Some old.state.regions.fill) g.bytes here) where
      -- each byte of the cell is the fill byte
      here : (a b : ℕ) → has_address (cell_at pool c) a ≡ true → get new.state.bytes a ≡ Some b → p.regions.fill ≡ b
      here a b there is =
          let fill : Some old.state.regions.fill ≡ Some b = sym (g.bytes a ∙ ap (λ c. cond c (Some old.state.regions.fill) (get old.state.bytes a)) there) ∙ is in
          ap (λ r. r.fill) shows.regions ∙ (let same : old.state.regions.fill ≡ b = cc in same)

-- a cell is given back
pub given_shown : (old new : JobValue) (name : Name) (pool : Pool) (c : ℕ) (p : Picture) → get old.state.pools name ≡ Some pool → GivesCell old.state name pool c new.state → new.names ≡ old.names
    → ShowsBy (Means old.state.owners) p old → ShowsBy (Means new.state.owners) (with_pool name (option_map (with_cell c false) (p.pools name)) p) new
given_shown old new name pool c p is g names shows =
    cells_shown old new name pool (set.remove pool.taken c) p p.bytes c false is (λ q all. taken_less q pool c all) g.regions g.held g.owners g.pools names shows
    (bytes_gone p.bytes (get old.state.bytes) (get new.state.bytes) shows.bytes (has_address (cell_at pool c)) g.bytes)

-- ---- a pool goes

pub dropped_shown : (old new : JobValue) (name : Name) (pool : Pool) (p : Picture) → get old.state.pools name ≡ Some pool → DropsPool old.state name pool new.state → new.names ≡ old.names
    → ShowsBy (Means old.state.owners) p old → ShowsBy (Means new.state.owners) (with_pool name None (record p { held = changed p.held (λ d. has (λ q. covered_by q d) (p.pools name)) None })) new
dropped_shown old new name pool p is g names shows = record {
  regions = shows.regions ∙ sym g.regions;
  held = both_changed (IsMark (Means new.state.owners)) p.held (get old.state.held) (get new.state.held) (λ d. has (λ q. covered_by q d) (p.pools name)) None None tt
      (λ d. g.held d ∙ ap (λ b. cond b None (get old.state.held d)) (sym (covers_same d))) (λ d. subst (λ o. Both (IsMark (Means o)) (p.held d) (get old.state.held d)) (sym g.owners) (shows.held d));
  bytes = bytes_gone p.bytes (get old.state.bytes) (get new.state.bytes) shows.bytes (in_taken pool) g.bytes;
  tasks = λ t. shows.tasks t ∙ sym (ap (λ o. get o.tasks t) g.owners);
  subpools = λ t n. subst (λ o. Both (Means o) (p.subpools t n) (entry o t n)) (sym g.owners) (shows.subpools t n);
  names = λ n. shows.names n ∙ sym (ap (λ m. get m n) names);
  pools = put_shown (Means new.state.owners) p.pools (get old.state.pools) (get new.state.pools) name None None tt g.pools (λ n. subst (λ o. Both (IsDrawn (Means o)) (p.pools n) (get old.state.pools n)) (sym g.owners) (shows.pools n));
} where
  covers_same : (d : ℕ) → has (λ q. covered_by q d) (p.pools name) ≡ in_parts pool d
  covers_same d =
      let k = drawn_there (Means old.state.owners) (p.pools name) (get old.state.pools name) pool is (shows.pools name) in
      ap (has (λ q. covered_by q d)) k.1 ∙ ap (list_any (λ part. covers part.place d)) k.2.parts
