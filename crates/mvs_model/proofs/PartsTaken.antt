-- Cells that are taken and given back leave the parts of pools apart.
use Rattle.std.proofs.Common.{◌≡◌, ℕ, ◌/◌, inl, inr, Bool, true, false, cond, eqb, map, Some, refl, sym, ap, ◌∙◌, subst, arith, is_some, ◌||◌, nat_cmp, Contains}
use Rattle.std.proofs.lemmas.Bool.Decides.{nat_tests}
use Rattle.std.specs.Ordering.{eq_by_cmp}
use Rattle.std.specs.Cmp.{nat_cmp_total}
use Rattle.std.specs.FinMap.{get}
use Rattle.std.specs.FinSet as set
use Rattle.std.proofs.lemmas.Bool.{or_right}
use Rattle.mvs_model.proofs.Types.{Name}
use Rattle.mvs_model.specs.Finite.{Changes}
use Rattle.mvs_model.specs.Name.{same_name}
use Rattle.mvs_model.specs.Storage.{has_address}
use Rattle.mvs_model.specs.Pools.{Pool, Part, part_length, IsCell, cell_at, in_parts}
use Rattle.mvs_model.specs.State.{State, pooled, is_plain, in_cell}
use Rattle.mvs_model.specs.Changes.{Disjoint, TakesCell}
use Rattle.mvs_model.specs.WellFormed.{Apart, IsPart}
use Rattle.mvs_model.proofs.Tables.{eq_by_cmp_is}
use Rattle.mvs_model.proofs.TakenCells.{InCell, in_cell_from, same_cells}
use Rattle.mvs_model.proofs.PoolPut.{put_here, put_cases, kept_cases}
use Rattle.mvs_model.proofs.PartsFewer.{Covered, BytesGranted}

-- A pool of a state, which has the parts that another has.
record Like (st : State) (n : Name) (q : Pool) : Type 0 where
  before : Pool
  is_pool : get st.pools n ≡ Some before
  parts : before.parts ≡ q.parts
  subpool : before.subpool ≡ q.subpool
  cell_size : before.cell_size ≡ q.cell_size

module _ (old new : State) (name : Name) (pool : Pool) (taken : set.FinSet nat_cmp) (is : get old.pools name ≡ Some pool) (held : new.held ≡ old.held)
    (pools : Changes (get old.pools) (λ n. same_name n name) (Some (record pool { taken = taken })) (get new.pools)) (a : Apart old) where
  like : (n : Name) (q : Pool) → get new.pools n ≡ Some q → Like old n q
  like n q e = elim (put_cases old new name (Some (record pool { taken = taken })) pools n q e) [
    | inl h ↦ let s : record pool { taken = taken } ≡ q = cc in
        record { before = pool; is_pool = ap (get old.pools) h.0 ∙ is; parts = ap (λ p. p.parts) s; subpool = ap (λ p. p.subpool) s; cell_size = ap (λ p. p.cell_size) s }
    | inr h ↦ record { before = q; is_pool = h.1; parts = refl; subpool = refl; cell_size = refl }
  ]

  part_of : (n : Name) (q : Pool) (part : Part) (l : Like old n q) → Contains q.parts part → Contains l.before.parts part
  part_of n q part l h = subst (λ parts. Contains parts part) (sym l.parts) h

  is_part : (n : Name) (q : Pool) (part : Part) → get new.pools n ≡ Some q → Contains q.parts part → IsPart new q part
  is_part n q part e h =
      let l = like n q e in
      let p = a.parts n l.before part l.is_pool (part_of n q part l h) in
      record {
        whole = p.whole;
        length = p.length ∙ ap (λ size. part_length size part.count) l.cell_size;
        some = p.some;
        held = λ d c. ap (λ m. get m d) held ∙ p.held d c ∙ ap (λ s. Some (pooled s)) l.subpool;
      }

  retaken_covered : Covered new
  retaken_covered d s e =
      let c = a.covered d s (sym (ap (λ m. get m d) held) ∙ e) in
      elim (kept_cases old new name (Some (record pool { taken = taken })) pools c.0 c.1 c.2) [
        | inl n ↦ let p : c.1 ≡ pool = (let f : Some c.1 ≡ Some pool = sym c.2 ∙ ap (get old.pools) n ∙ is in cc) in
            (name, record pool { taken = taken }, put_here old new name (Some (record pool { taken = taken })) pools, ap (λ q. q.subpool) (sym p) ∙ c.3, ap (λ q. in_parts q d) (sym p) ∙ c.4)
        | inr k ↦ (c.0, c.1, k.1, c.3, c.4)
      ]

  -- other cells of a pool may be taken
  pub retaken_apart : ((c : ℕ) → set.contains taken c ≡ true → IsCell pool c) → BytesGranted new → Apart new
  retaken_apart cells bytes = record {
    parts = is_part;
    within = λ n q e. let l = like n q e in subst (λ parts. Disjoint (map (λ part. part.place) parts)) l.parts (a.within n l.before l.is_pool);
    between = λ m n p q x y ne ep eq hx hy. let k = like m p ep in let l = like n q eq in a.between m n k.before l.before x y ne k.is_pool l.is_pool (part_of m p x k hx) (part_of n q y l hy);
    covered = retaken_covered;
    cells = λ n q c e t. elim (put_cases old new name (Some (record pool { taken = taken })) pools n q e) [
      | inl h ↦ let s : record pool { taken = taken } ≡ q = cc in subst (λ r. IsCell r c) s (cells c (ap (λ r. set.contains r.taken c) s ∙ t))
      | inr h ↦ a.cells n q c h.1 t
    ];
    bytes = bytes;
  }

-- the test of a set's numbers
pub equal_numbers : (x c : ℕ) → eq_by_cmp nat_cmp x c ≡ true → x ≡ c
equal_numbers x c e = let f : eqb x c ≡ true = sym (eq_by_cmp_is x c) ∙ e in grind (arith, nat_tests)

pub same_number : (c : ℕ) → eq_by_cmp nat_cmp c c ≡ true
same_number c = eq_by_cmp_is c c ∙ grind (arith, nat_tests)

-- a cell is taken
module _ (old new : State) (name : Name) (pool : Pool) (c : ℕ) (is : get old.pools name ≡ Some pool) (cell : IsCell pool c) (g : TakesCell old name pool c new) (a : Apart old) where
  taken_cells : (x : ℕ) → set.contains (set.insert pool.taken c) x ≡ true → IsCell pool x
  taken_cells x e = at (eq_by_cmp nat_cmp x c) refl (sym (set.contains-insert nat_cmp_total pool.taken c x) ∙ e) where
    at : (b : Bool) → eq_by_cmp nat_cmp x c ≡ b → (b || set.contains pool.taken x) ≡ true → IsCell pool x
    at true s f = subst (λ y. IsCell pool y) (sym (equal_numbers x c s)) cell
    at false s f = a.cells name pool x is f

  here : get new.pools name ≡ Some (record pool { taken = set.insert pool.taken c })
  here = put_here old new name (Some (record pool { taken = set.insert pool.taken c })) g.pools

  -- the cell's addresses may be read now
  now_in : (x : ℕ) → has_address (cell_at pool c) x ≡ true → InCell new x
  now_in x e = record { name = name; pool = _; first = c; is_pool = here; taken = set.contains-insert nat_cmp_total pool.taken c c ∙ ap (λ b. b || set.contains pool.taken c) (same_number c); inside = e }

  -- and no others more than before
  to : (x : ℕ) → InCell old x → InCell new x
  to x i = elim (kept_cases old new name (Some (record pool { taken = set.insert pool.taken c })) g.pools i.name i.pool i.is_pool) [
    | inl n ↦ let p : i.pool ≡ pool = (let f : Some i.pool ≡ Some pool = sym i.is_pool ∙ ap (get old.pools) n ∙ is in cc) in
        record { name = name; pool = _; first = i.first; is_pool = here; taken = more (ap (λ q. set.contains q.taken i.first) (sym p) ∙ i.taken); inside = ap (λ q. has_address (cell_at q i.first) x) (sym p) ∙ i.inside }
    | inr k ↦ record { name = i.name; pool = i.pool; first = i.first; is_pool = k.1; taken = i.taken; inside = i.inside }
  ] where
    more : set.contains pool.taken i.first ≡ true → set.contains (set.insert pool.taken c) i.first ≡ true
    more e = set.contains-insert nat_cmp_total pool.taken c i.first ∙ or_right (eq_by_cmp nat_cmp i.first c) _ e

  back : (x : ℕ) → has_address (cell_at pool c) x ≡ false → InCell new x → InCell old x
  back x out i = elim (put_cases old new name (Some (record pool { taken = set.insert pool.taken c })) g.pools i.name i.pool i.is_pool) [
    | inl h ↦ let s : record pool { taken = set.insert pool.taken c } ≡ i.pool = cc in
        fewer (eq_by_cmp nat_cmp i.first c) refl
        (sym (set.contains-insert nat_cmp_total pool.taken c i.first) ∙ ap (λ q. set.contains q.taken i.first) s ∙ i.taken)
        (ap (λ q. has_address (cell_at q i.first) x) s ∙ i.inside)
    | inr h ↦ record { name = i.name; pool = i.pool; first = i.first; is_pool = h.1; taken = i.taken; inside = i.inside }
  ] where
    fewer : (b : Bool) → eq_by_cmp nat_cmp i.first c ≡ b → (b || set.contains pool.taken i.first) ≡ true → has_address (cell_at pool i.first) x ≡ true → InCell old x
    fewer true s t e = absurd (let f : true ≡ false = sym e ∙ ap (λ y. has_address (cell_at pool y) x) (equal_numbers i.first c s) ∙ out in cc)
    fewer false s t e = record { name = name; pool = pool; first = i.first; is_pool = is; taken = t; inside = e }

  taken_bytes : BytesGranted new
  taken_bytes x =
      ap is_some (g.bytes x) ∙ at (has_address (cell_at pool c) x) (λ e. in_cell_from new x (now_in x e)) (λ e. same_cells old new x (to x) (back x e))
      ∙ ap (λ m. is_plain (get m (x / 8)) || in_cell new x) (sym g.held) where
        or_second : (b d : Bool) → d ≡ true → true ≡ (b || d)
        or_second true d e = refl
        or_second false d e = sym e

        at : (b : Bool) → (b ≡ true → in_cell new x ≡ true) → (b ≡ false → in_cell new x ≡ in_cell old x) → is_some (cond b (Some old.regions.fill) (get old.bytes x)) ≡ (is_plain (get old.held (x / 8)) || in_cell new x)
        at true f h = or_second _ _ (f refl)
        at false f h = a.bytes x ∙ ap (λ b. is_plain (get old.held (x / 8)) || b) (sym (h refl))

  pub taken_apart : Apart new
  taken_apart = retaken_apart old new name pool (set.insert pool.taken c) is g.held g.pools a taken_cells taken_bytes
