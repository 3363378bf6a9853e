-- A byte lies in one part at most, and one that may be read and written not before the cells of a part.
use Rattle.std.proofs.Common.{List, [], ◌∷◌, map, length, get_or, zero, suc, ◌≡◌, ℕ, ◌+◌, ◌*◌, ◌/◌, ◌<◌, ◌≤◌, Bool, true, false, Option, Some, refl, sym, ap, ◌∙◌, subst, arith}
use Rattle.std.specs.Prelude.{◌||◌}
use Rattle.std.specs.List.{range_with_len, AllByRecursion, Contains}
use Rattle.std.proofs.lemmas.List.FromFn.{length-map-range_with_len, get_or-map-range_with_len}
use Rattle.mvs_model.specs.Place.{PlaceValue}
use Rattle.mvs_model.specs.Changes.{Misses, Disjoint}
use Rattle.std.specs.FinMap.{FinMap, get, empty}
use Rattle.mvs_model.specs.declared.name.Name.{Name}
use Rattle.mvs_model.specs.Name.{name_cmp, same_name}
use Rattle.mvs_model.specs.Storage.{Storage, holder as held_by, IsWhole, Covers}
use Rattle.mvs_model.specs.Owners.{Owners}
use Rattle.mvs_model.specs.Pools.{Part, part_length, first_cell, cell_at, IsCellOf}
use Rattle.mvs_model.specs.State.{Holding, pooled, is_plain, in_cell, granted}
use Rattle.mvs_model.specs.View.{state_of}
use Rattle.mvs_model.proofs.Orders.{same_name_is, differs}
use Rattle.mvs_model.proofs.CellPlaces.{has_is, cell_inside}
use Rattle.mvs_model.proofs.TakenCells.{InCell, in_cell_is, one_part}
use Rattle.cell_pool.specs.Layout.{byte_of, count_at, head_length}
use Rattle.cell_pool.specs.Roots.{Root, part_addr, part_of, parts_of, pool_of, pools_of}
use Rattle.cell_pool.specs.Agree.{AgreeParts}
use Rattle.cell_pool.proofs.Chains.{part_contained, contained_part}
use Rattle.mvs_model.proofs.Stand.{Stand, stand}
use Rattle.cell_pool.proofs.Frame.{root_found, pool_from}

pub nobody : Owners
nobody = record { tasks = empty; table = empty; owner = empty }

-- each of the list is, so the one at a place is
all_at : (P : PlaceValue → Type 0) (f : Part → PlaceValue) (ps : List Part) (j : ℕ) (d : Part) → AllByRecursion P (map f ps) → j < length ps → P (f (get_or ps j d))
all_at P f [] j d all l = absurd (omega arith)
all_at P f (x ∷ ps) zero d all l = all.0
all_at P f (x ∷ ps) (suc j) d all l = all_at P f ps j d all.1 (omega arith)

-- of places that do not overlap two do not
disjoint_at : (ps : List Part) (i j : ℕ) (d : Part) → Disjoint (map (λ part. part.place) ps) → i < j → j < length ps → Misses (get_or ps i d).place (get_or ps j d).place
disjoint_at [] i j d all l h = absurd (omega arith)
disjoint_at (x ∷ ps) zero zero d all l h = absurd (omega arith)
disjoint_at (x ∷ ps) zero (suc j) d all l h = all_at (Misses x.place) (λ part. part.place) ps j d all.0 (omega arith)
disjoint_at (x ∷ ps) (suc i) zero d all l h = absurd (omega arith)
disjoint_at (x ∷ ps) (suc i) (suc j) d all l h = disjoint_at ps i j d all.1 (omega arith) (omega arith)

module _ (roots : FinMap name_cmp Root) (st : Storage) (agree : AgreeParts roots st) where
  pub stands : Stand st (pools_of roots st)
  stands = stand st nobody (pools_of roots st) agree.storage (agree.apart nobody)

  -- a part of a pool
  pub place_whole : (name : Name) (r : Root) (j : ℕ) → get roots name ≡ Some r → j < r.count → IsWhole (part_of (byte_of st) r j).place
  place_whole name r j is l = stands.whole name (pool_of (byte_of st) r) (part_of (byte_of st) r j) (pool_from roots st name r is) (part_contained (byte_of st) r j l)

  pub some_cell : (name : Name) (r : Root) (j : ℕ) → get roots name ≡ Some r → j < r.count → 1 ≤ count_at (byte_of st) (part_addr (byte_of st) r.first j)
  some_cell name r j is l = stands.some name (pool_of (byte_of st) r) (part_of (byte_of st) r j) (pool_from roots st name r is) (part_contained (byte_of st) r j l)

  pub part_held : (name : Name) (r : Root) (j d : ℕ) → get roots name ≡ Some r → j < r.count → Covers (part_of (byte_of st) r j).place d → held_by st d ≡ Some r.subpool
  part_held name r j d is l c = stands.held name (pool_of (byte_of st) r) (part_of (byte_of st) r j) (pool_from roots st name r is) (part_contained (byte_of st) r j l) d c

  -- two parts of one pool do not overlap
  pub misses : (name : Name) (r : Root) → get roots name ≡ Some r → (i j : ℕ) → i < j → j < r.count → Misses (part_of (byte_of st) r i).place (part_of (byte_of st) r j).place
  unfolding parts_of
  misses name r is i j l h =
      let size : length (map (part_of (byte_of st) r) (range_with_len 0 r.count)) ≡ r.count = length-map-range_with_len (part_of (byte_of st) r) 0 r.count in
      let apart = disjoint_at (map (part_of (byte_of st) r) (range_with_len 0 r.count)) i j (part_of (byte_of st) r i) (stands.within name (pool_of (byte_of st) r) (pool_from roots st name r is)) l (omega (arith, size)) in
      subst (λ x. Misses x.place (part_of (byte_of st) r j).place) (get_or-map-range_with_len (part_of (byte_of st) r) 0 r.count i i (part_of (byte_of st) r i) (omega arith) (omega arith))
      (subst (λ x. Misses (get_or (map (part_of (byte_of st) r) (range_with_len 0 r.count)) i (part_of (byte_of st) r i)).place x.place) (get_or-map-range_with_len (part_of (byte_of st) r) 0 r.count j j (part_of (byte_of st) r i) h (omega arith)) apart)

  -- a doubleword is of one part
  within_one : (name : Name) (r : Root) (j k d : ℕ) → get roots name ≡ Some r → j < r.count → k < r.count → Covers (part_of (byte_of st) r j).place d → Covers (part_of (byte_of st) r k).place d → part_of (byte_of st) r j ≡ part_of (byte_of st) r k
  within_one name r j k d is lj lk cj ck =
      one_part (parts_of (byte_of st) r) (part_of (byte_of st) r j) (part_of (byte_of st) r k) d (stands.within name (pool_of (byte_of st) r) (pool_from roots st name r is)) (part_contained (byte_of st) r j lj) (part_contained (byte_of st) r k lk) cj ck

  pub only : (m n : Name) (q r : Root) (j k d : ℕ) → get roots m ≡ Some q → get roots n ≡ Some r → j < q.count → k < r.count
      → Covers (part_of (byte_of st) q j).place d → Covers (part_of (byte_of st) r k).place d → (m ≡ n) × (q ≡ r) × (part_addr (byte_of st) q.first j ≡ part_addr (byte_of st) r.first k)
  only m n q r j k d eq er lj lk cj ck = at (same_name m n) refl where
    at : (b : Bool) → same_name m n ≡ b → (m ≡ n) × (q ≡ r) × (part_addr (byte_of st) q.first j ≡ part_addr (byte_of st) r.first k)
    at true s =
        let e : m ≡ n = same_name_is m n s in
        let f : Some q ≡ Some r = sym eq ∙ ap (get roots) e ∙ er in
        let g : q ≡ r = cc in
        let one : part_of (byte_of st) r j ≡ part_of (byte_of st) r k = within_one n r j k d er (subst (λ t. j < t.count) g lj) lk (subst (λ t. Covers (part_of (byte_of st) t j).place d) g cj) ck in
        (e, g, ap (λ t. part_addr (byte_of st) t.first j) g ∙ ap (λ x. x.place.addr) one)
    at false s = absurd (stands.between m n (pool_of (byte_of st) q) (pool_of (byte_of st) r) (part_of (byte_of st) q j) (part_of (byte_of st) r k) (differs m n s) (pool_from roots st m q eq) (pool_from roots st n r er)
        (part_contained (byte_of st) q j lj) (part_contained (byte_of st) r k lk) d cj ck)

  -- the bytes before the cells
  pub head_covered : (r : Root) (j x : ℕ) → part_addr (byte_of st) r.first j ≤ x → x < part_addr (byte_of st) r.first j + head_length (count_at (byte_of st) (part_addr (byte_of st) r.first j)) → Covers (part_of (byte_of st) r j).place (x / 8)
  head_covered r j x low high = (omega arith, omega arith)

  module _ (o : Owners) where
    not_plain : (h : Option Holding) (s : ℕ) → h ≡ Some (pooled s) → is_plain h ≡ true → ⊥
    not_plain h s e f = absurd (let g : false ≡ true = sym (ap is_plain e) ∙ f in cc)

    after_head : (size : ℕ) (part : Part) (c x : ℕ) → part.place.len ≡ part_length size part.count → IsCellOf size part c → c ≤ x → x < part.place.addr + head_length part.count → ⊥
    after_head size part c x length is low high =
        let e : c ≡ first_cell size part + is.0 * size = is.2 in absurd (omega arith)

    pub not_in_head : (x : ℕ) → granted (state_of st o (pools_of roots st)) x ≡ true → (name : Name) (r : Root) (j : ℕ) → get roots name ≡ Some r → j < r.count → part_addr (byte_of st) r.first j ≤ x
        → x < part_addr (byte_of st) r.first j + head_length (count_at (byte_of st) (part_addr (byte_of st) r.first j)) → ⊥
    not_in_head x e name r j is l low high = by (is_plain (get (state_of st o (pools_of roots st)).held (x / 8))) refl e where
      covered : Covers (part_of (byte_of st) r j).place (x / 8)
      covered = head_covered r j x low high

      pooled_here : get (state_of st o (pools_of roots st)).held (x / 8) ≡ Some (pooled r.subpool)
      pooled_here = ((agree.apart o).parts name (pool_of (byte_of st) r) (part_of (byte_of st) r j) (pool_from roots st name r is) (part_contained (byte_of st) r j l)).held (x / 8) covered

      in_a_cell : InCell (state_of st o (pools_of roots st)) x → ⊥
      in_a_cell i =
          let c = stands.cells i.name i.pool i.first i.is_pool i.taken in
          let h = has_is (cell_at i.pool i.first) x i.inside in
          let q = root_found roots st i.name i.pool i.is_pool in
          let k = contained_part (byte_of st) q.0 c.0 (subst (λ p. Contains p.parts c.0) (sym q.2) c.1) in
          let length = stands.length i.name i.pool c.0 i.is_pool c.1 in
          let d : Covers c.0.place (x / 8) = cell_inside i.pool.cell_size c.0 i.first x length c.2 h.0 h.1 in
          let same = only i.name name q.0 r k.0 j (x / 8) q.1 is k.1 l (subst (λ p. Covers p.place (x / 8)) (sym k.2) d) covered in
          let addr : c.0.place.addr ≡ part_addr (byte_of st) r.first j = sym (ap (λ p. p.place.addr) k.2) ∙ same.2 in
          let count : c.0.count ≡ count_at (byte_of st) (part_addr (byte_of st) r.first j) = sym (ap (λ p. p.count) k.2) ∙ ap (count_at (byte_of st)) same.2 in
          after_head i.pool.cell_size c.0 i.first x length c.2 h.0 (subst (λ b. x < b + head_length c.0.count) (sym addr) (subst (λ n. x < part_addr (byte_of st) r.first j + head_length n) (sym count) high))

      by : (b : Bool) → is_plain (get (state_of st o (pools_of roots st)).held (x / 8)) ≡ b → (b || in_cell (state_of st o (pools_of roots st)) x) ≡ true → ⊥
      by true f g = not_plain (get (state_of st o (pools_of roots st)).held (x / 8)) r.subpool pooled_here f
      by false f g = in_a_cell (in_cell_is (state_of st o (pools_of roots st)) x g)
