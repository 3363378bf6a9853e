-- The addresses in taken cells, and the parts that these lie in.
use Rattle.std.proofs.Common.{◌≡◌, ℕ, ◌/◌, ◌<◌, ◌⊎◌, inl, inr, true, List, [], ◌∷◌, map, Option, Some, None, refl, sym, ap, ◌∙◌, subst, arith, is_some, Contains}
use Rattle.std.specs.List.{AllByRecursion}
use Rattle.std.proofs.lemmas.Map.Views.{Contains-from_any, list_any-from_Contains}
use Rattle.std.specs.Cmp.{eq_by_cmp_equiv, nat_cmp_total}
use Rattle.std.specs.FinMap.{get, keys, contains_key-keys, nat_cmp-IsAntisymmetric}
use Rattle.std.specs.FinSet as set
use Rattle.std.proofs.lemmas.Bool.{true_from_ne_false}
use Rattle.mvs_model.proofs.Types.{Name}
use Rattle.mvs_model.specs.Finite.{has}
use Rattle.mvs_model.specs.Name.{same_name}
use Rattle.mvs_model.specs.Place.{PlaceValue}
use Rattle.mvs_model.specs.Storage.{Covers, covers, has_address}
use Rattle.mvs_model.specs.Pools.{Pool, Part, IsCellOf, cell_at, in_parts, in_taken}
use Rattle.mvs_model.specs.State.{State, pooled, in_cell}
use Rattle.mvs_model.specs.Changes.{Misses, Disjoint}
use Rattle.mvs_model.specs.WellFormed.{Apart}
use Rattle.mvs_model.proofs.StorageLaws.{covers_is, covers_from}
use Rattle.mvs_model.proofs.Orders.{same_name_is, equal_keys, differs}
use Rattle.mvs_model.proofs.Elements.{first_or_later, any_found, any_from}
use Rattle.mvs_model.proofs.CellPlaces.{has_is, cell_inside}
use Rattle.mvs_model.proofs.Tests.{same_test, false_true}
pub use Rattle.std.proofs.lemmas.Bool.{false_from_ne_true as never}
pub use Rattle.mvs_model.proofs.Tests.{same_test}

-- The address lies in a taken cell of a pool.
pub record InCell (st : State) (a : ℕ) : Type 0 where
  pub name : Name
  pub pool : Pool
  pub first : ℕ
  pub is_pool : get st.pools name ≡ Some pool
  pub taken : set.contains pool.taken first ≡ true
  pub inside : has_address (cell_at pool first) a ≡ true

-- a test of a pool's taken cells
pub taken_found : (pool : Pool) (a : ℕ) → in_taken pool a ≡ true → (c : ℕ) × (set.contains pool.taken c ≡ true) × (has_address (cell_at pool c) a ≡ true)
taken_found pool a e =
    let f = any_found (λ c. has_address (cell_at pool c) a) (set.items pool.taken) e in
    (f.0, set.contains-items pool.taken f.0 ∙ list_any-from_Contains (eq_by_cmp_equiv nat_cmp_total) f.0 (set.items pool.taken) f.1, f.2)

pub taken_from : (pool : Pool) (a c : ℕ) → set.contains pool.taken c ≡ true → has_address (cell_at pool c) a ≡ true → in_taken pool a ≡ true
taken_from pool a c e f =
    any_from (λ c. has_address (cell_at pool c) a) (set.items pool.taken) c
    (Contains-from_any (equal_keys nat_cmp-IsAntisymmetric) c (set.items pool.taken) (sym (set.contains-items pool.taken c) ∙ e)) f

-- and of all pools
pub in_cell_is : (st : State) (a : ℕ) → in_cell st a ≡ true → InCell st a
in_cell_is st a e =
    let f = any_found (λ name. has (λ pool. in_taken pool a) (get st.pools name)) (keys st.pools) e in at f.0 (get st.pools f.0) refl f.2 where
      at : (name : Name) (o : Option Pool) → get st.pools name ≡ o → has (λ pool. in_taken pool a) o ≡ true → InCell st a
      at name None is h = false_true h
      at name (Some pool) is h = let c = taken_found pool a h in record { name = name; pool = pool; first = c.0; is_pool = is; taken = c.1; inside = c.2 }

pub in_cell_from : (st : State) (a : ℕ) → InCell st a → in_cell st a ≡ true
in_cell_from st a i =
    any_from (λ name. has (λ pool. in_taken pool a) (get st.pools name)) (keys st.pools) i.name
    (Contains-from_any same_name_is i.name (keys st.pools) (sym (contains_key-keys st.pools i.name) ∙ ap is_some i.is_pool))
    (ap (has (λ pool. in_taken pool a)) i.is_pool ∙ taken_from i.pool a i.first i.taken i.inside)

pub same_cells : (old new : State) (a : ℕ) → (InCell old a → InCell new a) → (InCell new a → InCell old a) → in_cell new a ≡ in_cell old a
same_cells old new a to back = same_test _ _ (λ e. in_cell_from old a (back (in_cell_is new a e))) (λ e. in_cell_from new a (to (in_cell_is old a e)))

-- a part that has a doubleword
pub part_found : (pool : Pool) (d : ℕ) → in_parts pool d ≡ true → (part : Part) × Contains pool.parts part × Covers part.place d
part_found pool d e = let f = any_found (λ part. covers part.place d) pool.parts e in (f.0, f.1, covers_is f.0.place d f.2)

pub part_from : (pool : Pool) (d : ℕ) (part : Part) → Contains pool.parts part → Covers part.place d → in_parts pool d ≡ true
part_from pool d part h c = any_from (λ part. covers part.place d) pool.parts part h (covers_from part.place d c)

-- of parts that do not overlap only one has a doubleword
missed : (p : PlaceValue) (parts : List Part) (y : Part) → AllByRecursion (Misses p) (map (λ part. part.place) parts) → Contains parts y → Misses p y.place
missed p [] y all h = absurd (let l : h.0 < 0 = h.1 in omega arith)
missed p (x ∷ parts) y all h = elim (first_or_later y x parts h) [ inl e ↦ subst (λ z. Misses p z.place) e all.0 | inr m ↦ missed p parts y all.1 m ]

pub one_part : (parts : List Part) (x y : Part) (d : ℕ) → Disjoint (map (λ part. part.place) parts) → Contains parts x → Contains parts y → Covers x.place d → Covers y.place d → x ≡ y
one_part [] x y d all hx hy cx cy = absurd (let l : hx.0 < 0 = hx.1 in omega arith)
one_part (z ∷ parts) x y d all hx hy cx cy = at (first_or_later x z parts hx) (first_or_later y z parts hy) (λ mx my. one_part parts x y d all.1 mx my cx cy) where
  at : (z ≡ x) ⊎ Contains parts x → (z ≡ y) ⊎ Contains parts y → (Contains parts x → Contains parts y → x ≡ y) → x ≡ y
  at (inl e) (inl f) rest = sym e ∙ f
  at (inl e) (inr m) rest = absurd (missed z.place parts y all.0 m d (subst (λ w. Covers w.place d) (sym e) cx) cy)
  at (inr m) (inl f) rest = absurd (missed z.place parts x all.0 m d (subst (λ w. Covers w.place d) (sym f) cy) cx)
  at (inr m) (inr n) rest = rest m n

module _ (st : State) (apart : Apart st) where
  -- The part that a taken cell lies in, and that the address of a byte of it does.
  pub record CellPart (pool : Pool) (c a : ℕ) : Type 0 where
    pub part : Part
    pub is_part : Contains pool.parts part
    pub is_cell : IsCellOf pool.cell_size part c
    pub covered : Covers part.place (a / 8)

  pub cell_part : (name : Name) (pool : Pool) (c a : ℕ) → get st.pools name ≡ Some pool → set.contains pool.taken c ≡ true → has_address (cell_at pool c) a ≡ true → CellPart pool c a
  cell_part name pool c a is taken e =
      let i = apart.cells name pool c is taken in
      let h = has_is (cell_at pool c) a e in
      record { part = i.0; is_part = i.1; is_cell = i.2; covered = cell_inside pool.cell_size i.0 c a (apart.parts name pool i.0 is i.1).length i.2 h.0 h.1 }

  -- the doubleword of an address in a taken cell is held for a pool
  pub cell_pooled : (a : ℕ) (i : InCell st a) → get st.held (a / 8) ≡ Some (pooled i.pool.subpool)
  cell_pooled a i = let p = cell_part i.name i.pool i.first a i.is_pool i.taken i.inside in (apart.parts i.name i.pool p.part i.is_pool p.is_part).held (a / 8) p.covered

  -- a pool that has a doubleword is the only one
  pub one_pool : (m n : Name) (p q : Pool) (x y : Part) (d : ℕ) → get st.pools m ≡ Some p → get st.pools n ≡ Some q → Contains p.parts x → Contains q.parts y → Covers x.place d → Covers y.place d → same_name m n ≡ true
  one_pool m n p q x y d ep eq hx hy cx cy = true_from_ne_false (same_name m n) (λ e. apart.between m n p q x y (differs m n e) ep eq hx hy d cx cy)
