-- A further part of a pool misses all parts that there are.
use Rattle.std.proofs.Common.{◌≡◌, ◌≢◌, ℕ, ◌<◌, ◌≤◌, ◌⊎◌, inl, inr, Bool, true, false, cond, List, [], ◌∷◌, ◌++◌, map, Some, None, refl, sym, ap, ◌∙◌, subst, arith, Contains}
use Rattle.std.specs.List.{AllByRecursion}
use Rattle.std.proofs.lemmas.List.Elements.{Contains-append_left, Contains-append_cases}
use Rattle.std.specs.FinMap.{get}
use Rattle.std.specs.FinSet as set
use Rattle.std.proofs.lemmas.Bool.Decides.{nat_tests}
use Rattle.std.proofs.lemmas.Grind.{common_steps}
use Rattle.mvs_model.proofs.Types.{Name}
use Rattle.mvs_model.specs.Place.{PlaceValue}
use Rattle.mvs_model.specs.Storage.{covers, has_address}
use Rattle.mvs_model.specs.Owners.{Owners}
use Rattle.mvs_model.specs.Pools.{Pool, Part, IsCell, cell_at, in_parts}
use Rattle.mvs_model.specs.State.{State, pooled}
use Rattle.mvs_model.specs.Changes.{Misses, Disjoint, Extends, with_part}
use Rattle.mvs_model.specs.WellFormed.{Apart, IsPart}
use Rattle.mvs_model.proofs.StorageLaws.{covers_is, covers_from}
use Rattle.mvs_model.proofs.Elements.{first_or_later, later}
use Rattle.mvs_model.proofs.TakenCells.{InCell, same_cells, part_found, part_from}
use Rattle.mvs_model.proofs.PoolPut.{put_here, put_cases, kept_cases}
use Rattle.mvs_model.proofs.PartsFewer.{Covered, BytesGranted, chosen_whole, chosen_free}

-- The pool stands under the name, or nothing does and it has no part and no taken cell yet.
pub record Stands (st : State) (name : Name) (pool : Pool) : Type 0 where
  pub parts : (part : Part) → Contains pool.parts part → get st.pools name ≡ Some pool
  pub taken : (c : ℕ) → set.contains pool.taken c ≡ true → get st.pools name ≡ Some pool
  pub within : Disjoint (map (λ part. part.place) pool.parts)
  pub only : (q : Pool) → get st.pools name ≡ Some q → q ≡ pool

-- a list without overlap, and a place that misses each of it
all_more : (p : PlaceValue) (parts : List Part) (y : Part) → AllByRecursion (Misses p) (map (λ part. part.place) parts) → Misses p y.place → AllByRecursion (Misses p) (map (λ part. part.place) (parts ++ y ∷ []))
all_more p parts y h1 h2 = grind (arith, common_steps)

disjoint_more : (parts : List Part) (y : Part) → Disjoint (map (λ part. part.place) parts) → ((x : Part) → Contains parts x → Misses x.place y.place) → Disjoint (map (λ part. part.place) (parts ++ y ∷ []))
disjoint_more [] y d m = (tt, tt)
disjoint_more (x ∷ parts) y d m = (all_more x.place parts y d.0 (m x (0, omega arith, refl)), disjoint_more parts y d.1 (λ z h. m z (later z x parts h)))

alone : (x y : Part) → Contains (x ∷ []) y → x ≡ y
alone x y h = elim (first_or_later y x [] h) [ inl e ↦ e | inr m ↦ absurd (let l : m.0 < 0 = m.1 in omega arith) ]

module _ (old new : State) (name : Name) (pool : Pool) (count : ℕ) (p : PlaceValue) (owners : Owners) (some : 1 ≤ count) (stands : Stands old name pool) (g : Extends old name pool count p owners new) (a : Apart old) where
  free : (d : ℕ) → covers p d ≡ true → get old.held d ≡ None
  free d e = chosen_free old pool.subpool _ p d g.chosen e

  here : get new.pools name ≡ Some (with_part pool count p)
  here = put_here old new name (Some (with_part pool count p)) g.pools

  cases : (n : Name) (q : Pool) → get new.pools n ≡ Some q → ((n ≡ name) × (with_part pool count p ≡ q)) ⊎ ((n ≢ name) × (get old.pools n ≡ Some q))
  cases n q e = elim (put_cases old new name (Some (with_part pool count p)) g.pools n q e) [ inl h ↦ inl (h.0, (let s : with_part pool count p ≡ q = cc in s)) | inr h ↦ inr h ]

  still_part : (q r : Pool) (part : Part) → q.subpool ≡ r.subpool → q.cell_size ≡ r.cell_size → IsPart old q part → IsPart new r part
  still_part q r part s size i = grind (arith, nat_tests)

  -- the new part
  added_part : IsPart new (with_part pool count p) (record { place = p; count = count })
  added_part = grind (arith, nat_tests, chosen_whole, covers_from)

  one_of : (part : Part) → Contains (pool.parts ++ record { place = p; count = count } ∷ []) part → Contains pool.parts part ⊎ (record { place = p; count = count } ≡ part)
  one_of part h = elim (Contains-append_cases pool.parts (record { place = p; count = count } ∷ []) part h) [ inl m ↦ inl m | inr m ↦ inr (alone (record { place = p; count = count }) part m) ]

  grown_part : (part : Part) → Contains (with_part pool count p).parts part → IsPart new (with_part pool count p) part
  grown_part part h = elim (one_of part h) [
    | inl m ↦ still_part pool (with_part pool count p) part refl refl (a.parts name pool part (stands.parts part m) m)
    | inr e ↦ subst (λ x. IsPart new (with_part pool count p) x) e added_part
  ]

  -- it misses each part that there was
  added_misses : (n : Name) (q : Pool) (part : Part) → get old.pools n ≡ Some q → Contains q.parts part → Misses part.place p
  added_misses n q part e h d c k = let f : None ≡ Some (pooled q.subpool) = sym (free d (covers_from p d k)) ∙ (a.parts n q part e h).held d c in absurd (cc)

  grown_misses : (n : Name) (q : Pool) (x y : Part) → n ≢ name → get old.pools n ≡ Some q → Contains (with_part pool count p).parts x → Contains q.parts y → Misses y.place x.place
  grown_misses n q x y ne e hx hy = elim (one_of x hx) [
    | inl m ↦ a.between n name q pool y x ne e (stands.parts x m) hy m
    | inr s ↦ subst (λ z. Misses y.place z.place) s (added_misses n q y e hy)
  ]

  grown_within : Disjoint (map (λ part. part.place) (with_part pool count p).parts)
  grown_within = disjoint_more pool.parts (record { place = p; count = count }) stands.within (λ x h. added_misses name pool x (stands.parts x h) h)

  grown_between : (m n : Name) (q r : Pool) (x y : Part) → m ≢ n → get new.pools m ≡ Some q → get new.pools n ≡ Some r → Contains q.parts x → Contains r.parts y → Misses x.place y.place
  grown_between m n q r x y ne eq er hx hy = at (cases m q eq) (cases n r er) where
    at : ((m ≡ name) × (with_part pool count p ≡ q)) ⊎ ((m ≢ name) × (get old.pools m ≡ Some q)) → ((n ≡ name) × (with_part pool count p ≡ r)) ⊎ ((n ≢ name) × (get old.pools n ≡ Some r)) → Misses x.place y.place
    at (inl s) (inl t) = absurd (ne (s.0 ∙ sym t.0))
    at (inl s) (inr t) = λ d cx cy. grown_misses n r x y t.0 t.1 (subst (λ w. Contains w.parts x) (sym s.1) hx) hy d cy cx
    at (inr s) (inl t) = grown_misses m q y x s.0 s.1 (subst (λ w. Contains w.parts y) (sym t.1) hy) hx
    at (inr s) (inr t) = a.between m n q r x y ne s.1 t.1 hx hy

  -- what is held for pools
  in_grown : (d : ℕ) → in_parts pool d ≡ true → in_parts (with_part pool count p) d ≡ true
  in_grown d e = let f = part_found pool d e in part_from (with_part pool count p) d f.0 (Contains-append_left pool.parts (record { place = p; count = count } ∷ []) f.0 f.1) f.2

  in_added : (d : ℕ) → covers p d ≡ true → in_parts (with_part pool count p) d ≡ true
  in_added d h1 = grind (arith, common_steps, covers_is, part_from)

  abbrev Found : ℕ → ℕ → Type 0
  Found d s = (n : Name) × (q : Pool) × (get new.pools n ≡ Some q) × (q.subpool ≡ s) × (in_parts q d ≡ true)

  still_found : (d s : ℕ) → get old.held d ≡ Some (pooled s) → Found d s
  still_found d s e =
      let c = a.covered d s e in
      elim (kept_cases old new name (Some (with_part pool count p)) g.pools c.0 c.1 c.2) [
        | inl n ↦ let same = stands.only c.1 (ap (get old.pools) (sym n) ∙ c.2) in
            (name, with_part pool count p, here, ap (λ q. q.subpool) (sym same) ∙ c.3, in_grown d (ap (λ q. in_parts q d) (sym same) ∙ c.4))
        | inr k ↦ (c.0, c.1, k.1, c.3, c.4)
      ]

  grown_covered : Covered new
  grown_covered d s e = at (covers p d) refl (sym (g.held d) ∙ e) where
    at : (b : Bool) → covers p d ≡ b → cond b (Some (pooled pool.subpool)) (get old.held d) ≡ Some (pooled s) → Found d s
    at true c f = (name, with_part pool count p, here, (let h : pooled pool.subpool ≡ pooled s = cc in ap (λ k. k.subpool) h), in_added d c)
    at false c f = still_found d s f

  grown_cells : (n : Name) (q : Pool) (c : ℕ) → get new.pools n ≡ Some q → set.contains q.taken c ≡ true → IsCell q c
  grown_cells n q c e t = elim (cases n q e) [
    | inl s ↦
        let was : set.contains pool.taken c ≡ true = ap (λ r. set.contains r.taken c) s.1 ∙ t in
        let i = a.cells name pool c (stands.taken c was) was in
        subst (λ r. IsCell r c) s.1 (i.0, Contains-append_left pool.parts (record { place = p; count = count } ∷ []) i.0 i.1, i.2)
    | inr s ↦ a.cells n q c s.1 t
  ]

  -- the taken cells are as before
  to : (x : ℕ) → InCell old x → InCell new x
  to x i = elim (kept_cases old new name (Some (with_part pool count p)) g.pools i.name i.pool i.is_pool) [
    | inl n ↦ let same = stands.only i.pool (ap (get old.pools) (sym n) ∙ i.is_pool) in
        record { name = name; pool = with_part pool count p; first = i.first; is_pool = here; taken = ap (λ q. set.contains q.taken i.first) (sym same) ∙ i.taken; inside = ap (λ q. has_address (cell_at q i.first) x) (sym same) ∙ i.inside }
    | inr k ↦ record { name = i.name; pool = i.pool; first = i.first; is_pool = k.1; taken = i.taken; inside = i.inside }
  ]

  back : (x : ℕ) → InCell new x → InCell old x
  back x i = elim (cases i.name i.pool i.is_pool) [
    | inl s ↦
        let was : set.contains pool.taken i.first ≡ true = ap (λ r. set.contains r.taken i.first) s.1 ∙ i.taken in
        record { name = name; pool = pool; first = i.first; is_pool = stands.taken i.first was; taken = was; inside = ap (λ r. has_address (cell_at r i.first) x) s.1 ∙ i.inside }
    | inr s ↦ record { name = i.name; pool = i.pool; first = i.first; is_pool = s.1; taken = i.taken; inside = i.inside }
  ]

  grown_bytes : BytesGranted new
  grown_bytes = grind (arith, nat_tests, free, to, back, same_cells)

  pub grown_apart : Apart new
  grown_apart = record {
    parts = λ n q part e h. elim (cases n q e) [
      | inl s ↦ subst (λ r. IsPart new r part) s.1 (grown_part part (subst (λ r. Contains r.parts part) (sym s.1) h))
      | inr s ↦ still_part q q part refl refl (a.parts n q part s.1 h)
    ];
    within = λ n q e. elim (cases n q e) [
      | inl s ↦ subst (λ r. Disjoint (map (λ part. part.place) r.parts)) s.1 grown_within
      | inr s ↦ a.within n q s.1
    ];
    between = grown_between;
    covered = grown_covered;
    cells = grown_cells;
    bytes = grown_bytes;
  }
