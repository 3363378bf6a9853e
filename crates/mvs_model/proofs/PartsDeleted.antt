-- A pool that goes leaves the parts of the others apart.
use Rattle.std.proofs.Common.{◌≡◌, ◌≢◌, ℕ, ◌/◌, inl, inr, Bool, true, false, cond, Some, None, refl, sym, ap, ◌∙◌, Contains, arith}
use Rattle.std.specs.FinMap.{get}
use Rattle.std.proofs.lemmas.Bool.{false_from_ne_true}
use Rattle.std.proofs.lemmas.Bool.Decides.{nat_tests}
use Rattle.mvs_model.proofs.Types.{Name}
use Rattle.mvs_model.specs.Storage.{Covers}
use Rattle.mvs_model.specs.Pools.{Pool, Part, in_parts, in_taken}
use Rattle.mvs_model.specs.State.{State, pooled, is_plain, in_cell}
use Rattle.mvs_model.specs.Changes.{DropsPool}
use Rattle.mvs_model.specs.WellFormed.{Apart}
use Rattle.mvs_model.proofs.TakenCells.{InCell, in_cell_is, same_cells, taken_found, taken_from, part_found, part_from, cell_part}
use Rattle.mvs_model.proofs.PoolPut.{put_cases, kept_cases}
use Rattle.mvs_model.proofs.PartsFewer.{Covered, BytesGranted, fewer_apart, fewer_cells}
use Rattle.mvs_model.proofs.Tests.{none_some, true_false}

module _ (old new : State) (name : Name) (pool : Pool) (is : get old.pools name ≡ Some pool) (g : DropsPool old name pool new) (a : Apart old) where
  other : (n : Name) (q : Pool) → get new.pools n ≡ Some q → (n ≢ name) × (get old.pools n ≡ Some q)
  other n q e = elim (put_cases old new name None g.pools n q e) [ inl h ↦ none_some h.1 | inr h ↦ h ]

  -- the doublewords of the others' parts are none of the pool's
  not_here : (n : Name) (q : Pool) (part : Part) (d : ℕ) → n ≢ name → get old.pools n ≡ Some q → Contains q.parts part → Covers part.place d → in_parts pool d ≡ false
  not_here n q part d ne e h c = false_from_ne_true (in_parts pool d) (λ f. let p = part_found pool d f in a.between n name q pool part p.0 ne e is h p.1 d c p.2)

  held : (n : Name) (q : Pool) (part : Part) (d : ℕ) → get new.pools n ≡ Some q → Contains q.parts part → Covers part.place d → get old.held d ≡ Some (pooled q.subpool) → get new.held d ≡ Some (pooled q.subpool)
  held n q part d e h c f = let o = other n q e in g.held d ∙ ap (λ b. cond b None (get old.held d)) (not_here n q part d o.0 o.1 h c) ∙ f

  same_pool : (n : Name) (q : Pool) → n ≡ name → get old.pools n ≡ Some q → q ≡ pool
  same_pool n q s e = let f : Some q ≡ Some pool = sym e ∙ ap (get old.pools) s ∙ is in cc

  deleted_covered : Covered new
  deleted_covered d s e = at (in_parts pool d) refl (sym (g.held d) ∙ e) where
    found : in_parts pool d ≡ false → (n : Name) (q : Pool) → get old.pools n ≡ Some q → in_parts q d ≡ true → get new.pools n ≡ Some q
    found out n q f h = elim (kept_cases old new name None g.pools n q f) [ inl s ↦ true_false (sym h ∙ ap (λ p. in_parts p d) (same_pool n q s f) ∙ out) | inr k ↦ k.1 ]

    at : (b : Bool) → in_parts pool d ≡ b → cond b None (get old.held d) ≡ Some (pooled s) → (n : Name) × (q : Pool) × (get new.pools n ≡ Some q) × (q.subpool ≡ s) × (in_parts q d ≡ true)
    at true out f = none_some f
    at false out f = let c = a.covered d s f in (c.0, c.1, found out c.0 c.1 c.2 c.4, c.3, c.4)

  -- a taken cell of the pool lies in a part of it, and in no cell of another
  in_part : (x : ℕ) → in_taken pool x ≡ true → in_parts pool (x / 8) ≡ true
  in_part x e = let c = taken_found pool x e in let p = cell_part old a name pool c.0 x is c.1 c.2 in part_from pool (x / 8) p.part p.is_part p.covered

  no_other : (x : ℕ) → in_taken pool x ≡ true → in_cell new x ≡ false
  no_other x e = false_from_ne_true (in_cell new x) (λ h.
      let i = in_cell_is new x h in
      let o = other i.name i.pool i.is_pool in
      let p = cell_part old a i.name i.pool i.first x o.1 i.taken i.inside in
      let f : true ≡ false = sym (in_part x e) ∙ not_here i.name i.pool p.part (x / 8) o.0 o.1 p.is_part p.covered in absurd (cc))

  other_cells : (x : ℕ) → in_taken pool x ≡ false → in_cell new x ≡ in_cell old x
  other_cells x e = same_cells old new x to (fewer_cells old new (λ n q f. (other n q f).1) held x) where
    to : InCell old x → InCell new x
    to i = elim (kept_cases old new name None g.pools i.name i.pool i.is_pool) [
      | inl s ↦ true_false (sym (taken_from i.pool x i.first i.taken i.inside) ∙ ap (λ p. in_taken p x) (same_pool i.name i.pool s i.is_pool) ∙ e)
      | inr k ↦ record { name = i.name; pool = i.pool; first = i.first; is_pool = k.1; taken = i.taken; inside = i.inside }
    ]

  not_plain : (x : ℕ) → in_parts pool (x / 8) ≡ true → is_plain (get old.held (x / 8)) ≡ false
  not_plain x e = let p = part_found pool (x / 8) e in ap is_plain ((a.parts name pool p.0 is p.1).held (x / 8) p.2)

  deleted_bytes : BytesGranted new
  deleted_bytes = grind (arith, nat_tests, in_part, no_other, other_cells, not_plain)

  pub deleted_apart : Apart new
  deleted_apart = fewer_apart old new (λ n q e. (other n q e).1) held deleted_covered deleted_bytes a
