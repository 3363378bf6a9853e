-- What is released or written leaves the parts of pools apart.
use Rattle.std.proofs.Common.{◌≡◌, ℕ, ◌+◌, ◌-◌, ◌/◌, ◌<◌, ◌≤◌, Bool, true, false, cond, List, [], ◌∷◌, Option, Some, None, refl, sym, ap, ◌∙◌, arith, is_some, not, ◌||◌}
use Rattle.std.specs.List.{AllByRecursion}
use Rattle.std.specs.FinMap.{get}
use Rattle.std.proofs.lemmas.Bool.{false_from_ne_true}
use Rattle.std.proofs.lemmas.Bool.Decides.{nat_tests}
use Rattle.std.proofs.lemmas.Grind.{common_steps}
use Rattle.mvs_model.proofs.Types.{Name}
use Rattle.mvs_model.specs.Finite.{has, kept}
use Rattle.mvs_model.specs.Place.{PlaceValue}
use Rattle.mvs_model.specs.Storage.{IsWhole, has_address}
use Rattle.mvs_model.specs.Pools.{Pool}
use Rattle.mvs_model.specs.State.{State, Holding, plain, pooled, is_plain, in_cell, granted}
use Rattle.mvs_model.specs.Changes.{HeldPlain, Releasable, any_covers, any_has, Frees, Drops, Writes}
use Rattle.mvs_model.specs.Requests.{all_granted}
use Rattle.mvs_model.specs.WellFormed.{Apart}
use Rattle.mvs_model.proofs.StorageLaws.{covers_is}
use Rattle.mvs_model.proofs.Operands.{HasBytes, HasByte}
use Rattle.mvs_model.proofs.CellPlaces.{has_is, whole_has}
use Rattle.mvs_model.proofs.TakenCells.{in_cell_is, in_cell_from, cell_pooled}
use Rattle.mvs_model.proofs.PartsFewer.{Covered, BytesGranted, fewer_apart, fewer_cells, cells_same, pools_same, covered_same}
use Rattle.mvs_model.proofs.Below.{below_each}
use Rattle.mvs_model.proofs.Tests.{kept_is, false_true, true_false, else_some, kept_passes}

-- places of whole doublewords
pub any_whole_has : (ps : List PlaceValue) (a : ℕ) → AllByRecursion IsWhole ps → any_has ps a ≡ any_covers ps (a / 8)
any_whole_has [] a w = refl
any_whole_has (p ∷ ps) a w = λ i. whole_has p a w.0 i || any_whole_has ps a w.1 i

any_plain : (st : State) (s : ℕ) (ps : List PlaceValue) (d : ℕ) → AllByRecursion (HeldPlain st s) ps → any_covers ps d ≡ true → get st.held d ≡ Some (plain s)
any_plain st s [] d h e = false_true e
any_plain st s (p ∷ ps) d h e = grind (arith, nat_tests, covers_is, any_plain st s ps d h.1)

-- what is held outside the pools is no part of one
pub plain_or_pooled : (o : Option Holding) (s r : ℕ) → o ≡ Some (plain s) → o ≡ Some (pooled r) → ⊥
plain_or_pooled o s r e f = true_false (ap (λ h. has (λ k. not k.pooled) h) (sym e ∙ f))

module _ (old new : State) (s : ℕ) (ps : List PlaceValue) (w : AllByRecursion IsWhole ps) (r : Releasable old s ps) (f : Frees old ps new) (a : Apart old) where
  left_held : (d u : ℕ) → get old.held d ≡ Some (pooled u) → get new.held d ≡ Some (pooled u)
  left_held d u e = grind (arith, nat_tests, any_plain, plain_or_pooled)

  no_cell : (x : ℕ) → any_covers ps (x / 8) ≡ true → in_cell old x ≡ false
  no_cell x e = false_from_ne_true (in_cell old x) (λ h. let i = in_cell_is old x h in plain_or_pooled (get old.held (x / 8)) s i.pool.subpool (any_plain old s ps (x / 8) r.0 e) (cell_pooled old a x i))

  freed_bytes : BytesGranted new
  freed_bytes = grind (arith, nat_tests, any_whole_has, no_cell, cells_same)

  pub freed_apart : Apart new
  freed_apart =
      fewer_apart old new (pools_same old new f.pools) (λ n q part d e h c is. left_held d q.subpool is)
      (covered_same old new f.pools (λ d u e. else_some (any_covers ps d) (get old.held d) (pooled u) (sym (f.held d) ∙ e)) a.covered) freed_bytes a

-- what nothing but the tasks or the bytes changes
pub same_apart : (old new : State) → new.held ≡ old.held → new.pools ≡ old.pools → BytesGranted new → Apart old → Apart new
same_apart old new held pools bytes a =
    fewer_apart old new (pools_same old new pools) (λ n q part d e h c is. ap (λ m. get m d) held ∙ is)
    (covered_same old new pools (λ d s e. sym (ap (λ m. get m d) held) ∙ e) a.covered) bytes a

pub same_granted : (old new : State) (x : ℕ) → new.held ≡ old.held → new.pools ≡ old.pools → granted new x ≡ granted old x
same_granted old new x held pools = λ i. is_plain (get (held i) (x / 8)) || cells_same old new x pools i

-- bytes are written where there are some
module _ (old new : State) (p : PlaceValue) (value : ℕ → Option ℕ) (all : all_granted old p ≡ true) (some : HasBytes old p value) (w : Writes old p value new) (a : Apart old) where
  was_granted : (x : ℕ) → has_address p x ≡ true → granted old x ≡ true
  was_granted x e =
      let h = has_is p x e in let low : p.addr ≤ x = h.0 in let high : x < p.addr + p.len = h.1 in
      ap (granted old) (let s : x ≡ p.addr + (x - p.addr) = omega arith in s) ∙ below_each (λ i. granted old (p.addr + i)) p.len all (x - p.addr) (omega arith)

  is_byte : (v : Option ℕ) → HasByte old v → is_some v ≡ true
  is_byte v h1 = grind (arith, common_steps)

  written_bytes : BytesGranted new
  written_bytes = grind (arith, nat_tests, same_granted, was_granted, is_byte)

  pub written_apart : Apart new
  written_apart = same_apart old new w.held w.pools written_bytes a

pub kept_from : {X : Type 0} (test : X → Bool) (o : Option X) (x : X) → o ≡ Some x → test x ≡ true → kept test o ≡ Some x
kept_from test o x e t = ap (kept test) e ∙ ap (λ b. cond b (Some x) None) t

-- what some subpools hold goes
module _ (old new : State) (test : ℕ → Bool) (g : Drops old test new) (a : Apart old) where
  stays : (n : Name) (q : Pool) → get new.pools n ≡ Some q → (get old.pools n ≡ Some q) × (not (test q.subpool) ≡ true)
  stays n q e = kept_is (λ p. not (test p.subpool)) (get old.pools n) q (sym (g.pools n) ∙ e)

  drops_covered : Covered new
  drops_covered d s e =
      let k = kept_is (λ h. not (test h.subpool)) (get old.held d) (pooled s) (sym (g.held d) ∙ e) in
      let c = a.covered d s k.0 in
      (c.0, c.1, g.pools c.0 ∙ kept_from (λ p. not (test p.subpool)) (get old.pools c.0) c.1 c.2 (ap (λ u. not (test u)) c.3 ∙ k.1), c.3, c.4)

  still_plain : (o : Option Holding) → is_plain (kept (λ h. not (test h.subpool)) o) ≡ true → is_plain o ≡ true
  still_plain o e = kept_passes is_plain refl (λ h. not (test h.subpool)) o e

  no_more : (x : ℕ) → granted new x ≡ true → granted old x ≡ true
  no_more x e = at (is_plain (get new.held (x / 8))) (is_plain (get old.held (x / 8))) (λ f. still_plain (get old.held (x / 8)) (ap is_plain (sym (g.held (x / 8))) ∙ f)) cells e where
    cells : in_cell new x ≡ true → in_cell old x ≡ true
    cells f = in_cell_from old x (fewer_cells old new (λ n q h. (stays n q h).0) (λ n q part d h i c is. g.held d ∙ kept_from _ (get old.held d) (pooled q.subpool) is (stays n q h).1) x (in_cell_is new x f))

    at : (b c : Bool) → (b ≡ true → c ≡ true) → (in_cell new x ≡ true → in_cell old x ≡ true) → (b || in_cell new x) ≡ true → (c || in_cell old x) ≡ true
    at b true h i f = refl
    at true false h i f = false_true (h refl)
    at false false h i f = i f

  drops_bytes : BytesGranted new
  drops_bytes = grind (arith, nat_tests, no_more)

  pub drops_apart : Apart new
  drops_apart =
      fewer_apart old new (λ n q e. (stays n q e).0)
      (λ n q part d e h c is. g.held d ∙ kept_from (λ k. not (test k.subpool)) (get old.held d) (pooled q.subpool) is (stays n q e).1)
      drops_covered drops_bytes a
