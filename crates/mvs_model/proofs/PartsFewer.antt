-- Parts of pools keep apart where no pool gets a part.
use Rattle.std.proofs.Common.{◌≡◌, ℕ, Bool, true, false, cond, Option, Some, None, sym, ap, ◌∙◌, is_some, Contains, arith}
use Rattle.std.specs.List.{list_any}
use Rattle.std.specs.FinMap.{get, keys}
use Rattle.std.proofs.lemmas.Bool.Decides.{nat_tests}
use Rattle.mvs_model.proofs.Types.{Name}
use Rattle.mvs_model.specs.Finite.{has}
use Rattle.mvs_model.specs.Place.{PlaceValue}
use Rattle.mvs_model.specs.Want.{WantValue}
use Rattle.mvs_model.specs.Storage.{IsWhole, Covers, covers, Chosen}
use Rattle.mvs_model.specs.Pools.{Pool, Part, in_parts, in_taken}
use Rattle.mvs_model.specs.State.{State, Holding, plain, pooled, subpool_in, holder, in_cell, granted}
use Rattle.mvs_model.specs.Changes.{GrantTo}
use Rattle.mvs_model.specs.WellFormed.{Apart}
use Rattle.mvs_model.proofs.StorageLaws.{covers_is}
use Rattle.mvs_model.proofs.CellPlaces.{whole_has}
use Rattle.mvs_model.proofs.TakenCells.{InCell}
use Rattle.mvs_model.proofs.Tests.{false_true, none_some}

-- Each doubleword that is held for pools lies in a part of one.
abbrev pub Covered : State → Type 0
Covered st = (d s : ℕ) → get st.held d ≡ Some (pooled s) → (name : Name) × (pool : Pool) × (get st.pools name ≡ Some pool) × (pool.subpool ≡ s) × (in_parts pool d ≡ true)

-- There are bytes exactly where they may be read.
abbrev pub BytesGranted : State → Type 0
BytesGranted st = (a : ℕ) → is_some (get st.bytes a) ≡ granted st a

module _ (old new : State) (less : (n : Name) (q : Pool) → get new.pools n ≡ Some q → get old.pools n ≡ Some q)
    (held : (n : Name) (q : Pool) (part : Part) (d : ℕ) → get new.pools n ≡ Some q → Contains q.parts part → Covers part.place d → get old.held d ≡ Some (pooled q.subpool) → get new.held d ≡ Some (pooled q.subpool)) where
  -- the pools that are left, with what they hold
  pub fewer_apart : Covered new → BytesGranted new → Apart old → Apart new
  fewer_apart covered bytes a = record {
    parts = λ n q part e h. let p = a.parts n q part (less n q e) h in record { whole = p.whole; length = p.length; some = p.some; held = λ d c. held n q part d e h c (p.held d c) };
    within = λ n q e. a.within n q (less n q e);
    between = λ m n p q x y ne ep eq hx hy. a.between m n p q x y ne (less m p ep) (less n q eq) hx hy;
    covered = covered;
    cells = λ n q c e t. a.cells n q c (less n q e) t;
    bytes = bytes;
  }

  pub fewer_cells : (a : ℕ) → InCell new a → InCell old a
  fewer_cells a i = record { name = i.name; pool = i.pool; first = i.first; is_pool = less i.name i.pool i.is_pool; taken = i.taken; inside = i.inside }

-- with the same pools the same cells are taken
pub cells_same : (old new : State) (a : ℕ) → new.pools ≡ old.pools → in_cell new a ≡ in_cell old a
cells_same old new a e = ap (λ m. list_any (λ name. has (λ pool. in_taken pool a) (get m name)) (keys m)) e

pub pools_same : (old new : State) → new.pools ≡ old.pools → (n : Name) (q : Pool) → get new.pools n ≡ Some q → get old.pools n ≡ Some q
pools_same old new e n q h = sym (ap (λ m. get m n) e) ∙ h

pub covered_same : (old new : State) → new.pools ≡ old.pools → ((d s : ℕ) → get new.held d ≡ Some (pooled s) → get old.held d ≡ Some (pooled s)) → Covered old → Covered new
covered_same old new e back covered d s h = let c = covered d s (back d s h) in (c.0, c.1, ap (λ m. get m c.0) e ∙ c.2, c.3, c.4)

-- what holds a doubleword that nobody holds
pub none_held : (o : Option Holding) → subpool_in o ≡ None → o ≡ None
none_held o h1 = grind (arith, nat_tests)

-- a place that is chosen is whole, and free
pub chosen_whole : (st : State) (s : ℕ) (want : WantValue) (p : PlaceValue) → Chosen st.regions (holder st) s want p → IsWhole p
chosen_whole st s want p c = (c.placed.1.on_doubleword, c.length.whole)

pub chosen_free : (st : State) (s : ℕ) (want : WantValue) (p : PlaceValue) (d : ℕ) → Chosen st.regions (holder st) s want p → covers p d ≡ true → get st.held d ≡ None
chosen_free st s want p d c e = none_held (get st.held d) (c.placed.0.each d (covers_is p d e)).free

-- what is held where something is changed
pub past_change : {X : Type 0} (b : Bool) (v o : Option X) (x : X) → (b ≡ true → o ≡ None) → o ≡ Some x → cond b v o ≡ Some x
past_change b v o x h1 h2 = grind (arith, nat_tests, none_some)

-- a grant
grant_bytes : (old new : State) (t : Name) (number : ℕ) (want : WantValue) (p : PlaceValue) → GrantTo old t number want p new → BytesGranted old → BytesGranted new
grant_bytes old new t number want p h1 h2 = grind (arith, nat_tests, cells_same, chosen_whole, whole_has)

pub grant_apart : (old new : State) (t : Name) (number : ℕ) (want : WantValue) (p : PlaceValue) → GrantTo old t number want p new → Apart old → Apart new
grant_apart old new t number want p g a =
    fewer_apart old new (pools_same old new g.pools)
    (λ n q part d e h c is. g.held d ∙ past_change (covers p d) _ (get old.held d) (pooled q.subpool) (chosen_free old g.subpool want p d g.chosen) is)
    (covered_same old new g.pools (λ d s e. at (covers p d) s (get old.held d) (sym (g.held d) ∙ e)) a.covered)
    (grant_bytes old new t number want p g a.bytes) a where
      at : (b : Bool) (s : ℕ) (o : Option Holding) → cond b (Some (plain g.subpool)) o ≡ Some (pooled s) → o ≡ Some (pooled s)
      at true s o e = false_true (ap (λ h. has (λ k. k.pooled) h) e)
      at false s o e = e
