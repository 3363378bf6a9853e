-- In every state of a run the parts of pools keep apart.
use Rattle.std.proofs.Common.{◌≡◌, ℕ, ◌/◌, false, [], ◌∷◌, Option, Some, None, refl, sym, ap, ◌∙◌, arith, is_some, ◌||◌, nat_cmp}
use Rattle.std.proofs.lemmas.List.Elements.{Contains-append_right}
use Rattle.std.specs.FinMap.{get, empty, keys, get-empty, contains_key}
use Rattle.std.specs.FinSet as set
use Rattle.std.proofs.lemmas.Bool.Decides.{nat_tests}
use Rattle.mvs_laws.proofs.Types.{Name}
use Rattle.mvs_model.specs.Card.{CardValue}
use Rattle.mvs_model.specs.Finite.{has}
use Rattle.mvs_model.specs.Name.{name_cmp}
use Rattle.mvs_model.specs.Pools.{Pool, in_taken}
use Rattle.mvs_model.specs.State.{State, is_plain, in_cell, granted}
use Rattle.mvs_model.specs.Start.{start}
use Rattle.mvs_model.specs.Changes.{with_part}
use Rattle.mvs_model.specs.Requests.{Plan, new_pool}
use Rattle.mvs_model.specs.WellFormed.{Apart, PoolsSized}
use Rattle.mvs_laws.specs.Laws.{PartsApart}
use Rattle.mvs_laws.proofs.Kept.{Closed}
use Rattle.mvs_laws.proofs.Sized.{sized_closed}
use Rattle.mvs_model.proofs.SeenStart.{all_names}
use Rattle.mvs_model.proofs.PoolPut.{put_here}
use Rattle.mvs_model.proofs.PartsFewer.{grant_apart}
use Rattle.mvs_model.proofs.PartsFreed.{freed_apart, same_apart, same_granted, written_apart, drops_apart}
use Rattle.mvs_model.proofs.PartsDeleted.{deleted_apart}
use Rattle.mvs_model.proofs.PartsTaken.{taken_apart}
use Rattle.mvs_model.proofs.PartsGiven.{given_apart}
use Rattle.mvs_model.proofs.PartsGrown.{Stands, grown_apart}
use Rattle.mvs_laws.proofs.Going.{running_keeps, start_sized}
use Rattle.mvs_model.proofs.Tests.{false_true, none_some, true_false}

-- What stays together: the parts are apart, and the pools have sizes and counts.
abbrev pub StaysApart : State → Type 0
StaysApart st = Apart st × PoolsSized st

-- a pool of the state stands in it
stands_there : (st : State) (name : Name) (pool : Pool) → Apart st → get st.pools name ≡ Some pool → Stands st name pool
stands_there st name pool a e = grind (arith, nat_tests)

-- a new one has no part yet
no_pool : {o : Option Pool} → is_some o ≡ false → (q : Pool) → o ≡ Some q → ⊥
no_pool e q f = true_false (sym (ap is_some f) ∙ e)

stands_new : (st : State) (name : Name) (s : ℕ) (plan : Plan) → contains_key st.pools name ≡ false → Stands st name (new_pool s plan)
stands_new st name s plan fresh = record {
  parts = λ part h. absurd (omega (arith, h.1));
  taken = λ c t. false_true (sym (set.contains-empty nat_cmp c) ∙ t);
  within = tt;
  only = λ q e. absurd (no_pool fresh q e);
}

pub apart_closed : Closed StaysApart
apart_closed = record {
  granted = λ old t number want p new asks g k. (grant_apart old new t number want p g k.0, sized_closed.granted old t number want p new asks g k.1);
  freed = λ old s ps new w r f k. (freed_apart old new s ps w r f k.0, sized_closed.freed old s ps new w r f k.1);
  emptied = λ old s new e k. (drops_apart old new _ e.drops k.0, sized_closed.emptied old s new e k.1);
  ended = λ old t new e k. (drops_apart old new _ e.drops k.0, sized_closed.ended old t new e k.1);
  built = λ old t name number s plan p o new fresh r asks is enters x k. (
    grown_apart old new name (new_pool s plan) plan.primary p o r.1 (stands_new old name s plan fresh) x k.0,
    sized_closed.built old t name number s plan p o new fresh r asks is enters x k.1,
  );
  grown = λ old name pool p mid c new e x is g k. (
    taken_apart mid new name (with_part pool pool.secondary p) c (put_here old mid name (Some (with_part pool pool.secondary p)) x.pools)
        (record { place = p; count = pool.secondary }, Contains-append_right pool.parts (record { place = p; count = pool.secondary } ∷ []) (record { place = p; count = pool.secondary }) (0, omega arith, refl), is) g
        (grown_apart old mid name pool pool.secondary p old.owners (k.1 name pool e).secondary (stands_there old name pool k.0 e) x k.0),
    sized_closed.grown old name pool p mid c new e x is g k.1,
  );
  taken = λ old name pool c new e is g k. (taken_apart old new name pool c e is.0 g k.0, sized_closed.taken old name pool c new e is g k.1);
  given = λ old name pool c new e is g k. (given_apart old new name pool c e is g k.0, sized_closed.given old name pool c new e is g k.1);
  dropped = λ old name pool new e g k. (deleted_apart old new name pool e g k.0, sized_closed.dropped old name pool new e g k.1);
  attached = λ old t name gifts residence new active e g k. (
    same_apart old new g.held g.pools (λ a. ap (λ m. is_some (get m a)) g.bytes ∙ k.0.bytes a ∙ sym (same_granted old new a g.held g.pools)) k.0,
    sized_closed.attached old t name gifts residence new active e g k.1,
  );
  written = λ old p value new e has g k. (written_apart old new p value e has g k.0, sized_closed.written old p value new e has g k.1);
}

-- at the start nothing is held
module _ (card : CardValue) where
  no_pool_yet : (n : Name) (q : Pool) → get (start card).pools n ≡ Some q → ⊥
  no_pool_yet n q e = let f : None ≡ Some q = sym (get-empty name_cmp n) ∙ e in absurd (cc)

  none_held : (d : ℕ) → get (start card).held d ≡ None
  none_held d = get-empty nat_cmp d

  none_granted : (a : ℕ) → granted (start card) a ≡ false
  none_granted a = λ i. is_plain (none_held (a / 8) i) || cells i where
    cells : in_cell (start card) a ≡ false
    cells = all_names _ (keys (empty {X = Pool} {R = name_cmp})) (λ name. ap (has (λ pool. in_taken pool a)) (get-empty name_cmp name))

  pub start_apart : Apart (start card)
  start_apart = record {
    parts = λ n q part e h. absurd (no_pool_yet n q e);
    within = λ n q e. absurd (no_pool_yet n q e);
    between = λ m n p q x y ne e f hx hy. absurd (no_pool_yet m p e);
    covered = λ d s e. none_some (sym (none_held d) ∙ e);
    cells = λ n q c e t. absurd (no_pool_yet n q e);
    bytes = λ a. ap is_some (get-empty nat_cmp a) ∙ sym (none_granted a);
  }

-- In every state of a run the parts of pools keep apart, and there are bytes just where they may be read.
pub parts_apart : PartsApart
parts_apart job is = (running_keeps StaysApart apart_closed (λ card is. (start_apart card, start_sized card)) job is).0
