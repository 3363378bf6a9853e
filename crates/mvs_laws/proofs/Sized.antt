-- Each step keeps that the pools have sizes and counts.
use Rattle.std.proofs.Common.{◌≡◌, ◌≤◌, arith, Bool, Some, None, sym, ap, ◌∙◌}
use Rattle.std.specs.FinMap.{get}
use Rattle.std.proofs.lemmas.Bool.Decides.{nat_tests}
use Rattle.mvs_model.specs.Finite.{Changes, Keeps}
use Rattle.mvs_laws.proofs.Types.{Name}
use Rattle.mvs_model.specs.Pools.{Pool}
use Rattle.mvs_model.specs.State.{State}
use Rattle.mvs_model.specs.WellFormed.{IsSized, PoolsSized}
use Rattle.mvs_laws.proofs.Kept.{Closed}
use Rattle.mvs_model.proofs.Tests.{else_some, kept_is}

sized_put : (old new : State) (test : Name → Bool) (pool : Pool) → Changes (get old.pools) test (Some pool) (get new.pools) → IsSized pool → PoolsSized old → PoolsSized new
sized_put old new test pool h1 h2 h3 = grind (arith, nat_tests)

sized_gone : (old new : State) (test : Name → Bool) → Changes (get old.pools) test None (get new.pools) → PoolsSized old → PoolsSized new
sized_gone old new test changes all name q e = all name q (else_some (test name) (get old.pools name) q (sym (changes name) ∙ e))

sized_kept : (old new : State) (test : Name → Pool → Bool) → Keeps (get old.pools) test (get new.pools) → PoolsSized old → PoolsSized new
sized_kept old new test keeps all name q e = all name q (kept_is (test name) (get old.pools name) q (sym (keeps name) ∙ e)).0

sized_same : (old new : State) → new.pools ≡ old.pools → PoolsSized old → PoolsSized new
sized_same old new e all name q h = all name q (sym (ap (λ m. get m name) e) ∙ h)

pub sized_closed : Closed PoolsSized
sized_closed = record {
  granted = λ old t number want p new asks g all. sized_same old new g.pools all;
  freed = λ old s ps new w r f all. sized_same old new f.pools all;
  emptied = λ old s new e all. sized_kept old new _ e.drops.pools all;
  ended = λ old t new e all. sized_kept old new _ e.drops.pools all;
  built = λ old t name number s plan p o new fresh r asks is enters x all. sized_put old new _ _ x.pools (record { size = (let l : 4 ≤ plan.cell_size = r.0 in omega arith); primary = r.1; secondary = r.2 }) all;
  grown = λ old name pool p mid c new e x is k all. let s = all name pool e in
      sized_put mid new _ _ k.pools (record { size = s.size; primary = s.primary; secondary = s.secondary })
      (sized_put old mid _ _ x.pools (record { size = s.size; primary = s.primary; secondary = s.secondary }) all);
  taken = λ old name pool c new e is k all. let s = all name pool e in sized_put old new _ _ k.pools (record { size = s.size; primary = s.primary; secondary = s.secondary }) all;
  given = λ old name pool c new e is k all. let s = all name pool e in sized_put old new _ _ k.pools (record { size = s.size; primary = s.primary; secondary = s.secondary }) all;
  dropped = λ old name pool new e k all. sized_gone old new _ k.pools all;
  attached = λ old t name gifts residence new active e k all. sized_same old new k.pools all;
  written = λ old p value new e has k all. sized_same old new k.pools all;
}
