-- The pools after one of them is changed.
use Rattle.std.proofs.Common.{◌≡◌, ◌≢◌, ◌⊎◌, cond, Option, Some, ap, ◌∙◌, arith}
use Rattle.std.specs.FinMap.{get}
use Rattle.std.proofs.lemmas.Bool.Decides.{nat_tests}
use Rattle.mvs_model.proofs.Types.{Name}
use Rattle.mvs_model.specs.Finite.{Changes}
use Rattle.mvs_model.specs.Name.{same_name}
use Rattle.mvs_model.specs.Pools.{Pool}
use Rattle.mvs_model.specs.State.{State}
use Rattle.mvs_model.proofs.Orders.{same_name_is, same_name_self, differs, names_differ}

module _ (old new : State) (name : Name) (v : Option Pool) (changes : Changes (get old.pools) (λ n. same_name n name) v (get new.pools)) where
  pub put_here : get new.pools name ≡ v
  put_here = changes name ∙ ap (λ b. cond b v (get old.pools name)) (same_name_self name)

  pub put_else : (n : Name) → n ≢ name → get new.pools n ≡ get old.pools n
  put_else n ne = changes n ∙ ap (λ b. cond b v (get old.pools n)) (names_differ n name ne)

  -- a pool is the new one, or as before
  pub put_cases : (n : Name) (q : Pool) → get new.pools n ≡ Some q → ((n ≡ name) × (v ≡ Some q)) ⊎ ((n ≢ name) × (get old.pools n ≡ Some q))
  put_cases n q e = grind (arith, nat_tests, differs, same_name_is)

  -- a pool from before is the changed one, or stands
  pub kept_cases : (n : Name) (q : Pool) → get old.pools n ≡ Some q → (n ≡ name) ⊎ ((n ≢ name) × (get new.pools n ≡ Some q))
  kept_cases n q e = grind (arith, nat_tests, put_else, differs, same_name_is)
