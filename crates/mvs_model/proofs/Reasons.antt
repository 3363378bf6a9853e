-- What is bound is entered.
use Rattle.std.proofs.Common.{◌≡◌, ℕ, Bool, true, false, cond, Some, refl, ◌∙◌, arith, ◌==◌, ◌&&◌}
use Rattle.std.specs.FinMap.{get}
use Rattle.std.proofs.lemmas.Bool.Decides.{nat_tests}
use Rattle.mvs_model.proofs.Orders.{same_name_self}
use Rattle.mvs_model.specs.Name.{same_name}
use Rattle.mvs_model.specs.declared.name.Name.{Name}
use Rattle.mvs_model.specs.Owners.{Owners, entry, Binds}

pub bound_entry : (o after : Owners) (t : Name) (number s : ℕ) → Binds o t number s after → entry after t number ≡ Some s
bound_entry o after t number s b = b.table (t, number) ∙ at (same_name t t) (number == number) (same_name_self t) (grind (arith, nat_tests)) where
  at : (a b : Bool) → a ≡ true → b ≡ true → cond (a && b) (Some s) (get o.table (t, number)) ≡ Some s
  at true true e f = refl
  at true false e f = absurd (let g : false ≡ true = f in cc)
  at false b e f = absurd (let g : false ≡ true = e in cc)
