-- Whose subpool a task means by a number.
use Rattle.std.proofs.Common.{◌≡◌, ℕ, ◌<◌, ◌||◌, Bool, true, false, cond, List, [], ◌∷◌, Option, Some, None, find, is_some, IsSome, arith, refl, sym, ap, ◌∙◌, not}
use Rattle.std.proofs.lemmas.Bool.Decides.{nat_tests}
use Rattle.std.specs.List.{list_any}
use Rattle.std.specs.FinMap.{get, keys, contains_key-keys}
use Rattle.mvs_model.proofs.Types.{Name}
use Rattle.mvs_model.specs.Name.{same_name}
use Rattle.mvs_model.specs.Finite.{has}
use Rattle.mvs_model.specs.Subpool.{is_subpool_number, is_step_number}
use Rattle.mvs_model.specs.Owners.{Owners, Task, job_step_task}
use Rattle.mvs_model.specs.Consistent.{IsFirst}
use Rattle.mvs_model.proofs.Orders.{same_name_is}
use Rattle.mvs_model.proofs.Tests.{false_true, true_false}

-- a number that a program may name is below the bound of all
pub number_low : (n : ℕ) → is_subpool_number n ≡ true → n < 133
number_low n h = grind (arith, nat_tests)

-- one that each task has for itself is not the job step task's
pub not_of_step : (n : ℕ) → n < 128 → is_step_number n ≡ false
not_of_step n l = grind (arith, nat_tests)

-- the first that passes a test, among names
module _ (test : Name → Bool) where
  find_passes : (xs : List Name) (q : Name) → find test xs ≡ Some q → test q ≡ true
  find_passes [] q h = absurd (let f : ◌≡◌ {A = Option Name} None (Some q) = h in cc)
  find_passes (x ∷ xs) q h = grind (arith, nat_tests, find_passes xs q)

  find_some : (xs : List Name) (q : Name) → list_any (same_name q) xs ≡ true → test q ≡ true → IsSome (find test xs)
  find_some [] q h t = false_true h
  find_some (x ∷ xs) q h t = at (test x) refl (same_name q x) refl h (find_some xs q) where
    at : (b : Bool) → test x ≡ b → (c : Bool) → same_name q x ≡ c → (c || list_any (same_name q) xs) ≡ true → (list_any (same_name q) xs ≡ true → test q ≡ true → IsSome (find test xs)) → IsSome (cond b (Some x) (find test xs))
    at true e c f g more = refl
    at false e true f g more = true_false (sym t ∙ ap test (same_name_is q x f) ∙ e)
    at false e false f g more = more g t

-- whether a task is one that nobody attached
first_test : Owners → Name → Bool
first_test o t = has (λ (task : Task). not (is_some task.mother)) (get o.tasks t)

-- the job step task is one that nobody attached
pub first_of : (o : Owners) (q : Name) → job_step_task o ≡ Some q → IsFirst o q
unfolding first_test
first_of o q h = grind (arith, nat_tests, find_passes, first_test)

-- where a task is one, there is a job step task
pub first_some : (o : Owners) (q : Name) → IsFirst o q → IsSome (job_step_task o)
unfolding first_test
first_some o q (task, e, none) =
    find_some (first_test o) (keys o.tasks) q (sym (contains_key-keys o.tasks q) ∙ ap is_some e)
    (ap (has (λ (task : Task). not (is_some task.mother))) e ∙ ap (λ (m : Option Name). not (is_some m)) none)
