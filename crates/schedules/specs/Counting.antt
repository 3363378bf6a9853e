-- The number of orders of the statements of a step that keep the order of each task.
use Rattle.std.specs.Prelude.{◌≡◌, ℕ, zero, suc, ◌+◌, ◌*◌, Bool, List, [], ◌∷◌, ◌++◌, count_by, length, nat_eq}
use Rattle.std.specs.Cmp.Lexicographic.{pointwise}
use Rattle.mvs_model.specs.declared.name.Name.{Name}
use Rattle.schedules.specs.declared.step_line.StepLine.{StepLine}

abbrev pub factorial : ℕ → ℕ
factorial zero = 1
factorial (suc n) = suc n * factorial n

-- whether a statement is of a task
abbrev pub is_of_task : Name → StepLine → Bool
is_of_task task l = pointwise nat_eq l.task task

-- The product of the factorials of the numbers of statements of each task: of each statement, its place among those of its task. Those in
-- `before` come before.
abbrev pub places : List StepLine → List StepLine → ℕ
places before [] = 1
places before (l ∷ lines) = (count_by (is_of_task l.task) before + 1) * places (before ++ l ∷ []) lines

-- This is the number of orders that keep the order of each task: n! by the product of the factorials of all tasks.
abbrev pub AreOrders : List StepLine → ℕ → Type 0
AreOrders lines orders = orders * places [] lines ≡ factorial (length lines)
