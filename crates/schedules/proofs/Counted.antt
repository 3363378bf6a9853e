-- The number of orders, a statement at a time.
use Rattle.std.proofs.Common.{◌≡◌, ℕ, ◌+◌, ◌*◌, ◌<◌, List, [], ◌∷◌, ◌++◌, length, take, get_or, refl, sym, ap, ◌∙◌, append-nil, append_assoc, add-one, arith}
use Rattle.std.specs.Prelude.{count_by}
use Rattle.std.proofs.Math.Nat.{mul_assoc, mul_comm, mul_right_comm}
use Rattle.std.proofs.lemmas.List.{take_more}
use Rattle.schedules.specs.declared.step_line.StepLine.{StepLine}
use Rattle.schedules.specs.Counting.{factorial, is_of_task, places}

pub place_of : List StepLine → StepLine → ℕ
place_of before l = count_by (is_of_task l.task) before + 1

one_times : (n : ℕ) → n * 1 ≡ n
one_times n = mul_comm n 1 ∙ (let e : 1 * n ≡ n = omega arith in e)

places_last : (before lines : List StepLine) (l : StepLine) → places before (lines ++ l ∷ []) ≡ places before lines * (count_by (is_of_task l.task) (before ++ lines) + 1)
places_last before [] l =
    one_times (count_by (is_of_task l.task) before + 1) ∙ ap (λ b. count_by (is_of_task l.task) b + 1) (sym (append-nil before)) ∙ (let e : count_by (is_of_task l.task) (before ++ []) + 1 ≡ 1 * (count_by (is_of_task l.task) (before ++ []) + 1) = omega arith in e)
places_last before (x ∷ lines) l =
    let n = count_by (is_of_task x.task) before + 1 in
    ap (λ m. n * m) (places_last (before ++ x ∷ []) lines l ∙ ap (λ b. places (before ++ x ∷ []) lines * (count_by (is_of_task l.task) b + 1)) (append_assoc before (x ∷ []) lines))
    ∙ sym (mul_assoc n (places (before ++ x ∷ []) lines) (count_by (is_of_task l.task) (before ++ x ∷ lines) + 1))

factorial_next : (n : ℕ) → factorial (n + 1) ≡ (n + 1) * factorial n
factorial_next n = rw add-one refl

pub orders_next : (lines : List StepLine) (at : ℕ) (l : StepLine) (within : at < length lines) → get_or lines at l ≡ l → (orders next place : ℕ) → place ≡ count_by (is_of_task l.task) (take at lines) + 1 → next * place ≡ orders * (at + 1)
    → orders * places [] (take at lines) ≡ factorial at → next * places [] (take (at + 1) lines) ≡ factorial (at + 1)
orders_next lines at l within is orders next place of_place scaled so_far =
    let before = take at lines in
    let P = places [] before in
    let cut : places [] (take (at + 1) lines) ≡ P * place = ap (places []) (take_more lines at l within ∙ ap (λ x. before ++ x ∷ []) is) ∙ places_last [] before l ∙ ap (λ n. P * n) (sym of_place) in
    ap (λ n. next * n) (cut ∙ mul_comm P place)
    ∙ sym (mul_assoc next place P)
    ∙ ap (λ n. n * P) scaled
    ∙ mul_right_comm orders (at + 1) P
    ∙ ap (λ n. n * (at + 1)) so_far
    ∙ mul_comm (factorial at) (at + 1)
    ∙ sym (factorial_next at)
