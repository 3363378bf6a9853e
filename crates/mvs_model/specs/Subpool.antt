-- The numbers of subpools.
use Rattle.std.specs.Prelude.{◌≡◌, ℕ, Bool, true, ◌||◌, ◌==◌, nat_lt}
use Rattle.mvs_model.specs.Numbers.{task_numbers, first_step_number, second_step_number}

-- whether the number is one of the job step task's: 131 or 132. (this project's choice)
abbrev pub is_step_number : ℕ → Bool
is_step_number n = (n == first_step_number) || (n == second_step_number)

-- whether a program may name the number: 0 to 127, 131 and 132. (Assembler Services Guide, virtual storage management)
abbrev pub is_subpool_number : ℕ → Bool
is_subpool_number n = nat_lt n task_numbers || is_step_number n

-- A program may name the number.
abbrev pub IsSubpoolNumber : ℕ → Type 0
IsSubpoolNumber n = is_subpool_number n ≡ true
