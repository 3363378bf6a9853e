-- What a mother gives to a subtask and shares with it.
use Rattle.std.specs.Prelude.{◌≡◌, ℕ, ◌/◌, ◌%◌, ◌^◌, ◌==◌, ◌&&◌, ◌||◌, Bool, nat_lt, bit_and}
use Rattle.mvs_model.specs.Numbers.{task_numbers}

-- Two sets of subpool numbers, a bit for each number, and whether subpool 0 is shared.
pub record GiftsValue : Type 0 where
  pub given : ℕ
  pub shared : ℕ
  pub zero : Bool

-- the set has the number
abbrev pub has_bit : ℕ → ℕ → Bool
has_bit set number = (set / 2 ^ number) % 2 == 1

-- the mother gives the number: only one that each task has for itself can be given
abbrev pub gives : GiftsValue → ℕ → Bool
gives p number = nat_lt number task_numbers && has_bit p.given number

-- the mother shares the number: the same holds of it
abbrev pub shares : GiftsValue → ℕ → Bool
shares p number = nat_lt number task_numbers && (has_bit p.shared number || (p.zero && (number == 0)))

-- No number is both given and shared, and 0 is neither but by SZERO. (Assembler Services Reference, ATTACH; that 0
-- is never named is this project's choice)
pub record IsGifts (p : GiftsValue) : Type 0 where
  pub apart : bit_and p.given p.shared ≡ 0
  pub zero_not_given : p.given % 2 ≡ 0
  pub zero_not_shared : p.shared % 2 ≡ 0
