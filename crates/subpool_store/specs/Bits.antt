-- Ranges of numbers, and digits.
use Rattle.std.specs.Prelude.{ℕ, ◌&&◌, Bool, true, false, nat_lt, nat_le}

-- whether a number is in a range
abbrev pub in_range : ℕ → ℕ → ℕ → Bool
in_range from to i = nat_le from i && nat_lt i to

-- 1 for true and 0 for false
abbrev pub digit : Bool → ℕ
digit true = 1
digit false = 0
