-- Numbers of storage beside those of the machine.
use Rattle.std.specs.Prelude.{ℕ}

-- the most doublewords of a region
abbrev pub most_doublewords : ℕ
most_doublewords = 0x400000

-- a bound of all addresses, and of the numbers of their doublewords
abbrev pub all_addresses : ℕ
all_addresses = 0x80000000

abbrev pub all_doublewords : ℕ
all_doublewords = 0x10000000
