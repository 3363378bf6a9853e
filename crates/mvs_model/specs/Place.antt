-- Bytes that follow one another.
use Rattle.std.specs.Prelude.{ℕ, ◌+◌, ◌*◌, ◌/◌, ◌^◌, ◌<◌, ◌≤◌, refl}
use Rattle.std.specs.Coded.{Coded, code_by, coded×, coded_ℕ}

-- The address of the first byte, and how many there are.
pub record PlaceValue : Type 0 where
  pub addr : ℕ
  pub len : ℕ

-- The address has 31 bits, and there is a byte. (Assembler Services Guide, 31-bit addressing)
pub record IsPlace (p : PlaceValue) : Type 0 where
  pub addr : p.addr < 2 ^ 31
  pub some : 1 ≤ p.len
  pub most : p.len ≤ 2 ^ 31

-- the next multiple of 8: lengths are rounded up to doublewords. (Assembler Services Reference, GETMAIN)
abbrev pub round8 : ℕ → ℕ
round8 n = 8 * ((n + 7) / 8)

-- a number of bytes from an address on
abbrev pub place_at : ℕ → ℕ → PlaceValue
place_at a n = record { addr = a; len = n }

-- a code, for a model's value
abbrev pub place_code : Coded PlaceValue
place_code = code_by (ℕ × ℕ) (coded× coded_ℕ coded_ℕ) (λ p. (p.addr, p.len)) (λ p. record { addr = p.0; len = p.1 }) (λ _. refl)
