-- What a loop over digits has counted is the number that they write.
use Rattle.std.proofs.Common.{◌≡◌, ℕ, ◌+◌, ◌-◌, ◌*◌, ◌^◌, List, [], ◌∷◌, length, sym, ◌∙◌, arith, pow-suc}
use Rattle.mvs_model.specs.Reading.{number, hex_digit, hex_number}

-- the number after each digit, from what was counted before
abbrev pub counted : ℕ → List ℕ → ℕ
counted so_far [] = so_far
counted so_far (b ∷ bs) = counted (so_far * 10 + (b - 48)) bs

shifted : (s d p n : ℕ) → (s * 10 + d) * p + n ≡ s * (p * 10) + (d * p + n)
shifted s d p n = grind (arith)

pub counted_is : (so_far : ℕ) (text : List ℕ) → counted so_far text ≡ so_far * 10 ^ length text + number text
counted_is so_far [] = grind (arith)
counted_is so_far (b ∷ bs) = counted_is (so_far * 10 + (b - 48)) bs ∙ shifted so_far (b - 48) (10 ^ length bs) (number bs) ∙ (λ i. so_far * sym (pow-suc 10 (length bs)) i + ((b - 48) * 10 ^ length bs + number bs))

pub counted_all : (text : List ℕ) → counted 0 text ≡ number text
counted_all text = counted_is 0 text ∙ (let none : 0 * 10 ^ length text + number text ≡ number text = grind (arith) in none)

-- the same of hexadecimal digits
abbrev pub hex_counted : ℕ → List ℕ → ℕ
hex_counted so_far [] = so_far
hex_counted so_far (b ∷ bs) = hex_counted (so_far * 16 + hex_digit b) bs

hex_shifted : (s d p n : ℕ) → (s * 16 + d) * p + n ≡ s * (p * 16) + (d * p + n)
hex_shifted s d p n = grind (arith)

hex_counted_is : (so_far : ℕ) (text : List ℕ) → hex_counted so_far text ≡ so_far * 16 ^ length text + hex_number text
hex_counted_is so_far [] = grind (arith)
hex_counted_is so_far (b ∷ bs) = hex_counted_is (so_far * 16 + hex_digit b) bs ∙ hex_shifted so_far (hex_digit b) (16 ^ length bs) (hex_number bs) ∙ (λ i. so_far * sym (pow-suc 16 (length bs)) i + (hex_digit b * 16 ^ length bs + hex_number bs))

pub hex_counted_all : (text : List ℕ) → hex_counted 0 text ≡ hex_number text
hex_counted_all text = hex_counted_is 0 text ∙ (let none : 0 * 16 ^ length text + hex_number text ≡ hex_number text = grind (arith) in none)
