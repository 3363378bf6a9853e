-- The digits of a number.
use Rattle.std.proofs.Common.{◌≡◌, ℕ, ◌-◌, ◌/◌, ◌%◌, ◌<◌, [], ◌∷◌, ◌++◌, arith}
use Rattle.std.proofs.lemmas.Grind.{common_steps}
use Rattle.mvs_model.specs.Texts.{glyph, last_digits}

pub last_digits_none : (base k n : ℕ) → k ≡ 0 → last_digits base k n ≡ []
unfolding last_digits
last_digits_none base k n h1 = grind (arith, common_steps)

pub last_digits_more : (base k n : ℕ) → 0 < k → last_digits base k n ≡ last_digits base (k - 1) (n / base) ++ glyph (n % base) ∷ []
unfolding last_digits
last_digits_more base k n h1 = grind (arith, common_steps)
