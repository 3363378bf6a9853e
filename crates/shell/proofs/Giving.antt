-- A byte that is given of those that were read ahead.
use Rattle.std.proofs.Common.{◌≡◌, ℕ, ◌<◌, ◌==◌, Bool, true, false, List, [], ◌∷◌, length, take, slice_set, arith, refl, sym, ◌∙◌}

pub first_byte : (buf : List ℕ) (byte : ℕ) → 0 < length buf → take 1 (slice_set buf 0 byte) ≡ byte ∷ []
first_byte [] byte some = absurd (omega (arith, some))
first_byte (b ∷ buf) byte some = refl

pub some_room : (buf : List ℕ) (f : Bool) → f ≡ (length buf == 0) → f ≡ false → 0 < length buf
some_room [] f e some = absurd (let g : true ≡ false = sym e ∙ some in cc)
some_room (b ∷ buf) f e some = omega arith
