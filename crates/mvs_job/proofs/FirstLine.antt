-- The first byte of some lines.
use Rattle.std.proofs.Common.{◌≡◌, ℕ, List, ◌∷◌, refl, ne_eqb}
use Rattle.std.specs.List.{onto_first}
use Rattle.mvs_model.specs.Lines.{lines_of}

pub lines_at_other : (b : ℕ) (bs : List ℕ) → (b ≡ 10 → ⊥) → lines_of (b ∷ bs) ≡ onto_first b (lines_of bs)
lines_at_other b bs ne = rw (ne_eqb b 10 ne) refl
