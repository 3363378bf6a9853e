-- The cases of a request, by tests.
use Rattle.std.proofs.Common.{◌≡◌, ℕ, Bool, true, false, not, ap, refl}
use Rattle.mvs_model.specs.Subpool.{is_subpool_number}
use Rattle.mvs_model.specs.Requests.{is_invalid}

-- a number that no subpool has
pub not_valid : (n : ℕ) → (is_subpool_number n ≡ true → ⊥) → is_invalid n ≡ true
not_valid n h = at (is_subpool_number n) h where
  at : (b : Bool) → (b ≡ true → ⊥) → not b ≡ true
  at true h = absurd (h refl)
  at false h = refl

pub is_valid : (n : ℕ) → is_subpool_number n ≡ true → is_invalid n ≡ false
is_valid n h = ap not h
