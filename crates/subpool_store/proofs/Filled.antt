-- The bytes of doublewords that are taken and then filled.
use Rattle.std.proofs.Common.{◌≡◌, ◌∙◌, ℕ, ◌+◌, ◌-◌, ◌*◌, ◌/◌, ◌<◌, ◌≤◌, Bool, true, false, List, Some, get_or, replicate, ap, inl, inr, arith}
use Rattle.std.proofs.lemmas.Bool.{both_ways, cases_lt}
use Rattle.std.proofs.lemmas.List.{get_or-replicate, length-replicate}
use Rattle.region_raw.specs.Pages.{Pages, Writes, is_open}
use Rattle.subpool_store.specs.Memory.{IsFilled, KeepsHeld}

module _ (held : List Bool) (old mid new : Pages) (at n from to value : ℕ) (keeps : KeepsHeld held old mid) (writes : Writes mid at (replicate n value) new) (begins : at ≡ 8 * from) (ends : at + n ≡ 8 * to) where
  -- what was held before keeps its bytes
  pub filled_keeps : ((i : ℕ) → from ≤ i → i < to → get_or held i false ≡ false) → KeepsHeld held old new
  filled_keeps free = record {
    sizes = writes.sizes ∙ keeps.sizes;
    pages = λ p. writes.pages p ∙ keeps.pages p;
    stays = λ k set. writes.others k (λ low. elim (cases_lt k (8 * to)) [
      | inl high ↦ absurd (both_ways _ (free (k / 8) (omega (arith, low, begins)) (omega (arith, high))) set)
      | inr past ↦ let size = length-replicate n value in omega (arith, past, size, ends)
    ]) ∙ keeps.stays k set;
  }

  -- each byte of them has the value
  pub filled_has : ((k : ℕ) → 8 * from ≤ k → k < 8 * to → is_open old (k / 4096) ≡ true) → IsFilled from to value new
  filled_has there k low high =
      let size = length-replicate n value in
      writes.bytes k (omega (arith, low, begins)) (omega (arith, high, size, ends)) (keeps.pages (k / 4096) ∙ there k low high)
      ∙ ap Some (get_or-replicate n (k - at) value 0 (omega (arith, low, high, begins, ends)))
