-- Which pages of a region are open, and the bytes of those that stay open.
use Rattle.std.proofs.Common.{◌≡◌, ◌∙◌, ℕ, zero, suc, ◌+◌, ◌-◌, ◌/◌, Bool, true, cond, Option, Some, None, is_some, List, length, get_or, replicate, refl, sym, ap, inl, inr, arith}
use Rattle.std.proofs.lemmas.Bool.{cases_Bool, cond-true, cond-false}
use Rattle.std.proofs.lemmas.List.{length-replicate}
use Rattle.std.specs.Prelude.{unwrap_or}
use Rattle.page_map.specs.Owners.{owner_of}
use Rattle.region_raw.specs.Pages.{Pages, Writes, is_open}
use Rattle.subpool_store.specs.Bits.{in_range}
use Rattle.subpool_store.specs.Region.{IsOpened, cell, value_at}
use Rattle.subpool_store.specs.Memory.{Stays}
use Rattle.subpool_store.proofs.Exact.{cell_some}
use Rattle.subpool_store.proofs.Ranges.{in_range_true, in_range_false}

-- with nothing assigned nothing is open
pub opened_none : (n : ℕ) → IsOpened (replicate n None) (replicate n None)
opened_none n = record { sizes = length-replicate n None ∙ sym (length-replicate n None); each = each n } where
  each : (n p : ℕ) → is_open (replicate n None) p ≡ is_some (owner_of (replicate n None) p)
  each zero p = refl
  each (suc n) zero = refl
  each (suc n) (suc p) = each n p

module _ (pages : List (Option ℕ)) (bytes : Pages) (opened : IsOpened pages bytes) where
  -- the value of a byte after a write
  pub written_value : (at : ℕ) (w : List ℕ) (new : Pages) → Writes bytes at w new → (k : ℕ) → is_some (owner_of pages (k / 4096)) ≡ true →
      value_at new k ≡ cond (in_range at (at + length w) k) (get_or w (k - at) 0) (value_at bytes k)
  written_value at w new writes k owned = elim (cases_Bool (in_range at (at + length w) k)) [
    | inl hit ↦ let there = in_range_true at (at + length w) k hit in ap (λ o. unwrap_or o 0) (writes.bytes k there.0 there.1 (opened.each (k / 4096) ∙ owned)) ∙ sym (cond-true _ _ _ hit)
    | inr out ↦ ap (λ o. unwrap_or o 0) (writes.others k (in_range_false at (at + length w) k out)) ∙ sym (cond-false _ _ _ out)
  ]

  -- a write leaves open what was open
  pub opened_written : (at : ℕ) (w : List ℕ) (new : Pages) → Writes bytes at w new → IsOpened pages new
  opened_written at w new writes = record { sizes = writes.sizes ∙ opened.sizes; each = λ p. writes.pages p ∙ opened.each p }

-- what stands at a doubleword that is held stood there before
pub stays_held : (bits : List Bool) (pages : List (Option ℕ)) (old new : Pages) → Stays bits old new → (k t : ℕ) → cell bits pages (k / 8) ≡ Some t → value_at new k ≡ value_at old k
stays_held bits pages old new stays k t held = ap (λ o. unwrap_or o 0) (stays k (cell_some bits pages (k / 8) t held).0)

-- the value of a byte of a doubleword that is held, after a write
pub written_held : (bits : List Bool) (pages : List (Option ℕ)) (bytes : Pages) → IsOpened pages bytes → (at : ℕ) (w : List ℕ) (new : Pages) → Writes bytes at w new → (k t : ℕ) → cell bits pages (k / 8) ≡ Some t →
    value_at new k ≡ cond (in_range at (at + length w) k) (get_or w (k - at) 0) (value_at bytes k)
written_held bits pages bytes opened at w new writes k t held =
    let page : k / 8 / 512 ≡ k / 4096 = omega arith in
    let owned : owner_of pages (k / 4096) ≡ Some t = ap (owner_of pages) (sym page) ∙ (cell_some bits pages (k / 8) t held).1 in
    written_value pages bytes opened at w new writes k (ap is_some owned)
