-- The bytes of a place that is held, as a part of the region's bytes.
use Rattle.std.proofs.Common.{◌≡◌, ◌∙◌, ℕ, ◌+◌, ◌-◌, ◌*◌, ◌/◌, ◌≤◌, Bool, false, get_or, Option, Some, None, IsSome, true, List, refl, sym, ap, arith}
use Rattle.std.proofs.lemmas.Bool.{false≢true}
use Rattle.std.specs.FinMap.{get}
use Rattle.mvs_model.specs.Place.{PlaceValue}
use Rattle.subpool_store.specs.Region.{AllHeldIn, RegionState, region_of}
use Rattle.subpool_store.specs.Memory.{IsHeldPart}
use Rattle.subpool_store.proofs.Exact.{holder_some}
use Rattle.subpool_store.proofs.Methods.{all_inside}

module _ (first : ℕ) (bits : List Bool) (pages : List (Option ℕ)) (values : ℕ → ℕ) (h : RegionState) (is : region_of first bits pages values ≡ h) where
  -- the bit of a doubleword that is held is set
  bit_held : (d : ℕ) → IsSome (get h.held d) → get_or bits (d - first) false ≡ true
  bit_held d held = by (get h.held d) refl held where
    by : (o : Option ℕ) → get h.held d ≡ o → IsSome o → get_or bits (d - first) false ≡ true
    by None e none = absurd (false≢true none)
    by (Some t) e _ = (holder_some first bits pages d t (ap (λ g. get g.held d) is ∙ e)).1

  pub part_of_held : (p : PlaceValue) (at n : ℕ) → at ≡ p.addr - 8 * first → (n ≡ p.len) × (1 ≤ p.len) → AllHeldIn h p → IsHeldPart bits at n
  part_of_held p at n at_is n_is held =
      let some : 1 ≤ p.len = n_is.1 in let long : n ≡ p.len = n_is.0 in
      let low : 8 * first ≤ p.addr = (all_inside first bits pages values h is p some held).0 in (
        omega (arith, some, long),
        λ k from to.
            let index : (k + 8 * first) / 8 - first ≡ k / 8 = omega arith in
            sym (ap (λ i. get_or bits i false) index) ∙ bit_held ((k + 8 * first) / 8) (held ((k + 8 * first) / 8) (omega arith, omega arith)),
      )
