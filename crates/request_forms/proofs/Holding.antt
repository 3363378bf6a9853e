-- What holds a doubleword of the machine.
use Rattle.std.proofs.Common.{◌≡◌, ◌⊎◌, inl, inr, ℕ, ◌+◌, ◌*◌, ◌/◌, ◌≤◌, ◌<◌, Some, None, ap, ◌∙◌, subst, arith}
use Rattle.std.specs.Option.{option_map}
use Rattle.std.specs.FinMap.{FinMap, get}
use Rattle.mvs_model.specs.declared.name.Name.{Name}
use Rattle.mvs_model.specs.declared.reason.Holder.TheVariants.{Subpool, Unowned, Part}
use Rattle.mvs_model.specs.Name.{name_cmp}
use Rattle.mvs_model.specs.Place.{place_at}
use Rattle.mvs_model.specs.Numbers.{above_begins, below_begins, page_bytes}
use Rattle.mvs_model.specs.Storage.{InRegion, Regions, Storage, holder, Covers}
use Rattle.mvs_model.specs.Owners.{Owners, entry}
use Rattle.mvs_model.specs.State.{plain}
use Rattle.mvs_model.specs.View.{in_pools}
use Rattle.mvs_model.specs.Reasons.{Holds}
use Rattle.mvs_model.proofs.Seen.{held_as}
use Rattle.mvs_model.proofs.Stand.{held_state}
use Rattle.cell_pool.specs.Agree.{Agree}
use Rattle.cell_pool.specs.Cells.{HasPart, TouchesNone}
use Rattle.cell_pool.specs.Roots.{Root, pools_of}
use Rattle.request_forms.specs.Machine.{machine_state}
use Rattle.request_forms.proofs.Bytes.{one_doubleword}
use Rattle.request_forms.proofs.Places.{plain_from}

-- the address is in the pages of a region that begins at another one
abbrev pub HasAddress : ℕ → ℕ → ℕ → Type 0
HasAddress begins pages a = (begins ≤ a) × (a < begins + page_bytes * pages)

pub in_below : (r : Regions) (a : ℕ) → HasAddress below_begins r.below a → InRegion r (place_at (8 * (a / 8)) 8)
in_below r a h = inl (omega (arith, h.0), omega (arith, h.1))

pub in_above : (r : Regions) (a : ℕ) → HasAddress above_begins r.above a → InRegion r (place_at (8 * (a / 8)) 8)
in_above r a h = inr (omega (arith, h.0), omega (arith, h.1))

pub in_none : (r : Regions) (a : ℕ) → (below_begins ≤ a → a < below_begins + page_bytes * r.below → ⊥) → (above_begins ≤ a → a < above_begins + page_bytes * r.above → ⊥) → InRegion r (place_at (8 * (a / 8)) 8) → ⊥
in_none r a below above (inl h) =
    let from : below_begins ≤ a = omega (arith, h.0) in
    let to : a < below_begins + page_bytes * r.below = omega (arith, h.1) in
    below from to
in_none r a below above (inr h) =
    let from : above_begins ≤ a = omega (arith, h.0) in
    let to : a < above_begins + page_bytes * r.above = omega (arith, h.1) in
    above from to

module _ (roots : FinMap name_cmp Root) (st : Storage) (o : Owners) (agree : Agree roots st) where
  pub none_holds : (d : ℕ) → holder st d ≡ None → get (machine_state roots st o).held d ≡ None
  none_holds d e = held_state st o (pools_of roots st) agree.parts.storage d ∙ ap (option_map (held_as (in_pools (pools_of roots st) d))) e

  pub part_holds : (a : ℕ) (name : Name) → (d : ℕ) × Covers (place_at (a / 8 * 8) 8) d × HasPart (pools_of roots st) name d → Holds (machine_state roots st o) (a / 8) (Part name)
  part_holds a name h = subst (λ d. HasPart (pools_of roots st) name d) (one_doubleword a h.0 h.1) h.2

  -- what a subpool holds outside of pools
  pub plainly : (a s : ℕ) → holder st (a / 8) ≡ Some s → TouchesNone st (pools_of roots st) s (place_at (a / 8 * 8) 8) → get (machine_state roots st o).held (a / 8) ≡ Some (plain s)
  plainly a s e none = plain_from roots st o agree s (place_at (a / 8 * 8) 8) (λ d c. ap (holder st) (one_doubleword a d c) ∙ e) none (a / 8) (covered a)
    where
      covered : (a : ℕ) → Covers (place_at (a / 8 * 8) 8) (a / 8)
      covered a = (omega arith, omega arith)

  pub subpool_holds : (a s number : ℕ) (owner : Name) → holder st (a / 8) ≡ Some s → TouchesNone st (pools_of roots st) s (place_at (a / 8 * 8) 8) → get o.owner s ≡ Some owner → entry o owner number ≡ Some s → Holds (machine_state roots st o) (a / 8) (Subpool number owner)
  subpool_holds a s number owner e none f g = (s, plainly a s e none, f, g)

  pub unowned_holds : (a s : ℕ) → holder st (a / 8) ≡ Some s → TouchesNone st (pools_of roots st) s (place_at (a / 8 * 8) 8) → get o.owner s ≡ None → Holds (machine_state roots st o) (a / 8) Unowned
  unowned_holds a s e none f = (s, plainly a s e none, f)
