-- A slab of copies that equal what they copy.
use Rattle.std.proofs.Common.{◌≡◌, List, [], ◌∷◌, Option, Some, None, refl}
use Rattle.std.specs.List.{AllZip}
use Rattle.slab.specs.Slab.{IsSlotClone}
use Rattle.cell_pool.specs.declared.entry.PoolEntry.{PoolEntry}

-- the copies are the same slots
pub same_slots : (slots copies : List (Option PoolEntry)) → AllZip (IsSlotClone (λ entry copy. copy ≡ entry)) slots copies → copies ≡ slots
same_slots [] [] all = refl
same_slots [] (c ∷ copies) all = absurd all
same_slots (s ∷ slots) [] all = absurd all
same_slots (None ∷ slots) (c ∷ copies) all = λ i. all.0 i ∷ same_slots slots copies all.1 i
same_slots (Some entry ∷ slots) (None ∷ copies) all = absurd all.0
same_slots (Some entry ∷ slots) (Some copy ∷ copies) all = λ i. Some (all.0 i) ∷ same_slots slots copies all.1 i
