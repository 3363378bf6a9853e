-- Which bytes may be read and written, by what holds their doublewords and by taken cells.
use Rattle.std.proofs.Common.{◌≡◌, ℕ, ◌+◌, ◌*◌, ◌/◌, ◌<◌, Bool, true, false, Some, None, refl, sym, ap, ◌∙◌, arith}
use Rattle.std.specs.Prelude.{IsTrue, ◌||◌}
use Rattle.std.specs.Bool.{MatchBool}
use Rattle.std.specs.Option.{option_map}
use Rattle.std.specs.FinMap.{FinMap, get, empty}
use Rattle.std.proofs.lemmas.Bool.{or_right, or_from}
use Rattle.mvs_model.specs.Name.{name_cmp}
use Rattle.mvs_model.specs.Place.{PlaceValue, place_at}
use Rattle.mvs_model.specs.Storage.{Storage, holder as held_by, Covers, has_address}
use Rattle.mvs_model.specs.Owners.{Owners}
use Rattle.mvs_model.specs.State.{pooled, is_plain, in_cell, granted}
use Rattle.mvs_model.specs.View.{in_pools, holding}
use Rattle.mvs_model.specs.Changes.{HeldPlain}
use Rattle.mvs_model.proofs.Seen.{held_as}
use Rattle.mvs_model.proofs.Stand.{held_state}
use Rattle.mvs_model.proofs.TakenCells.{in_cell_from}
use Rattle.cell_pool.specs.Agree.{Agree}
use Rattle.cell_pool.specs.Cells.{IsTakenCell}
use Rattle.cell_pool.specs.Roots.{Root, pools_of}
use Rattle.request_forms.specs.Machine.{machine_state}

-- what a test that fails says
pub outside : (P Q : Type 0) (b : Bool) → MatchBool b P Q → IsTrue b → P
outside P Q true h e = h
outside P Q false h e = absurd (let f : false ≡ true = e in cc)

pub touched : (P Q : Type 0) (b : Bool) → MatchBool b P Q → b ≡ false → Q
touched P Q true h e = absurd (let f : false ≡ true = sym e in cc)
touched P Q false h e = h

pub outside_back : (P Q R : Type 0) (b : Bool) → MatchBool b P Q → (Q → R → ⊥) → R → IsTrue b
outside_back P Q R true _ _ _ = refl
outside_back P Q R false h differ r = absurd (differ h r)

-- the doubleword of an address has no other
pub one_doubleword : (a d : ℕ) → Covers (place_at (a / 8 * 8) 8) d → d ≡ a / 8
one_doubleword a d c = let low : a / 8 * 8 < 8 * d + 8 = c.0 in let high : 8 * d < a / 8 * 8 + 8 = c.1 in omega arith

module _ (roots : FinMap name_cmp Root) (st : Storage) (o : Owners) (agree : Agree roots st) where
  -- the bytes of a taken cell may be
  pub cell_granted : (cell : PlaceValue) (a : ℕ) → IsTakenCell (pools_of roots st) cell → has_address cell a ≡ true → granted (machine_state roots st o) a ≡ true
  cell_granted cell a t inside =
      or_right (is_plain (get (machine_state roots st o).held (a / 8))) (in_cell (machine_state roots st o) a)
      (in_cell_from (machine_state roots st o) a (record { name = t.name; pool = t.pool; first = cell.addr; is_pool = t.is_pool; taken = t.taken; inside = sym (ap (λ p. has_address p a) t.place) ∙ inside }))

  -- those of a doubleword that is held outside of pools may be
  pub plain_granted : (s : ℕ) (p : PlaceValue) → HeldPlain (machine_state roots st o) s p → (a : ℕ) → Covers p (a / 8) → granted (machine_state roots st o) a ≡ true
  plain_granted s p h a c = ap (λ v. is_plain v || in_cell (machine_state roots st o) a) (h (a / 8) c)

  -- those that are free, or in a part and in no taken cell, may not be
  pub free_denied : (a : ℕ) → held_by st (a / 8) ≡ None → in_cell (machine_state roots st o) a ≡ false → granted (machine_state roots st o) a ≡ false
  free_denied a free cell = or_from _ _ (ap is_plain (held_state st o (pools_of roots st) agree.parts.storage (a / 8) ∙ ap (option_map (held_as (in_pools (pools_of roots st) (a / 8)))) free)) cell

  pub pooled_denied : (a s : ℕ) → holding st (pools_of roots st) (a / 8) ≡ Some (pooled s) → in_cell (machine_state roots st o) a ≡ false → granted (machine_state roots st o) a ≡ false
  pooled_denied a s is cell = or_from _ _ (ap is_plain (held_state st o (pools_of roots st) agree.parts.storage (a / 8) ∙ is)) cell

-- owners, where any will do
pub some_owners : Owners
some_owners = record { tasks = empty; table = empty; owner = empty }
