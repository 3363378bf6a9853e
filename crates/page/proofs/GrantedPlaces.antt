-- The places whose bytes may be read, by the test and byte by byte.
use Rattle.std.proofs.Common.{◌≡◌, ◌+◌, ◌-◌, true, false, ap, ◌∙◌, arith}
use Rattle.std.proofs.lemmas.Bool.{false_from_ne_true}
use Rattle.mvs_model.specs.Changes.{Granted}
use Rattle.mvs_model.specs.Place.{PlaceValue}
use Rattle.mvs_model.specs.Requests.{all_granted}
use Rattle.mvs_model.specs.State.{State, granted}
use Rattle.mvs_model.proofs.Below.{below_each, each_below}

pub all_where_granted : (st : State) (p : PlaceValue) → Granted st p → all_granted st p ≡ true
all_where_granted st p h = each_below (λ i. granted st (p.addr + i)) p.len (λ i l. h (p.addr + i) (omega arith) (omega (arith, l)))

pub none_where_not : (st : State) (p : PlaceValue) → (Granted st p → ⊥) → all_granted st p ≡ false
none_where_not st p none = false_from_ne_true (all_granted st p) (λ e. none (λ a low high.
    ap (granted st) (let same : a ≡ p.addr + (a - p.addr) = omega (arith, low) in same) ∙ below_each (λ i. granted st (p.addr + i)) p.len e (a - p.addr) (omega (arith, low, high))))
