-- What is held lies before the end of the regions, in every state of a run.
use Rattle.std.proofs.Common.{◌≤◌, arith, sym, ◌∙◌, nat_cmp}
use Rattle.std.proofs.lemmas.Bool.Decides.{nat_tests}
use Rattle.std.specs.FinMap.{get-empty}
use Rattle.mvs_model.specs.Card.{CardValue, IsCard}
use Rattle.mvs_model.specs.State.{State}
use Rattle.mvs_model.specs.Start.{start}
use Rattle.mvs_laws.proofs.Kept.{Closed}
use Rattle.mvs_laws.proofs.Counting.{Within}
use Rattle.mvs_model.proofs.Tests.{none_some}

-- the region below ends below the other
abbrev pub Placed : State → Type 0
Placed st = Within st × (st.regions.below ≤ 2048)

pub placed_closed : Closed Placed
placed_closed = grind (arith, nat_tests)

pub start_placed : (card : CardValue) → IsCard card → Placed (start card)
start_placed card is = ((λ d h e. none_some (sym (get-empty nat_cmp d) ∙ e)), is.below_most)
