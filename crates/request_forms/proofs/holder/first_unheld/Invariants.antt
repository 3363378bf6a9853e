use Rattle.std.proofs.Common.{◌*◌, ◌-◌, ◌<◌, ◌≤◌}
use Rattle.mvs_model.specs.Owners.{Owners}
use Rattle.mvs_model.specs.Place.{place_at}
use Rattle.mvs_model.specs.Changes.{HeldPlain}
use Rattle.request_forms.specs.Machine.{machine_state}
use Rattle.request_forms.proofs.holder.first_unheld.Given as goal

abbrev pub invariant-halves : goal.invariant-halves
invariant-halves l = record {
  ordered : l.held < l.end;
  most : 8 * l.end ≤ l.place.len;
  front : (o : Owners) → HeldPlain (machine_state l.pools l.store.storage o) l.subpool (place_at l.place.addr (8 * l.held));
  not_more : (o : Owners) → HeldPlain (machine_state l.pools l.store.storage o) l.subpool (place_at l.place.addr (8 * l.end)) → ⊥;
}

abbrev pub decreases-halves : goal.decreases-halves
decreases-halves l = l.end - l.held
