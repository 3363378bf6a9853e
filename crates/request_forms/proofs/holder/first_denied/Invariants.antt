use Rattle.std.proofs.Common.{◌-◌, ◌<◌, ◌≤◌}
use Rattle.mvs_model.specs.Owners.{Owners}
use Rattle.mvs_model.specs.Place.{place_at}
use Rattle.mvs_model.specs.Changes.{Granted}
use Rattle.request_forms.specs.Machine.{machine_state}
use Rattle.request_forms.proofs.holder.first_denied.Given as goal

abbrev pub invariant-halves : goal.invariant-halves
invariant-halves l = record {
  ordered : l.granted < l.end;
  most : l.end ≤ l.place.len;
  front : (o : Owners) → Granted (machine_state l.pools l.store.storage o) (place_at l.place.addr l.granted);
  not_more : (o : Owners) → Granted (machine_state l.pools l.store.storage o) (place_at l.place.addr l.end) → ⊥;
}

abbrev pub decreases-halves : goal.decreases-halves
decreases-halves l = l.end - l.granted
