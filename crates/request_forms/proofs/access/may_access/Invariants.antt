use Rattle.std.proofs.Common.{◌≡◌, ℕ, ◌-◌, ◌<◌, ◌≤◌, true}
use Rattle.mvs_model.specs.Owners.{Owners}
use Rattle.mvs_model.specs.State.{granted}
use Rattle.request_forms.specs.Machine.{machine_state}
use Rattle.request_forms.proofs.access.may_access.Given as goal

abbrev pub invariant-walk : goal.invariant-walk
invariant-walk l = record {
  low : l.fn.place.addr ≤ l.at;
  so_far : (o : Owners) (a : ℕ) → l.fn.place.addr ≤ a → a < l.at → granted (machine_state l.pools l.store.storage o) a ≡ true;
}

abbrev pub decreases-walk : goal.decreases-walk
decreases-walk l = l.end - l.at
