use Rattle.std.proofs.Common.{◌≡◌, ◌<◌, ◌≤◌, ◌-◌}
use Rattle.request_forms.specs.Access.{Copied}
use Rattle.request_forms.proofs.access.copy_down.Given as goal

abbrev pub invariant-pieces : goal.invariant-pieces
invariant-pieces l = record {
  most : l.done ≤ l.len;
  held : l.store.storage.held ≡ l.fn.store.storage.held;
  copied : l.to < l.from → Copied l.fn.store.storage l.to l.from l.done l.store.storage;
}

abbrev pub decreases-pieces : goal.decreases-pieces
decreases-pieces l = l.len - l.done
