use Rattle.std.proofs.Common.{◌≤◌, ◌+◌, ◌-◌}
use Rattle.request_forms.specs.Access.{Copied}
use Rattle.request_forms.proofs.access.copy_up.Given as goal

abbrev pub invariant-pieces : goal.invariant-pieces
invariant-pieces l = record {
  most : l.left ≤ l.len;
  copied : Copied l.fn.store.storage (l.to + l.left) (l.from + l.left) (l.len - l.left) l.store.storage;
}

abbrev pub decreases-pieces : goal.decreases-pieces
decreases-pieces l = l.left
