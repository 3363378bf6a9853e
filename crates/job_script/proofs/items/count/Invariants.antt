use Rattle.std.proofs.Common.{◌≡◌, ◌≤◌, ◌+◌, length}
use Rattle.job_script.specs.Items.{items_in}
use Rattle.job_script.proofs.items.count.Given as goal

abbrev pub invariant-items : goal.invariant-items
invariant-items l = record {
  counted : l.count + length (items_in l.rest) ≡ length (items_in l.inner) + 1;
  small : l.count + length l.rest ≤ length l.inner + 1;
}

abbrev pub decreases-items : goal.decreases-items
decreases-items l = length l.rest
