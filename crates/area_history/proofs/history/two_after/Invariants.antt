use Rattle.std.proofs.Common.{◌≡◌, ◌≤◌, ◌-◌, length, drop}
use Rattle.area_history.specs.Histories.{two_after}
use Rattle.area_history.proofs.history.two_after.Given as goal

abbrev pub invariant-grants : goal.invariant-grants
invariant-grants l = record {
  within : l.done ≤ length l.grants;
  same : two_after l.doubleword l.two (drop l.done l.grants) ≡ two_after l.doubleword l.initial.two l.grants;
}

abbrev pub decreases-grants : goal.decreases-grants
decreases-grants l = length l.grants - l.done
