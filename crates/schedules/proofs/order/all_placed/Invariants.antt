use Rattle.std.proofs.Common.{◌≡◌, ◌≤◌, ◌-◌, length}
use Rattle.schedules.specs.Orders.{all_placed}
use Rattle.schedules.proofs.order.all_placed.Given as goal

abbrev pub invariant-lines : goal.invariant-lines
invariant-lines l = record {
  within : l.at ≤ l.count;
  numbers : l.numbers.items ≡ all_placed l.step l.order l.at;
}

abbrev pub decreases-lines : goal.decreases-lines
decreases-lines l = l.count - l.at
