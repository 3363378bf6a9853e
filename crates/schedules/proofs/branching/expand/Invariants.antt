use Rattle.std.proofs.Common.{◌+◌, ◌-◌, ◌*◌, ◌≤◌, drop, length, take}
use Rattle.schedules.specs.Searching.{Expands, weight, weights}
use Rattle.schedules.proofs.branching.expand.Given as goal

abbrev pub invariant-positions : goal.invariant-positions
invariant-positions l =
    let left = l.branch.left.items in
    record {
      within : l.at ≤ length left;
      above : l.first + 1 ≤ l.at;
      each : Expands l.lines l.branch (take l.at left) (drop l.at left) l.initial.stack.items l.stack.items;
      weight : weights l.stack.items + l.at * weight (length left - 1) ≤ weights l.initial.stack.items + length left * weight (length left - 1);
    }

abbrev pub decreases-positions : goal.decreases-positions
decreases-positions l = l.at
