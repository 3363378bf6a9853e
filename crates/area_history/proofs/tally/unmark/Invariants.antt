use Rattle.std.proofs.Common.{◌≡◌, ◌≤◌, ◌-◌, ℕ, true, length, drop}
use Rattle.area_history.specs.Leaking.{has_room, is_covered, is_marked}
use Rattle.area_history.proofs.tally.unmark.Given as goal

abbrev pub invariant-grants : goal.invariant-grants
invariant-grants l = record {
  within : l.done ≤ length l.grants;
  marks : (d : ℕ) → is_marked l.marks d ≡ true → is_covered (drop l.done l.grants) d ≡ true;
  room : (d : ℕ) → has_room l.marks d ≡ has_room l.initial.marks d;
}

abbrev pub decreases-grants : goal.decreases-grants
decreases-grants l = length l.grants - l.done
