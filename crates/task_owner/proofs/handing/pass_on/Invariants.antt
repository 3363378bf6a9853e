use Rattle.std.proofs.Common.{◌≡◌, ◌≤◌, ◌-◌, ℕ, length}
use Rattle.task_owner.specs.Seats.{item_at}
use Rattle.task_owner.specs.Handing.{passed_below}
use Rattle.task_owner.proofs.handing.pass_on.Given as goal

abbrev pub invariant-given : goal.invariant-given
invariant-given l = record {
  within : l.from ≤ 128;
  passed : (s : ℕ) → item_at l.owned.items s ≡ passed_below l.gifts l.mother l.key l.from (item_at l.fn.owned.items s);
  sizes : length l.owned.items ≡ length l.fn.owned.items;
}

abbrev pub decreases-given : goal.decreases-given
decreases-given l = 128 - l.from
