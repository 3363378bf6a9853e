use Rattle.std.proofs.Common.{◌+◌, ◌*◌, ◌≤◌}
use Rattle.mvs_model.specs.Reports.{page_subpool}
use Rattle.mvs_c.specs.Held.{NoRunBetween}
use Rattle.mvs_c.proofs.Mapped.{StartsAt}
use Rattle.mvs_c.proofs.held.first_on_map.Given as goal

abbrev pub invariant-loop-i : goal.invariant-loop-i
invariant-loop-i l = record {
  least : 6 + l.i ≤ l.page;
  most : l.page ≤ 12288;
  starts : StartsAt (page_subpool l.machine.state) l.machine.state.regions.below l.machine.state.regions.above l.page;
  none : NoRunBetween l.machine.state l.from (512 * l.page);
}
