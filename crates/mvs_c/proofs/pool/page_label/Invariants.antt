use Rattle.std.proofs.Common.{◌+◌, ◌≤◌}
use Rattle.mvs_model.specs.Reports.{page_subpool}
use Rattle.mvs_c.specs.Held.{IsRegionPage}
use Rattle.mvs_c.proofs.Mapped.{StartsAt}
use Rattle.mvs_c.proofs.pool.page_label.Given as goal

abbrev pub invariant-loop-i : goal.invariant-loop-i
invariant-loop-i l = record {
  least : 6 + l.i ≤ l.next;
  most : l.next ≤ 12288;
  starts : StartsAt (page_subpool l.machine.state) l.machine.state.regions.below l.machine.state.regions.above l.next;
  before : IsRegionPage l.machine.state.regions l.page → l.next ≤ l.page;
}
