use Rattle.std.proofs.Common.{ℕ, ◌+◌, ◌<◌, ◌≤◌}
use Rattle.mvs_model.specs.Reports.{page_subpool}
use Rattle.mvs_c.specs.Pages.{IsAssigned, IsFlagOf, flag_of}
use Rattle.mvs_c.proofs.Mapped.{StartsAt}
use Rattle.mvs_c.proofs.pages.PageFlags.fill.Given as goal

abbrev pub invariant-loop-i : goal.invariant-loop-i
invariant-loop-i l = record {
  least : 6 + l.i ≤ l.next;
  most : l.next ≤ 12288;
  starts : StartsAt (page_subpool l.machine.state) l.machine.state.regions.below l.machine.state.regions.above l.next;
  flags : (page : ℕ) → page < l.next → IsFlagOf (IsAssigned l.machine.state page) (flag_of l.self page);
}
