use Rattle.std.proofs.Common.{◌≤◌, ◌-◌, length}
use Rattle.page_map.specs.Codes.{page_owners}
use Rattle.page_map.specs.Owners.{is_usable}
use Rattle.page_map.specs.Several.{HasNone}
use Rattle.page_map.proofs.codes.far_usable.Given as goal

abbrev pub invariant-many : goal.invariant-many
invariant-many l = record {
  after : l.from ≤ l.page;
  within : l.page ≤ length l.codes;
  passed : HasNone (is_usable l.own) (page_owners l.codes) l.from l.page;
}

abbrev pub decreases-many : goal.decreases-many
decreases-many l = length l.codes - l.page
