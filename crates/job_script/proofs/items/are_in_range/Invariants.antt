use Rattle.std.proofs.Common.{◌≡◌, length, true}
use Rattle.std.specs.List.{list_all}
use Rattle.mvs_model.specs.Reading.{is_of, is_within}
use Rattle.job_script.specs.Items.{item_kind, items_in}
use Rattle.job_script.proofs.items.are_in_range.Given as goal

abbrev pub invariant-items : goal.invariant-items
invariant-items l = record {
  items : list_all (is_of (item_kind l.item)) (items_in l.rest) ≡ true;
  on : list_all (is_within (item_kind l.item)) (items_in l.rest) ≡ list_all (is_within (item_kind l.item)) (items_in l.inner);
}

abbrev pub decreases-items : goal.decreases-items
decreases-items l = length l.rest
