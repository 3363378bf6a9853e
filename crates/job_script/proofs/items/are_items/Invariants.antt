use Rattle.std.proofs.Common.{◌≡◌, length}
use Rattle.std.specs.List.{list_all}
use Rattle.mvs_model.specs.Reading.{is_of}
use Rattle.job_script.specs.Items.{item_kind, items_in}
use Rattle.job_script.proofs.items.are_items.Given as goal

abbrev pub invariant-items : goal.invariant-items
invariant-items l = record {
  on : list_all (is_of (item_kind l.item)) (items_in l.rest) ≡ list_all (is_of (item_kind l.item)) (items_in l.inner);
}

abbrev pub decreases-items : goal.decreases-items
decreases-items l = length l.rest
