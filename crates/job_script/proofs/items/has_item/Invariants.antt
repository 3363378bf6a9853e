use Rattle.std.proofs.Common.{◌≡◌, length, true}
use Rattle.std.specs.List.{list_all, list_any}
use Rattle.mvs_model.specs.Reading.{is_of}
use Rattle.job_script.specs.Items.{item_kind, items_in, is_same_item}
use Rattle.job_script.proofs.items.has_item.Given as goal

abbrev pub invariant-items : goal.invariant-items
invariant-items l = record {
  items : list_all (is_of (item_kind l.item)) (items_in l.rest) ≡ true;
  on : list_any (is_same_item l.item l.one) (items_in l.rest) ≡ list_any (is_same_item l.item l.one) (items_in l.inner);
}

abbrev pub decreases-items : goal.decreases-items
decreases-items l = length l.rest
