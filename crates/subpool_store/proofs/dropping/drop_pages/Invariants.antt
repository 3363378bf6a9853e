use Rattle.std.proofs.Common.{◌≡◌, ◌<◌, ◌≤◌, ◌-◌, true, length}
use Rattle.mvs_model.specs.Finite.{has}
use Rattle.mvs_model.specs.Storage.{is_one_of}
use Rattle.page_map.specs.Owners.{owner_of}
use Rattle.subpool_store.specs.Edits.{IsDropped}
use Rattle.subpool_store.specs.Region.{IsOpened}
use Rattle.subpool_store.specs.Memory.{Stays}
use Rattle.subpool_store.proofs.dropping.drop_pages.Given as goal

abbrev pub invariant-pages : goal.invariant-pages
invariant-pages l = record {
  dropped : IsDropped (is_one_of l.subpools) l.fn.memory.held l.fn.pages l.page l.memory.held l.pages;
  within : l.page ≤ length l.pages;
  found : l.page < length l.pages → has (is_one_of l.subpools) (owner_of l.pages l.page) ≡ true;
  opened : IsOpened l.pages l.memory.bytes;
  stays : Stays l.memory.held l.fn.memory.bytes l.memory.bytes;
}

abbrev pub decreases-pages : goal.decreases-pages
decreases-pages l = length l.pages - l.page
