use Rattle.std.proofs.Common.{◌≡◌, ◌-◌, ◌<◌, ◌≤◌, length, is_some, true}
use Rattle.page_map.specs.Owners.{owner_of}
use Rattle.subpool_store.proofs.PagesCopied.{IsCopied}
use Rattle.subpool_store.proofs.copying.copy_pages.Given as goal

abbrev pub invariant-pages : goal.invariant-pages
invariant-pages l = record {
  within : l.page ≤ length l.pages;
  found : l.page < length l.pages → is_some (owner_of l.pages l.page) ≡ true;
  copied : IsCopied l.region l.page l.copy;
}

abbrev pub decreases-pages : goal.decreases-pages
decreases-pages l = length l.pages - l.page
