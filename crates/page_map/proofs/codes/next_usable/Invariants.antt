use Rattle.std.proofs.Common.{◌≡◌, ◌<◌, ◌≤◌, ◌-◌, ℕ, false, length}
use Rattle.page_map.specs.Codes.{page_owners}
use Rattle.page_map.specs.Owners.{is_usable, owner_of}
use Rattle.page_map.proofs.codes.next_usable.Given as goal

abbrev pub invariant-pages : goal.invariant-pages
invariant-pages l = record {
  after : l.from ≤ l.page;
  within : l.page ≤ length l.codes;
  passed : (p : ℕ) → l.from ≤ p → p < l.page → is_usable l.own (owner_of (page_owners l.codes) p) ≡ false;
}

abbrev pub decreases-pages : goal.decreases-pages
decreases-pages l = length l.codes - l.page
