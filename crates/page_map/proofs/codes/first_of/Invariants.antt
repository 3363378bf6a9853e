use Rattle.std.proofs.Common.{◌≡◌, ◌<◌, ◌≤◌, ◌-◌, ℕ, false, length}
use Rattle.mvs_model.specs.Finite.{has}
use Rattle.mvs_model.specs.Storage.{is_one_of}
use Rattle.page_map.specs.Codes.{page_owners}
use Rattle.page_map.specs.Owners.{owner_of}
use Rattle.page_map.proofs.codes.first_of.Given as goal

abbrev pub invariant-pages : goal.invariant-pages
invariant-pages l = record {
  after : l.from ≤ l.page;
  within : l.page ≤ length l.codes;
  passed : (p : ℕ) → l.from ≤ p → p < l.page → has (is_one_of l.subpools) (owner_of (page_owners l.codes) p) ≡ false;
}

abbrev pub decreases-pages : goal.decreases-pages
decreases-pages l = length l.codes - l.page
